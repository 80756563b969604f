-- Laws of the content: which byte and which word stands where.
-- Assumes nothing.
use mathlib.Core.Bool.{true}
use mathlib.Core.Path.{◌≡◌, ◌∙◌, ap, ap₂}
use Prim.Native.Nat.{ℕ, zero, suc, ◌+◌, ◌*◌, ◌-◌, ◌/◌, ◌%◌, ◌≤◌, ◌<◌}
use native.Mathlib.Omega.{arith}
use mathlib.Core.List.{List}
use lib.ListN.{get_or}
use borrow.Author.Tests.{lt-ltb, le-ltb}
use Rattle.std.specs.Int.{w16, w32, to_le_bytes}
use Rattle.week.specs.declared.Numbers.{Numbers}
use Rattle.week.specs.Rules.{tie_word}
use Rattle.week.specs.Tables.{Week, lots, numbers_ok}
use Rattle.week.proofs.Tables.{limits}
use Rattle.pairs.specs.Pairs.{pair_at, low, high}
use Rattle.block.specs.Parts.{byte_of}
use Rattle.block.specs.Content.{number_at, pair_word, table_word, content_size, content_byte}
use Rattle.block.specs.File.{body_byte}
use Rattle.block.proofs.Bytes.{bytes_16, bytes_32}

-- Numbers within their limits are bytes

pub number_small : (N : Numbers) (i : ℕ) → numbers_ok N ≡ true → number_at N i < 256
unfolding number_at
number_small N zero h = let l = limits N h in omega arith
number_small N (suc zero) h = let l = limits N h in omega arith
number_small N (suc (suc zero)) h = let l = limits N h in omega arith
number_small N (suc (suc (suc zero))) h = let l = limits N h in omega arith
number_small N (suc (suc (suc (suc zero)))) h = let l = limits N h in omega arith
number_small N (suc (suc (suc (suc (suc zero))))) h = let l = limits N h in omega arith
number_small N (suc (suc (suc (suc (suc (suc i)))))) h = omega arith

-- Words of the tables

module _ (W : Week) (j : ℕ) where
  pub table_domain : j < lots W → get_or W.domain j 0 ≡ table_word W j
  unfolding table_word
  table_domain l = rw (lt-ltb j (lots W) l)

  pub table_loss : lots W ≤ j → j < 2 * lots W → get_or W.loss (j - lots W) 0 ≡ table_word W j
  unfolding table_word
  table_loss h l = rw (le-ltb j (lots W) h, lt-ltb j (2 * lots W) l)

  pub table_give : 2 * lots W ≤ j → j < 3 * lots W → get_or W.give (j - 2 * lots W) 0 ≡ table_word W j
  unfolding table_word
  table_give h l = let k : lots W ≤ j = omega arith in rw (le-ltb j (lots W) k, le-ltb j (2 * lots W) h, lt-ltb j (3 * lots W) l)

  pub table_pair : 3 * lots W ≤ j → pair_word W ((j - 3 * lots W) / 16) ((j - 3 * lots W) % 16) ≡ table_word W j
  unfolding table_word
  table_pair h =
      let k : lots W ≤ j = omega arith in
      let m : 2 * lots W ≤ j = omega arith in
      rw (le-ltb j (lots W) k, le-ltb j (2 * lots W) m, le-ltb j (3 * lots W) h)

-- a word of a pair, from the lots of the pair
pub pair_word_lem : (W : Week) (r v : ℕ) {p q : ℕ} → p ≡ low (pair_at (lots W) r) → q ≡ high (pair_at (lots W) r) → tie_word (lots W) W.ties p v q ≡ pair_word W r v
unfolding pair_word
pair_word_lem W r v e f = ap₂ (λ (p q : ℕ). tie_word (lots W) W.ties p v q) e f

pub table_tie : (W : Week) (j : ℕ) {n : ℕ} {t : List ℕ} {p q x : ℕ} → 3 * lots W ≤ j → p ≡ low (pair_at (lots W) ((j - 3 * lots W) / 16)) → q ≡ high (pair_at (lots W) ((j - 3 * lots W) / 16))
    → n ≡ lots W → t ≡ W.ties → x ≡ tie_word n t p ((j - 3 * lots W) % 16) q → x ≡ table_word W j
table_tie W j {n} {t} {p} {q} h e f a b g =
    g
    ∙ (ap₂ (λ (m : ℕ) (s : List ℕ). tie_word m s p ((j - 3 * lots W) % 16) q) a b
    ∙ (pair_word_lem W ((j - 3 * lots W) / 16) ((j - 3 * lots W) % 16) e f ∙ table_pair W j h))

-- Bytes of the content

module _ (W : Week) (i : ℕ) where
  pub content_number : i < 6 → number_at W.numbers i ≡ content_byte W i
  unfolding content_byte
  content_number l = rw (lt-ltb i 6 l)

  pub content_word : 6 ≤ i → i < content_size (lots W) → byte_of (table_word W ((i - 6) / 2)) ((i - 6) % 2) ≡ content_byte W i
  unfolding content_byte
  content_word h l = rw (le-ltb i 6 h, lt-ltb i (content_size (lots W)) l)

  -- a byte of a word as the library gives it
  pub content_word_of : {x : ℕ} {s : List ℕ} → 6 ≤ i → i < content_size (lots W) → x ≡ table_word W ((i - 6) / 2) → s ≡ to_le_bytes w16 x → get_or s ((i - 6) % 2) 0 ≡ content_byte W i
  content_word_of {x} h l e f =
      ap (λ (s : List ℕ). get_or s ((i - 6) % 2) 0) f
      ∙ (bytes_16 x ((i - 6) % 2) (omega arith)
      ∙ (ap (λ (y : ℕ). byte_of y ((i - 6) % 2)) e ∙ content_word h l))

  pub content_rest : 6 ≤ i → content_size (lots W) ≤ i → 0 ≡ content_byte W i
  unfolding content_byte
  content_rest h l = rw (le-ltb i 6 h, le-ltb i (content_size (lots W)) l)

-- Bytes of a block's body

module _ (W : Week) (b i : ℕ) where
  pub body_number : i < 4 → byte_of b i ≡ body_byte W b i
  unfolding body_byte
  body_number l = rw (lt-ltb i 4 l)

  pub body_number_of : {s : List ℕ} → i < 4 → s ≡ to_le_bytes w32 b → get_or s i 0 ≡ body_byte W b i
  body_number_of l e = ap (λ (s : List ℕ). get_or s i 0) e ∙ (bytes_32 b i l ∙ body_number l)

  pub body_content : 4 ≤ i → content_byte W (b * 504 + (i - 4)) ≡ body_byte W b i
  unfolding body_byte
  body_content l = rw (le-ltb i 4 l)
