-- Laws of reading, check by check: what each loop and each return of the code shows of the definitions.
-- Assumes nothing.
use mathlib.Core.Path.{◌≡◌, refl, sym, ◌∙◌, ap, ap₂}
use mathlib.Core.Bool.{Bool, true, false, ◌&&◌, cond}
use mathlib.Core.Logic.{⊎_elim}
use mathlib.Core.List.{List}
use Prim.Native.Nat.{ℕ, zero, suc, ◌+◌, ◌*◌, ◌-◌, ◌/◌, ◌%◌, ◌^◌, ◌≤◌, ◌<◌}
use native.Mathlib.Nat.{mul-le-mul, pow-suc, pow-le-pow_right, mod-eq_of_lt, eq-or-lt_of_le, le_of_suc-le-suc, zero-mul}
use native.Mathlib.Omega.{arith}
use native.Mathlib.Numerals.{add-one}
use lib.Dec.{eqb, leb}
use lib.ListN.{length, take, drop}
use borrow.Author.Tests.{leb-true, le-leb, eqb-true, eq-eqb}
use Rattle.lex.specs.Every.{one_if}
use Rattle.lex.specs.Lists.{list_of, padded}
use Rattle.lex.proofs.Every.{both, and_left, and_right, each, each_all, one_if_le}
use Rattle.lex.proofs.Lists.{length_list, list_at, list_beyond}
use Rattle.week.specs.Rules.{bit_of, inside, word_of}
use Rattle.week.specs.Tables.{lot_ok, lot_ok_at}
use Rattle.week.proofs.Tables.{zero_first, zero_rest, halts, runs_on}
use Rattle.block.specs.Fnv.{fnv}
use Rattle.pairs.specs.Pairs.{pair_at, low, high, pair_number}
use Rattle.pairs.proofs.Numbers.{number_of}
use Rattle.block.specs.Parts.{or_zero}
use Rattle.week.specs.declared.Numbers.{Numbers}
use Rattle.block.specs.Reading.{content_in, word_in, numbers_in, words_at, words_in, pair_word_in, pair_bit_in, buffer_tests, buffers_ok, whole_blocks, holds4, block_refusal, blocks_refusal, tie_held}
use Rattle.block.proofs.Parts.{list_padded}

-- A refusal has a number

-- 2

pub record Buffers (d l g t : ℕ) : Type 0 where
  pub domain : d ≡ 24
  pub loss : l ≡ 24
  pub give : g ≡ 24
  pub ties : t ≡ 9216

pub buffers : (d l g t : ℕ) → buffers_ok d l g t ≡ true → Buffers d l g t
unfolding buffers_ok
buffers d l g t e =
    let s = each (buffer_tests d l g t) e in
    record { domain = eqb-true d 24 s.0; loss = eqb-true l 24 s.1.0; give = eqb-true g 24 s.1.1.0; ties = eqb-true t 9216 s.1.1.1.0 }

pub buffers_good : (d l g t : ℕ) → Buffers d l g t → true ≡ buffers_ok d l g t
unfolding buffers_ok
buffers_good d l g t h = sym (each_all (buffer_tests d l g t) (eq-eqb d 24 h.domain, (eq-eqb l 24 h.loss, (eq-eqb g 24 h.give, (eq-eqb t 9216 h.ties, tt)))))

-- 15

pub record Whole (F : List ℕ) : Type 0 where
  pub some : 512 ≤ length F
  pub few : length F ≤ 9216
  pub whole : length F % 512 ≡ 0

pub whole : (F : List ℕ) → whole_blocks F ≡ true → Whole F
unfolding whole_blocks
whole F e =
    let r = and_right (leb 512 (length F)) (leb (length F) 9216 && eqb (length F % 512) 0) e in
    record {
      some = leb-true 512 (length F) (and_left (leb 512 (length F)) (leb (length F) 9216 && eqb (length F % 512) 0) e);
      few = leb-true (length F) 9216 (and_left (leb (length F) 9216) (eqb (length F % 512) 0) r);
      whole = eqb-true (length F % 512) 0 (and_right (leb (length F) 9216) (eqb (length F % 512) 0) r);
    }

pub whole_good : (F : List ℕ) → Whole F → whole_blocks F ≡ true
unfolding whole_blocks
whole_good F w = both (le-leb 512 (length F) w.some) (both (le-leb (length F) 9216 w.few) (eq-eqb (length F % 512) 0 w.whole))

pub whole_last : (F : List ℕ) → 512 ≤ length F → length F ≤ 9216 → eqb (length F % 512) 0 ≡ whole_blocks F
unfolding whole_blocks
whole_last F h k = rw (le-leb 512 (length F) h, le-leb (length F) 9216 k)

-- 16 and 17, block by block

-- the hash that the code takes of a block's body
pub check_is : (F : List ℕ) (b at : ℕ) {h : ℕ} → h ≡ fnv (take (b * 512 + 508 - b * 512) (drop (b * 512) F)) → holds4 F at h ≡ holds4 F at (fnv (take 508 (drop (b * 512) F)))
check_is F b at e =
    let k : b * 512 + 508 - b * 512 ≡ 508 = omega arith in
    ap (holds4 F at) (e ∙ ap (λ (m : ℕ). fnv (take m (drop (b * 512) F))) k)

-- chains whose first part is itself an answer

module _ (F : List ℕ) where
  pub blocks_none : blocks_refusal F 0 ≡ 0
  unfolding blocks_refusal
  blocks_none = refl

  -- no block so far is refused, nor is this one
  pub blocks_next : (b : ℕ) → blocks_refusal F b ≡ 0 → block_refusal F b ≡ 0 → blocks_refusal F (b + 1) ≡ 0
  unfolding blocks_refusal
  blocks_next b e f = rw add-one (sym (runs_on (blocks_refusal F b) (block_refusal F b) e refl) ∙ f)

  -- this one is, and so the file
  pub blocks_stop : (m b : ℕ) {k : ℕ} → b < m → blocks_refusal F b ≡ 0 → k ≡ block_refusal F b → (k ≡ 0 → ⊥) → k ≡ blocks_refusal F m
  unfolding blocks_refusal
  blocks_stop zero b l e f h = absurd (omega arith)
  blocks_stop (suc m) b {k} l e f h =
      ⊎_elim
      (λ g. f ∙ (ap (block_refusal F) g ∙ runs_on (blocks_refusal F m) (block_refusal F m) (ap (blocks_refusal F) (sym g) ∙ e) refl))
      (λ g. halts (blocks_refusal F m) (block_refusal F m) (blocks_stop m b g e f h) h)
      (eq-or-lt_of_le (le_of_suc-le-suc l))

  -- a file is not refused exactly if no block is
  pub blocks_all : (m : ℕ) → ((b : ℕ) → b < m → block_refusal F b ≡ 0) → blocks_refusal F m ≡ 0
  unfolding blocks_refusal
  blocks_all zero h = refl
  blocks_all (suc m) h = sym (runs_on (blocks_refusal F m) (block_refusal F m) (blocks_all m (λ b l. h b (omega arith))) refl) ∙ h m (omega arith)

  pub blocks_each : (m b : ℕ) → b < m → blocks_refusal F m ≡ 0 → block_refusal F b ≡ 0
  unfolding blocks_refusal
  blocks_each zero b l e = absurd (omega arith)
  blocks_each (suc m) b l e =
      ⊎_elim
      (λ g. ap (block_refusal F) g ∙ zero_rest (blocks_refusal F m) (block_refusal F m) e)
      (λ g. blocks_each m b g (zero_first (blocks_refusal F m) (block_refusal F m) e))
      (eq-or-lt_of_le (le_of_suc-le-suc l))

-- Words of the file

module _ (F : List ℕ) (n k p : ℕ) where
  pub lot_inside : p < n → word_in F (k * n + p) ≡ or_zero (words_in F n k) p
  unfolding or_zero words_in words_at
  lot_inside l = sym (list_at (words_at F n k) n p l)

  pub lot_outside : n ≤ p → 0 ≡ or_zero (words_in F n k) p
  unfolding or_zero words_in
  lot_outside l = sym (list_beyond (words_at F n k) n p l)

-- the table in a buffer of 24 words
pub words_padded : (F : List ℕ) (n k : ℕ) → n ≤ 24 → list_of (or_zero (words_in F n k)) 24 ≡ padded 24 (words_in F n k)
unfolding words_in
words_padded F n k h = list_padded 24 (list_of (words_at F n k) n) (let l = length_list (words_at F n k) n in omega arith)

-- a pair's number is small
pub number_small : (n p q : ℕ) → p < q → q < n → n ≤ 24 → pair_number n p q ≤ 600
number_small n p q h g l =
    let b = (number_of n l p q h g).below in
    let m = mul-le-mul {n₁ = n} {m₁ = n - 1} {n₂ = 24} {m₂ = 24} l (omega arith) in
    omega arith

-- 3

pub lot_held : (D L G : List ℕ) (p : ℕ) {x y z : ℕ} → x ≡ or_zero D p → y ≡ or_zero L p → z ≡ or_zero G p → lot_ok x y z ≡ lot_ok_at D L G p
unfolding lot_ok_at or_zero
lot_held D L G p d l g = rw (d, l, g)

-- 4, of one word

pub tie_held_lem : (F : List ℕ) (n i : ℕ) {p q x y z m : ℕ} → p ≡ low (pair_at n (i / 16)) → q ≡ high (pair_at n (i / 16)) → x ≡ word_in F p → y ≡ word_in F q → z ≡ word_in F (3 * n + i) → m ≡ cond (bit_of x (i % 16)) y 0 → inside z m ≡ tie_held F n i
unfolding tie_held
tie_held_lem F n i e f g h j k = ap₂ inside j (k ∙ ap₂ (λ (a b : ℕ). cond (bit_of a (i % 16)) b 0) (g ∙ ap (word_in F) e) (h ∙ ap (word_in F) f))

-- A word from its bits

pub word_small : (f : ℕ → Bool) (k : ℕ) → word_of f k < 2 ^ k
unfolding word_of
word_small f zero = omega arith
word_small f (suc k) =
    let r = word_small f k in
    let p = pow-suc 2 k in
    let v : one_if (f k) * 2 ^ k ≤ 1 * 2 ^ k = mul-le-mul (one_if_le (f k)) (omega arith) in
    omega arith

pub word_below : (f : ℕ → Bool) (k m : ℕ) {s : ℕ} → s ≡ word_of f k → k ≤ m → s < 2 ^ m
word_below f k m e h = let r = word_small f k in let p : 2 ^ k ≤ 2 ^ m = pow-le-pow_right (omega arith) h in omega arith

pub word_none : (f : ℕ → Bool) → 0 ≡ word_of f 0
unfolding word_of
word_none f = refl

-- bit w is put in, or not
pub word_in_more : (f : ℕ → Bool) {word : ℕ} (w : ℕ) → w < 16 → word ≡ word_of f w → f w ≡ true → word + 1 * 2 ^ w % 65536 ≡ word_of f (w + 1)
unfolding word_of
word_in_more f w l e g =
    let k : w ≤ 15 = omega arith in
    let p : 2 ^ w ≤ 2 ^ 15 = pow-le-pow_right (omega arith) k in
    let m : 1 * 2 ^ w % 65536 ≡ 1 * 2 ^ w = mod-eq_of_lt (omega arith) in
    rw (add-one, m, e, g) refl

pub word_out_more : (f : ℕ → Bool) {word : ℕ} (w : ℕ) → word ≡ word_of f w → f w ≡ false → word ≡ word_of f (w + 1)
unfolding word_of
word_out_more f w e g = rw (add-one, e, g) (let z = zero-mul (2 ^ w) in omega arith)

-- bit w of the word for the higher lot, from the word of the lower
pub bit_is : (F : List ℕ) (n p q v w : ℕ) {x : ℕ} {r : Bool} → x ≡ pair_word_in F n p q w → r ≡ bit_of x v → pair_bit_in F n p q v w ≡ r
unfolding pair_bit_in
bit_is F n p q v w e f = ap (λ (x : ℕ). bit_of x v) (sym e) ∙ sym f

-- The numbers of a file
pub numbers_read : (F : List ℕ) {n a b alternative gap helper : ℕ} → n ≡ content_in F 0 → a ≡ content_in F 1 → b ≡ content_in F 2 → alternative ≡ content_in F 3 → gap ≡ content_in F 4 → helper ≡ content_in F 5
    → ◌≡◌ {A = Numbers} (record { n = n; a = a; b = b; alternative = alternative; gap = gap; helper = helper }) (numbers_in F)
unfolding numbers_in
numbers_read F e f g h j k = rw (e, f, g, h, j, k)
