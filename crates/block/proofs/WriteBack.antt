-- Writing what was read gives back the bytes: every file that is not refused is the file of its week, so a week has exactly one.
-- Assumes nothing.
use mathlib.Core.Path.{◌≡◌, refl, sym, ◌∙◌, ap}
use mathlib.Core.Bool.{true}
use mathlib.Core.List.{List}
use Prim.Native.Nat.{ℕ, zero, suc, ◌+◌, ◌*◌, ◌-◌, ◌/◌, ◌%◌, ◌≤◌, ◌<◌}
use native.Mathlib.Decide.{dec_lt}
use native.Mathlib.Omega.{arith}
use lib.ListN.{length, get_or, take, drop, length-drop}
use lib.Seq.{ext_get_or, get_or-take, get_or-drop, length-take-le}
use borrow.Author.Tests.{eqb-true}
use Rattle.lex.specs.Lists.{list_of}
use Rattle.lex.proofs.Every.{every_at}
use Rattle.lex.proofs.Lists.{length_list, list_at}
use Rattle.week.specs.Tables.{Week, refusal}
use Rattle.week.proofs.Tables.{passed_first, passed_rest, passed_last}
use Rattle.block.specs.Fnv.{fnv}
use Rattle.pairs.specs.Pairs.{pair_at, low, high}
use Rattle.pairs.proofs.Numbers.{count_twice, pair_of}
use Rattle.block.specs.Parts.{byte_of}
use Rattle.block.specs.Content.{number_at, pair_word, table_word, content_size, content_byte}
use Rattle.block.specs.File.{blocks, body_byte, body, block_of, file_byte, file_of}
use Rattle.block.specs.Reading.{content_in, word_in, numbers_in, words_in, pair_word_in, week_of, week_in, byte_is, holds4, block_refusal, fills_at, filling_ok, file_refusal}
use Rattle.block.proofs.Parts.{or_zero_lem}
use Rattle.block.proofs.Sizes.{size_words}
use Rattle.block.proofs.Content.{table_domain, table_loss, table_give, table_pair, content_number, content_word, content_rest, body_number, body_content}
use Rattle.block.proofs.Checks.{blocks_each, lot_inside}
use Rattle.block.proofs.Ties.{tie_before, tie_read}
use Rattle.block.proofs.Given.{Held, held, week_fine}
use Rattle.block.proofs.RoundTrip.{body_at, check_at_lem}

-- every element of a file is a byte, as the code's are
abbrev pub Bytes : List ℕ → Type 0
Bytes F = (i : ℕ) → get_or F i 0 < 256

-- the four bytes of a number that stands
pub holds_at : (F : List ℕ) (at x : ℕ) → holds4 F at x ≡ true → (j : ℕ) → j < 4 → get_or F (at + j) 0 ≡ byte_of x j
unfolding holds4 byte_is
holds_at F at x e j l = eqb-true (get_or F (at + j) 0) (byte_of x j) (every_at (byte_is F at x) 4 j e l)

-- what a block that is not refused says
pub check_stands : (F : List ℕ) (b : ℕ) → block_refusal F b ≡ 0 → holds4 F (b * 512 + 508) (fnv (take 508 (drop (b * 512) F))) ≡ true
unfolding block_refusal
check_stands F b e = passed_first (holds4 F (b * 512 + 508) (fnv (take 508 (drop (b * 512) F)))) 16 _ (λ z. omega arith) e

number_stands : (F : List ℕ) (b : ℕ) → block_refusal F b ≡ 0 → holds4 F (b * 512) b ≡ true
unfolding block_refusal
number_stands F b e = passed_last (holds4 F (b * 512) b) 17 (λ z. omega arith) (passed_rest (holds4 F (b * 512 + 508) (fnv (take 508 (drop (b * 512) F)))) 16 _ (λ z. omega arith) e)

number_in : (F : List ℕ) (i : ℕ) → i < 6 → number_at (numbers_in F) i ≡ content_in F i
unfolding number_at numbers_in
number_in F zero l = refl
number_in F (suc zero) l = refl
number_in F (suc (suc zero)) l = refl
number_in F (suc (suc (suc zero))) l = refl
number_in F (suc (suc (suc (suc zero)))) l = refl
number_in F (suc (suc (suc (suc (suc zero))))) l = refl
number_in F (suc (suc (suc (suc (suc (suc i)))))) l = absurd (omega arith)

-- the two bytes of a word
word_low : (F : List ℕ) → Bytes F → (j : ℕ) → byte_of (word_in F j) 0 ≡ content_in F (6 + 2 * j)
unfolding byte_of word_in content_in
word_low F s j = let a = s ((6 + 2 * j) / 504 * 512 + 4 + (6 + 2 * j) % 504) in omega arith

word_high : (F : List ℕ) → Bytes F → (j : ℕ) → byte_of (word_in F j) 1 ≡ content_in F (6 + 2 * j + 1)
unfolding byte_of word_in content_in
word_high F s j = let a = s ((6 + 2 * j) / 504 * 512 + 4 + (6 + 2 * j) % 504) in let b = s ((6 + 2 * j + 1) / 504 * 512 + 4 + (6 + 2 * j + 1) % 504) in omega arith

module _ (F : List ℕ) (s : Bytes F) (h : Held F) where
  abbrev n : ℕ
  n = (numbers_in F).n

  abbrev W : Week
  W = week_in F

  pair_in : (r v : ℕ) → v < 16 → 2 * r + 1 ≤ n * (n - 1) → pair_word W r v ≡ word_in F (3 * n + r * 16 + v)
  unfolding pair_word week_of pair_word_in
  pair_in r v k l =
      let o = pair_of n h.limits.few r (omega (arith, count_twice n h.limits.few)) in
      let lt = o.order in
      let m = o.inside in
      tie_read F n (low (pair_at n r)) (high (pair_at n r)) v (omega arith) m k
      ∙ (sym (tie_before F n v lt) ∙ ap (λ (x : ℕ). word_in F (3 * n + x * 16 + v)) o.number)

  word_at : (k p : ℕ) → p < n → get_or (words_in F n k) p 0 ≡ word_in F (k * n + p)
  word_at k p l = sym (or_zero_lem (words_in F n k) p) ∙ sym (lot_inside F n k p l)

  table_in : (j : ℕ) → j < 3 * n + 8 * (n * (n - 1)) → table_word W j ≡ word_in F j
  unfolding week_of
  table_in j l = elim (dec_lt j n) [
    | yes a ↦ let e : 0 * n + j ≡ j = omega arith in sym (table_domain W j a) ∙ (word_at 0 j a ∙ ap (word_in F) e)
    | no a ↦ elim (dec_lt j (2 * n)) [
      | yes b ↦ let e : 1 * n + (j - n) ≡ j = omega arith in sym (table_loss W j (omega arith) b) ∙ (word_at 1 (j - n) (omega arith) ∙ ap (word_in F) e)
      | no b ↦ elim (dec_lt j (3 * n)) [
        | yes c ↦ let e : 2 * n + (j - 2 * n) ≡ j = omega arith in sym (table_give W j (omega arith) c) ∙ (word_at 2 (j - 2 * n) (omega arith) ∙ ap (word_in F) e)
        | no c ↦ let e : 3 * n + (j - 3 * n) / 16 * 16 + (j - 3 * n) % 16 ≡ j = omega arith in sym (table_pair W j (omega arith)) ∙ (pair_in ((j - 3 * n) / 16) ((j - 3 * n) % 16) (omega arith) (omega arith) ∙ ap (word_in F) e)
      ]
    ]
  ]

  content_in_lem : (c : ℕ) → c < blocks n * 504 → content_byte W c ≡ content_in F c
  unfolding week_of filling_ok fills_at
  content_in_lem c l = elim (dec_lt c 6) [
    | yes a ↦ sym (content_number W c a) ∙ number_in F c a
    | no a ↦ elim (dec_lt c (content_size n)) [
      | yes b ↦
          let z = size_words n in
          let j : ℕ = (c - 6) / 2 in
          sym (content_word W c (omega arith) b) ∙ (ap (λ (x : ℕ). byte_of x ((c - 6) % 2)) (table_in ((c - 6) / 2) (omega arith)) ∙ byte c (omega arith))
      | no b ↦
          let e : content_size n + (c - content_size n) ≡ c = omega arith in
          sym (content_rest W c (omega arith) (omega arith))
          ∙ (sym (eqb-true (content_in F (content_size n + (c - content_size n))) 0 (every_at (fills_at F n) (blocks n * 504 - content_size n) (c - content_size n) h.filling (omega arith))) ∙ ap (content_in F) e)
    ]
  ]
    where
      byte : (c : ℕ) → 6 ≤ c → byte_of (word_in F ((c - 6) / 2)) ((c - 6) % 2) ≡ content_in F c
      byte c m = elim (dec_lt ((c - 6) % 2) 1) [
        | yes a ↦
            let z : (c - 6) % 2 ≡ 0 = omega arith in
            let e : 6 + 2 * ((c - 6) / 2) ≡ c = omega arith in
            ap (byte_of (word_in F ((c - 6) / 2))) z ∙ (word_low F s ((c - 6) / 2) ∙ ap (content_in F) e)
        | no a ↦
            let z : (c - 6) % 2 ≡ 1 = omega arith in
            let e : 6 + 2 * ((c - 6) / 2) + 1 ≡ c = omega arith in
            ap (byte_of (word_in F ((c - 6) / 2))) z ∙ (word_high F s ((c - 6) / 2) ∙ ap (content_in F) e)
      ]

  block_in : (b : ℕ) → b < blocks n → block_refusal F b ≡ 0
  block_in b l = blocks_each F (length F / 512) b (let e = h.needed in omega arith) h.checked

  body_in : (b i : ℕ) → b < blocks n → i < 508 → body_byte W b i ≡ get_or F (b * 512 + i) 0
  unfolding content_in
  body_in b i l m = elim (dec_lt i 4) [
    | yes a ↦ sym (body_number W b i a) ∙ sym (holds_at F (b * 512) b (number_stands F b (block_in b l)) i a)
    | no a ↦
        let e : (b * 504 + (i - 4)) / 504 * 512 + 4 + (b * 504 + (i - 4)) % 504 ≡ b * 512 + i = omega arith in
        sym (body_content W b i (omega arith)) ∙ (content_in_lem (b * 504 + (i - 4)) (omega arith) ∙ ap (λ (k : ℕ). get_or F k 0) e)
  ]

  body_is : (b : ℕ) → b < blocks n → body W b ≡ take 508 (drop (b * 512) F)
  unfolding body
  body_is b l =
      let e = h.needed in
      let d = length-drop (b * 512) F in
      let t : length (take 508 (drop (b * 512) F)) ≡ 508 = length-take-le 508 (drop (b * 512) F) (omega arith) in
      let k = length_list (body_byte W b) 508 in
      ext_get_or 0 (list_of (body_byte W b) 508) (take 508 (drop (b * 512) F)) (k ∙ sym t)
      (λ i m. let o : i < 508 = omega arith in list_at (body_byte W b) 508 i o ∙ (body_in b i l o ∙ (sym (get_or-drop (b * 512) F i 0) ∙ sym (get_or-take 508 (drop (b * 512) F) i 0 o))))

  byte_in : (k : ℕ) → k < blocks n * 512 → file_byte W k ≡ get_or F k 0
  unfolding file_byte
  byte_in k l = elim (dec_lt (k % 512) 508) [
    | yes a ↦
        let e : k / 512 * 512 + k % 512 ≡ k = omega arith in
        body_at W (k / 512) (k % 512) a ∙ (body_in (k / 512) (k % 512) (omega arith) a ∙ ap (λ (i : ℕ). get_or F i 0) e)
    | no a ↦
        let j : k % 512 ≡ 508 + (k % 512 - 508) = omega arith in
        let e : k / 512 * 512 + 508 + (k % 512 - 508) ≡ k = omega arith in
        let b : k / 512 < blocks n = omega arith in
        ap (λ (i : ℕ). get_or (block_of W (k / 512)) i 0) j
        ∙ (check_at_lem W (k / 512) (k % 512 - 508) (omega arith)
        ∙ (ap (λ (t : List ℕ). byte_of (fnv t) (k % 512 - 508)) (body_is (k / 512) b)
        ∙ (sym (holds_at F (k / 512 * 512 + 508) (fnv (take 508 (drop (k / 512 * 512) F))) (check_stands F (k / 512) (block_in (k / 512) b)) (k % 512 - 508) (omega arith)) ∙ ap (λ (i : ℕ). get_or F i 0) e)))
  ]

  file_is : file_of W ≡ F
  unfolding file_of week_of
  file_is =
      let k = length_list (file_byte W) (blocks n * 512) in
      ext_get_or 0 (list_of (file_byte W) (blocks n * 512)) F (k ∙ sym h.needed) (λ i l. list_at (file_byte W) (blocks n * 512) i (omega arith) ∙ byte_in i (omega arith))

-- writing what was read gives back the bytes, and is not refused
pub write_back : (F : List ℕ) → Bytes F → file_refusal F ≡ 0 → file_of (week_in F) ≡ F
write_back F s e = file_is F s (held F e)

pub week_back : (F : List ℕ) → Bytes F → file_refusal F ≡ 0 → refusal (week_in F) ≡ 0
week_back F s e = week_fine F e

-- a week has exactly one file
pub one_file : (W : Week) (F : List ℕ) → Bytes F → file_refusal F ≡ 0 → week_in F ≡ W → F ≡ file_of W
one_file W F s e w = sym (write_back F s e) ∙ ap file_of w
