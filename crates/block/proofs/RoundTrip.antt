-- Reading what was written gives back the numbers and tables.
-- Assumes nothing.
use mathlib.Core.Path.{◌≡◌, refl, sym, ◌∙◌, ap, ap₂, subst⁻¹}
use mathlib.Core.Bool.{Bool, true}
use mathlib.Core.List.{List, ◌++◌}
use Prim.Native.Nat.{ℕ, zero, suc, ◌+◌, ◌*◌, ◌-◌, ◌/◌, ◌%◌, ◌^◌, ◌≤◌, ◌<◌}
use native.Mathlib.Nat.{add_comm, div-add-mod', pow-succ', mod-eq_of_lt}
use native.Mathlib.Decide.{dec_lt}
use native.Mathlib.Omega.{arith}
use lib.Arith.{mod-mul}
use lib.Pow.{pow_pos}
use lib.Dec.{eqb}
use lib.ListN.{length, get_or, take, drop, get_or-append, length-drop}
use lib.Seq.{ext_get_or, get_or-append-add, get_or-take, get_or-drop, length-take-le}
use borrow.Author.Tests.{lt-ltb, eq-eqb}
use Rattle.lex.specs.Every.{one_if}
use Rattle.lex.specs.Lists.{list_of}
use Rattle.lex.proofs.Every.{false_of, every_true, every_at}
use Rattle.lex.proofs.Lists.{length_list, list_at}
use Rattle.week.specs.declared.Numbers.{Numbers}
use Rattle.week.specs.Rules.{bit_of, tie_word, together, word_of}
use Rattle.week.specs.Tables.{Week, week, lots, pair_rules, refusal, admits, numbers_ok, lengths_ok, words_ok, bit_ok, word_ok, pair_ok, lot_ties_ok, ties_ok}
use Rattle.week.proofs.Words.{bit_zero}
use Rattle.week.proofs.Tables.{Limits, accepted, Right, bit_read, goes_on, goes_off, passed_rest, passed_last}
use Rattle.block.specs.Fnv.{fnv}
use Rattle.pairs.specs.Pairs.{pair_at, low, high, pair_number}
use Rattle.pairs.proofs.Pairs.{pair_low, pair_high}
use Rattle.pairs.proofs.Numbers.{number_of}
use Rattle.block.specs.Parts.{byte_of}
use Rattle.block.specs.Content.{number_at, pair_word, table_word, content_size, content_byte}
use Rattle.block.specs.File.{blocks, body_byte, body, block_of, file_byte, file_of}
use Rattle.block.specs.Reading.{content_in, word_in, numbers_in, words_at, words_in, pair_word_in, pair_bit_in, tie_in, ties_at, ties_in, week_of, week_in, byte_is, holds4, block_refusal, blocks_refusal, fills_at, filling_ok, file_refusal}
use Rattle.block.proofs.Sizes.{size_words, size_some, blocks_small, blocks_some, blocks_hold}
use Rattle.block.proofs.Content.{table_domain, table_loss, table_give, table_pair, pair_word_lem, content_number, content_word, content_rest, body_number, body_content}
use Rattle.block.proofs.File.{length_body}
use Rattle.block.proofs.Checks.{blocks_all, numbers_read}
use Rattle.block.proofs.Ties.{tie_before, tie_after, tie_same, place_low, place_high}
use Rattle.block.proofs.Given.{not_refused}

-- Numbers in bytes

two_bytes : (x : ℕ) → x < 65536 → byte_of x 0 + 256 * byte_of x 1 ≡ x
unfolding byte_of
two_bytes x l = let a : x / 1 ≡ x = omega arith in omega arith

-- A word is made from its bits

bit_value : (x k : ℕ) → k < 16 → one_if (bit_of x k) ≡ x / 2 ^ k % 2
unfolding bit_of
bit_value x k l = rw (lt-ltb k 16 l) (go (x / 2 ^ k % 2) (omega arith))
  where
    go : (d : ℕ) → d < 2 → one_if (eqb d 1) ≡ d
    go zero h = refl
    go (suc zero) h = refl
    go (suc (suc d)) h = absurd (omega arith)

word_bits : (x k : ℕ) → k ≤ 16 → word_of (bit_of x) k ≡ x % 2 ^ k
unfolding word_of
word_bits x zero l = let a : x % 1 ≡ 0 = omega arith in sym a
word_bits x (suc k) l =
    ap₂ ◌+◌ (word_bits x k (omega arith)) (ap (λ (d : ℕ). d * 2 ^ k) (bit_value x k l))
    ∙ (add_comm (x % 2 ^ k) (x / 2 ^ k % 2 * 2 ^ k)
    ∙ (sym (mod-mul x (omega arith) (pow_pos k)) ∙ ap (λ (m : ℕ). x % m) (sym (pow-succ' 2 k))))

word_cong : (f g : ℕ → Bool) (k : ℕ) → ((w : ℕ) → w < k → f w ≡ g w) → word_of f k ≡ word_of g k
unfolding word_of
word_cong f g zero h = refl
word_cong f g (suc k) h = ap₂ (λ (a : ℕ) (t : Bool). a + one_if t * 2 ^ k) (word_cong f g k (λ w l. h w (omega arith))) (h k (omega arith))

-- a word with the bits f is the word made from f
word_from : (f : ℕ → Bool) (x : ℕ) → x < 65536 → ((w : ℕ) → w < 16 → f w ≡ bit_of x w) → word_of f 16 ≡ x
word_from f x l h = word_cong f (bit_of x) 16 h ∙ (word_bits x 16 (omega arith) ∙ mod-eq_of_lt l)

-- the place of a word, by its lots and its slot
tie_place : (n : ℕ) (t : List ℕ) (i : ℕ) → tie_word n t (i / 16 / n) (i % 16) (i / 16 % n) ≡ get_or t i 0
unfolding tie_word
tie_place n t i =
    let a : i / 16 / n * n + i / 16 % n ≡ i / 16 = div-add-mod' (i / 16) n in
    let b : i / 16 * 16 + i % 16 ≡ i = omega arith in
    ap (λ (k : ℕ). get_or t (k * 16 + i % 16) 0) a ∙ ap (λ (k : ℕ). get_or t k 0) b

-- every word of the tables has 16 bits, as the code's do
pub record Words16 (W : Week) : Type 0 where
  pub domain : (i : ℕ) → get_or W.domain i 0 < 65536
  pub loss : (i : ℕ) → get_or W.loss i 0 < 65536
  pub give : (i : ℕ) → get_or W.give i 0 < 65536
  pub ties : (i : ℕ) → get_or W.ties i 0 < 65536

tie16 : (W : Week) → Words16 W → (p v q : ℕ) → tie_word (lots W) W.ties p v q < 65536
unfolding tie_word
tie16 W s p v q = s.ties ((p * lots W + q) * 16 + v)

-- What stands in a written file

holds_all : (F : List ℕ) (at x : ℕ) → ((j : ℕ) → j < 4 → get_or F (at + j) 0 ≡ byte_of x j) → holds4 F at x ≡ true
unfolding holds4 byte_is
holds_all F at x h = every_true (byte_is F at x) 4 (λ j l. eq-eqb (get_or F (at + j) 0) (byte_of x j) (h j l))

module _ (W : Week) where
  pub file_at : (b i : ℕ) → b < blocks (lots W) → i < 512 → get_or (file_of W) (b * 512 + i) 0 ≡ get_or (block_of W b) i 0
  unfolding file_of file_byte
  file_at b i h l =
      let q : (b * 512 + i) / 512 ≡ b = omega arith in
      let r : (b * 512 + i) % 512 ≡ i = omega arith in
      list_at (file_byte W) (blocks (lots W) * 512) (b * 512 + i) (omega arith) ∙ rw (q, r)

  pub body_at : (b i : ℕ) → i < 508 → get_or (block_of W b) i 0 ≡ body_byte W b i
  unfolding block_of body
  body_at b i l = get_or-append (list_of (body_byte W b) 508) (list_of (byte_of (fnv (list_of (body_byte W b) 508))) 4) 0 i (let h = length_list (body_byte W b) 508 in omega arith) ∙ list_at (body_byte W b) 508 i l

  pub check_at_lem : (b j : ℕ) → j < 4 → get_or (block_of W b) (508 + j) 0 ≡ byte_of (fnv (body W b)) j
  unfolding block_of
  check_at_lem b j l =
      ap (λ (m : ℕ). get_or (body W b ++ list_of (byte_of (fnv (body W b))) 4) (m + j) 0) (sym (length_body W b))
      ∙ (get_or-append-add (body W b) (list_of (byte_of (fnv (body W b))) 4) j 0 ∙ list_at (byte_of (fnv (body W b))) 4 j l)

  in_body : (b i : ℕ) → i < 508 → body_byte W b i ≡ get_or (body W b) i 0
  unfolding body
  in_body b i l = sym (list_at (body_byte W b) 508 i l)

  pub length_file : length (file_of W) ≡ blocks (lots W) * 512
  unfolding file_of
  length_file = length_list (file_byte W) (blocks (lots W) * 512)

  content_of : (c : ℕ) → c < blocks (lots W) * 504 → content_in (file_of W) c ≡ content_byte W c
  unfolding content_in
  content_of c l =
      let a : c / 504 * 512 + 4 + c % 504 ≡ c / 504 * 512 + (4 + c % 504) = omega arith in
      let z : c / 504 * 504 + (4 + c % 504 - 4) ≡ c = omega arith in
      ap (λ (k : ℕ). get_or (file_of W) k 0) a
      ∙ (file_at (c / 504) (4 + c % 504) (omega arith) (omega arith)
      ∙ (body_at (c / 504) (4 + c % 504) (omega arith)
      ∙ (sym (body_content W (c / 504) (4 + c % 504) (omega arith)) ∙ ap (content_byte W) z)))

  -- 16 and 17

  body_of : (b : ℕ) → b < blocks (lots W) → take 508 (drop (b * 512) (file_of W)) ≡ body W b
  body_of b h =
      let n = length_file in
      let d = length-drop (b * 512) (file_of W) in
      let t : length (take 508 (drop (b * 512) (file_of W))) ≡ 508 = length-take-le 508 (drop (b * 512) (file_of W)) (omega arith) in
      ext_get_or 0 (take 508 (drop (b * 512) (file_of W))) (body W b) (t ∙ sym (length_body W b)) (λ i l. place i (omega arith))
    where
      place : (i : ℕ) → i < 508 → get_or (take 508 (drop (b * 512) (file_of W))) i 0 ≡ get_or (body W b) i 0
      place i l = get_or-take 508 (drop (b * 512) (file_of W)) i 0 l ∙ (get_or-drop (b * 512) (file_of W) i 0 ∙ (file_at b i h (omega arith) ∙ (body_at b i l ∙ in_body b i l)))

  block_right : (b : ℕ) → b < blocks (lots W) → block_refusal (file_of W) b ≡ 0
  unfolding block_refusal
  block_right b h = sym (goes_on (holds4 (file_of W) (b * 512 + 508) (fnv (take 508 (drop (b * 512) (file_of W))))) 16 _ check (goes_off (holds4 (file_of W) (b * 512) b) 17 number))
    where
      place : (j : ℕ) → j < 4 → get_or (file_of W) (b * 512 + 508 + j) 0 ≡ byte_of (fnv (take 508 (drop (b * 512) (file_of W)))) j
      place j l =
          let a : b * 512 + 508 + j ≡ b * 512 + (508 + j) = omega arith in
          ap (λ (k : ℕ). get_or (file_of W) k 0) a ∙ (file_at b (508 + j) h (omega arith) ∙ (check_at_lem b j l ∙ ap (λ (s : List ℕ). byte_of (fnv s) j) (sym (body_of b h))))

      check : holds4 (file_of W) (b * 512 + 508) (fnv (take 508 (drop (b * 512) (file_of W)))) ≡ true
      check = holds_all (file_of W) (b * 512 + 508) (fnv (take 508 (drop (b * 512) (file_of W)))) place

      number : holds4 (file_of W) (b * 512) b ≡ true
      number = holds_all (file_of W) (b * 512) b (λ j l. file_at b j h (omega arith) ∙ (body_at b j (omega arith) ∙ sym (body_number W b j l)))

  -- 18
  filling_right : filling_ok (file_of W) (lots W) ≡ true
  unfolding filling_ok fills_at
  filling_right = every_true (fills_at (file_of W) (lots W)) (blocks (lots W) * 504 - content_size (lots W)) (λ i l. eq-eqb (content_in (file_of W) (content_size (lots W) + i)) 0
      (let s = size_some (lots W) in content_of (content_size (lots W) + i) (omega arith) ∙ sym (content_rest W (content_size (lots W) + i) (omega arith) (omega arith))))

  -- the six numbers
  numbers_of_lem : numbers_in (file_of W) ≡ W.numbers
  unfolding number_at
  numbers_of_lem = sym (numbers_read (file_of W) (at 0 (omega arith)) (at 1 (omega arith)) (at 2 (omega arith)) (at 3 (omega arith)) (at 4 (omega arith)) (at 5 (omega arith)))
    where
      at : (i : ℕ) → i < 6 → number_at W.numbers i ≡ content_in (file_of W) i
      at i l = content_number W i l ∙ sym (content_of i (let h = blocks_some (lots W) in omega arith))

  -- the words
  module _ (small : Words16 W) where
    pair16 : (r v : ℕ) → pair_word W r v < 65536
    unfolding pair_word
    pair16 r v = tie16 W small (low (pair_at (lots W) r)) v (high (pair_at (lots W) r))

    table16 : (j : ℕ) → table_word W j < 65536
    table16 j = elim (dec_lt j (lots W)) [
      | yes h ↦ let e = table_domain W j h in let s = small.domain j in omega arith
      | no h ↦ elim (dec_lt j (2 * lots W)) [
        | yes g ↦ let e = table_loss W j (omega arith) g in let s = small.loss (j - lots W) in omega arith
        | no g ↦ elim (dec_lt j (3 * lots W)) [
          | yes k ↦ let e = table_give W j (omega arith) k in let s = small.give (j - 2 * lots W) in omega arith
          | no k ↦ let e = table_pair W j (omega arith) in let s = pair16 ((j - 3 * lots W) / 16) ((j - 3 * lots W) % 16) in omega arith
        ]
      ]
    ]

    word_of_lem : (j : ℕ) → j < 3 * lots W + 8 * (lots W * (lots W - 1)) → word_in (file_of W) j ≡ table_word W j
    unfolding word_in
    word_of_lem j l =
        let s = size_words (lots W) in
        let h = blocks_hold (lots W) in
        let a : (6 + 2 * j - 6) / 2 ≡ j = omega arith in
        let b : (6 + 2 * j - 6) % 2 ≡ 0 = omega arith in
        let c : (6 + 2 * j + 1 - 6) / 2 ≡ j = omega arith in
        let d : (6 + 2 * j + 1 - 6) % 2 ≡ 1 = omega arith in
        let low = content_of (6 + 2 * j) (omega arith) ∙ (sym (content_word W (6 + 2 * j) (omega arith) (omega arith)) ∙ ap₂ (λ (k m : ℕ). byte_of (table_word W k) m) a b) in
        let high = content_of (6 + 2 * j + 1) (omega arith) ∙ (sym (content_word W (6 + 2 * j + 1) (omega arith) (omega arith)) ∙ ap₂ (λ (k m : ℕ). byte_of (table_word W k) m) c d) in
        ap₂ (λ (x y : ℕ). x + 256 * y) low high ∙ two_bytes (table_word W j) (table16 j)

    table_of : (k : ℕ) (T : List ℕ) → k * lots W + lots W ≤ 3 * lots W → length T ≡ lots W → ((p : ℕ) → p < lots W → table_word W (k * lots W + p) ≡ get_or T p 0) → words_in (file_of W) (lots W) k ≡ T
    unfolding words_in words_at
    table_of k T l e h =
        ext_get_or 0 (list_of (words_at (file_of W) (lots W) k) (lots W)) T (length_list (words_at (file_of W) (lots W) k) (lots W) ∙ sym e)
        (λ p m. let g : p < lots W = (let z = length_list (words_at (file_of W) (lots W) k) (lots W) in omega arith) in
        list_at (words_at (file_of W) (lots W) k) (lots W) p g ∙ (word_of_lem (k * lots W + p) (omega arith) ∙ h p g))

    -- the ties, on a table that is not refused with 4
    module _ (K : ties_ok (pair_rules W) ≡ true) (few : lots W ≤ 24) where
      right : (p q v w : ℕ) → p < lots W → q < lots W → v < 16 → w < 16 → Right (pair_rules W) p q v w
      unfolding ties_ok lot_ties_ok pair_ok word_ok
      right p q v w l m h k = bit_read (pair_rules W) p q v w (every_at (bit_ok (pair_rules W) p q v) 16 w (every_at (word_ok (pair_rules W) p q) 16 v (every_at (pair_ok (pair_rules W) p) (lots W) q (every_at (lot_ties_ok (pair_rules W)) (lots W) p K l) m) h) k)

      pair_of : (p q v : ℕ) → p < q → q < lots W → v < 16 → pair_word_in (file_of W) (lots W) p q v ≡ tie_word (lots W) W.ties p v q
      unfolding pair_word_in
      pair_of p q v l m h =
          let r : ℕ = pair_number (lots W) p q in
          let o = number_of (lots W) few p q l m in
          let b = o.below in
          let d : (3 * lots W + r * 16 + v - 3 * lots W) / 16 ≡ r = omega arith in
          let e : (3 * lots W + r * 16 + v - 3 * lots W) % 16 ≡ v = omega arith in
          word_of_lem (3 * lots W + r * 16 + v) (omega arith)
          ∙ (sym (table_pair W (3 * lots W + r * 16 + v) (omega arith)) ∙ (ap₂ (pair_word W) d e
          ∙ sym (pair_word_lem W r v (sym (ap (λ (A : List ℕ). low A) o.back ∙ pair_low p q)) (sym (ap (λ (A : List ℕ). high A) o.back ∙ pair_high p q)))))

      nothing : (p v : ℕ) → p < lots W → v < 16 → 0 ≡ tie_word (lots W) W.ties p v p
      unfolding together
      nothing p v l h =
          sym (word_from (bit_of 0) 0 (omega arith) (λ w k. refl))
          ∙ word_from (bit_of 0) (tie_word (lots W) W.ties p v p) (tie16 W small p v p) (λ w k. bit_zero w ∙ sym (false_of (bit_of (tie_word (lots W) W.ties p v p) w) (λ t. (right p p v w l l h k).apart t refl)))

      tie_of : (p q v : ℕ) → p < lots W → q < lots W → v < 16 → tie_in (file_of W) (lots W) p v q ≡ tie_word (lots W) W.ties p v q
      unfolding together pair_bit_in
      tie_of p q v l m h = elim (dec_lt p q) [
        | yes g ↦ sym (tie_before (file_of W) (lots W) v g) ∙ pair_of p q v g m h
        | no g ↦ elim (dec_lt q p) [
          | yes k ↦
              sym (tie_after (file_of W) (lots W) v k)
              ∙ word_from (pair_bit_in (file_of W) (lots W) q p v) (tie_word (lots W) W.ties p v q) (tie16 W small p v q)
              (λ w i. ap (λ (x : ℕ). bit_of x v) (pair_of q p w k l i) ∙ (right q p w v m l i h).mirror)
          | no k ↦
              let e : p ≡ q = omega arith in
              sym (tie_same (file_of W) (lots W) v (omega arith) (omega arith)) ∙ (nothing p v l h ∙ ap (λ (x : ℕ). tie_word (lots W) W.ties p v x) e)
        ]
      ]

      ties_of : 1 ≤ lots W → length W.ties ≡ lots W * lots W * 16 → ties_in (file_of W) (lots W) ≡ W.ties
      unfolding ties_in ties_at
      ties_of h e =
          ext_get_or 0 (list_of (ties_at (file_of W) (lots W)) (lots W * lots W * 16)) W.ties (length_list (ties_at (file_of W) (lots W)) (lots W * lots W * 16) ∙ sym e)
          (λ i m. let l : i < lots W * lots W * 16 = (let z = length_list (ties_at (file_of W) (lots W)) (lots W * lots W * 16) in omega arith) in
          list_at (ties_at (file_of W) (lots W)) (lots W * lots W * 16) i l
          ∙ (tie_of (i / 16 / lots W) (i / 16 % lots W) (i % 16) (place_low (file_of W) (lots W) i h l) (place_high (file_of W) (lots W) i h) (omega arith) ∙ tie_place (lots W) W.ties i))

-- A written file is not refused, and holds the week

module _ (W : Week) (small : Words16 W) (ok : refusal W ≡ 0) where
  ties_ok_lem : ties_ok (pair_rules W) ≡ true
  unfolding admits
  ties_ok_lem =
      passed_last (ties_ok (pair_rules W)) 4 (λ z. omega arith)
      (passed_rest (words_ok (lots W) W.domain W.loss W.give) 3 _ (λ z. omega arith)
      (passed_rest (lengths_ok (lots W) W.domain W.loss W.give W.ties) 2 _ (λ z. omega arith)
      (passed_rest (numbers_ok W.numbers) 1 _ (λ z. omega arith) ok)))

  pub week_written : week_in (file_of W) ≡ W
  unfolding week_of
  week_written =
      let a = accepted W ok in
      let n = lots W in
      let z : 0 * n + n ≤ 3 * n = omega arith in
      let y : 1 * n + n ≤ 3 * n = omega arith in
      let x : 2 * n + n ≤ 3 * n = omega arith in
      ap (λ (N : Numbers). week_of N (file_of W)) (numbers_of_lem W)
      ∙ tables
      (table_of W small 0 W.domain z a.lengths.domain (λ p l. let e : 0 * n + p ≡ p = omega arith in ap (table_word W) e ∙ sym (table_domain W p l)))
      (table_of W small 1 W.loss y a.lengths.loss (λ p l. let e : 1 * n + p - n ≡ p = omega arith in sym (table_loss W (1 * n + p) (omega arith) (omega arith)) ∙ ap (λ (i : ℕ). get_or W.loss i 0) e))
      (table_of W small 2 W.give x a.lengths.give (λ p l. let e : 2 * n + p - 2 * n ≡ p = omega arith in sym (table_give W (2 * n + p) (omega arith) (omega arith)) ∙ ap (λ (i : ℕ). get_or W.give i 0) e))
      (ties_of W small ties_ok_lem a.limits.few a.limits.some a.lengths.ties)
    where
      tables : {d l g t : List ℕ} → d ≡ W.domain → l ≡ W.loss → g ≡ W.give → t ≡ W.ties → week W.numbers d l g t ≡ W
      tables e f g h = rw (e, f, g, h)

  pub held_written : file_refusal (file_of W) ≡ 0
  unfolding week_of
  held_written =
      let a = accepted W ok in
      let n = length_file W in
      let e = numbers_of_lem W in
      let some = blocks_some (lots W) in
      let few = blocks_small (lots W) a.limits.few in
      let m : length (file_of W) / 512 ≡ blocks (lots W) = omega arith in
      let r : length (file_of W) % 512 ≡ 0 = omega arith in
      not_refused (file_of W) (record {
        whole = record { some = omega arith; few = omega arith; whole = r };
        checked = ap (blocks_refusal (file_of W)) m ∙ blocks_all (file_of W) (blocks (lots W)) (block_right W);
        limits = subst⁻¹ Limits e a.limits;
        needed = n ∙ ap (λ (N : Numbers). blocks N.n * 512) (sym e);
        filling = subst⁻¹ (λ (N : Numbers). filling_ok (file_of W) N.n ≡ true) e (filling_right W);
        words = subst⁻¹ (λ (X : Week). words_ok (lots X) X.domain X.loss X.give ≡ true) week_written a.words;
        ties = subst⁻¹ (λ (X : Week). ties_ok (pair_rules X) ≡ true) week_written ties_ok_lem;
      })
