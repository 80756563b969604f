-- The tie table of a file: what stands where, and that 4 of a file's week is asked word by word of the pairs p < q alone.
-- Assumes nothing.
use mathlib.Core.Path.{◌≡◌, refl, sym, ◌∙◌, ap}
use mathlib.Core.Bool.{Bool, true, false, cond}
use mathlib.Core.List.{List}
use Prim.Native.Nat.{ℕ, zero, suc, ◌+◌, ◌*◌, ◌-◌, ◌/◌, ◌%◌, ◌^◌, ◌≤◌, ◌<◌}
use native.Mathlib.Nat.{mod-lt, div-lt_iff_lt-mul, add-mul-div_right, add-mul-mod_self_right, pow-succ', mul_assoc, eq-or-lt_of_le, le_of_suc-le-suc}
use mathlib.Core.Logic.{⊎_elim}
use native.Mathlib.Decide.{dec_lt}
use native.Mathlib.Omega.{arith}
use lib.Arith.{digits_lt, digits_div, digits_mod}
use lib.Dec.{eqb}
use lib.Pow.{pow-add, pow_pos}
use borrow.Author.Tests.{lt-ltb, le-ltb}
use Rattle.lex.specs.Every.{imp, every, one_if}
use Rattle.lex.specs.Lists.{list_of, padded}
use Rattle.lex.proofs.Every.{not_both, same_truth, imp_in, every_true, every_at}
use Rattle.lex.proofs.Lists.{length_list, list_at, list_beyond}
use Rattle.week.specs.Rules.{Rules, rules, bit_of, inside, in_domain, tie_word, together, word_of}
use Rattle.week.specs.Tables.{bit_ok, word_ok, pair_ok, lot_ties_ok, lot_ties_half, ties_ok}
use Rattle.week.proofs.Words.{bit_zero, inside_at, square_small}
use Rattle.week.proofs.Tables.{Right, bit_read, bit_make, ties_half}
use Rattle.pairs.specs.Pairs.{pair_at, low, high, pair_number}
use Rattle.pairs.proofs.Pairs.{pair_low, pair_high}
use Rattle.pairs.proofs.Numbers.{count_twice, number_of, Paired, pair_of}
use Rattle.block.specs.Parts.{or_zero}
use Rattle.block.specs.Reading.{word_in, words_at, words_in, pair_word_in, pair_bit_in, tie_in, ties_at, ties_in, tie_held}
use Rattle.block.proofs.Parts.{list_padded}
use Rattle.block.proofs.Checks.{word_small}

-- A word made from its bits has them

digit_one : (t : Bool) → eqb (one_if t % 2) 1 ≡ t
digit_one true = refl
digit_one false = refl

digit_of : (f : ℕ → Bool) (k w : ℕ) → w < k → word_of f k / 2 ^ w % 2 ≡ one_if (f w) % 2
unfolding word_of
digit_of f zero w l = absurd (omega arith)
digit_of f (suc k) w l =
    ⊎_elim
    (λ e. rw e (top k))
    (λ h. below h ∙ digit_of f k w h)
    (eq-or-lt_of_le (le_of_suc-le-suc l))
  where
    top : (k : ℕ) → (word_of f k + one_if (f k) * 2 ^ k) / 2 ^ k % 2 ≡ one_if (f k) % 2
    top k =
        let c : word_of f k + one_if (f k) * 2 ^ k ≡ one_if (f k) * 2 ^ k + word_of f k = omega arith in
        ap (λ (x : ℕ). x / 2 ^ k % 2) c ∙ ap (λ (x : ℕ). x % 2) (digits_div (one_if (f k)) (word_small f k))

    split : w < k → one_if (f k) * 2 ^ k ≡ one_if (f k) * 2 ^ (k - (w + 1)) * 2 * 2 ^ w
    split h =
        let e : k ≡ (k - (w + 1)) + suc w = omega arith in
        ap (λ (x : ℕ). one_if (f k) * 2 ^ x) e
        ∙ (ap (λ (x : ℕ). one_if (f k) * x) (pow-add 2 (k - (w + 1)) (suc w) ∙ ap (λ (x : ℕ). 2 ^ (k - (w + 1)) * x) (pow-succ' 2 w))
        ∙ (sym (mul_assoc (one_if (f k)) (2 ^ (k - (w + 1))) (2 * 2 ^ w)) ∙ sym (mul_assoc (one_if (f k) * 2 ^ (k - (w + 1))) 2 (2 ^ w))))

    below : w < k → (word_of f k + one_if (f k) * 2 ^ k) / 2 ^ w % 2 ≡ word_of f k / 2 ^ w % 2
    below h =
        ap (λ (x : ℕ). (word_of f k + x) / 2 ^ w % 2) (split h)
        ∙ (ap (λ (x : ℕ). x % 2) (add-mul-div_right (word_of f k) (one_if (f k) * 2 ^ (k - (w + 1)) * 2) (pow_pos w))
        ∙ add-mul-mod_self_right (word_of f k / 2 ^ w) (one_if (f k) * 2 ^ (k - (w + 1))) 2)

pub word_bit : (f : ℕ → Bool) (w : ℕ) → w < 16 → bit_of (word_of f 16) w ≡ f w
unfolding bit_of
word_bit f w l = rw (lt-ltb w 16 l) (ap (λ (x : ℕ). eqb x 1) (digit_of f 16 w l) ∙ digit_one (f w))

-- Words of the tie table

module _ (F : List ℕ) (n : ℕ) where
  pub tie_before : {p q : ℕ} (v : ℕ) → p < q → pair_word_in F n p q v ≡ tie_in F n p v q
  unfolding tie_in
  tie_before {p} {q} v l = rw (lt-ltb p q l)

  pub tie_after : {p q : ℕ} (v : ℕ) → q < p → word_of (pair_bit_in F n q p v) 16 ≡ tie_in F n p v q
  unfolding tie_in
  tie_after {p} {q} v l = let h : q ≤ p = omega arith in rw (le-ltb p q h, lt-ltb q p l)

  pub tie_same : {p q : ℕ} (v : ℕ) → q ≤ p → p ≤ q → 0 ≡ tie_in F n p v q
  unfolding tie_in
  tie_same {p} {q} v l m = rw (le-ltb p q l, le-ltb q p m)

  -- the places of a word's lots
  pub place_low : (i : ℕ) → 1 ≤ n → i < n * n * 16 → i / 16 / n < n
  place_low i h l = (div-lt_iff_lt-mul {k = n} {x = i / 16} {y = n} h).1 (omega arith)

  pub place_high : (i : ℕ) → 1 ≤ n → i / 16 % n < n
  place_high i h = mod-lt (i / 16) h

  pub tie_inside : (i : ℕ) → i < n * n * 16 → tie_in F n (i / 16 / n) (i % 16) (i / 16 % n) ≡ or_zero (ties_in F n) i
  unfolding or_zero ties_in ties_at
  tie_inside i l = sym (list_at (ties_at F n) (n * n * 16) i l)

  pub tie_outside : (i : ℕ) → n * n * 16 ≤ i → 0 ≡ or_zero (ties_in F n) i
  unfolding or_zero ties_in
  tie_outside i l = sym (list_beyond (ties_at F n) (n * n * 16) i l)

  -- the table in a buffer of 9,216 words
  pub ties_padded : n ≤ 24 → list_of (or_zero (ties_in F n)) 9216 ≡ padded 9216 (ties_in F n)
  unfolding ties_in
  ties_padded h = list_padded 9216 (list_of (ties_at F n) (n * n * 16)) (let l = length_list (ties_at F n) (n * n * 16) in let s = square_small h in omega arith)

  pub tie_read : (p q v : ℕ) → p < n → q < n → v < 16 → tie_word n (ties_in F n) p v q ≡ tie_in F n p v q
  unfolding tie_word ties_in ties_at
  tie_read p q v h g l =
      let d : p * n + q < n * n = digits_lt h g in
      let e : ((p * n + q) * 16 + v) / 16 ≡ p * n + q = omega arith in
      let f : ((p * n + q) * 16 + v) % 16 ≡ v = omega arith in
      list_at (ties_at F n) (n * n * 16) ((p * n + q) * 16 + v) (omega arith)
      ∙ rw (e, f, digits_div p g, digits_mod p g)

  abbrev R : Rules
  R = rules n (words_in F n 0) (ties_in F n)

  in_domain_lem : (p v : ℕ) → p < n → in_domain R p v ≡ bit_of (word_in F p) v
  unfolding in_domain words_in words_at
  in_domain_lem p v l =
      let e : 0 * n + p ≡ p = omega arith in
      ap (λ (x : ℕ). bit_of x v) (list_at (words_at F n 0) n p l ∙ ap (word_in F) e)

  -- two lots together, by the words of the lower one, and by those that follow by symmetry
  with_higher : (p q v w : ℕ) → p < q → q < n → v < 16 → together R p v q w ≡ bit_of (pair_word_in F n p q v) w
  unfolding together
  with_higher p q v w l m h = ap (λ (x : ℕ). bit_of x w) (tie_read p q v (omega arith) m h ∙ sym (tie_before v l))

  with_lower : (p q v w : ℕ) → q < p → p < n → v < 16 → w < 16 → together R p v q w ≡ bit_of (pair_word_in F n q p w) v
  unfolding together pair_bit_in
  with_lower p q v w l m h k = ap (λ (x : ℕ). bit_of x w) (tie_read p q v m (omega arith) h ∙ sym (tie_after v l)) ∙ word_bit (pair_bit_in F n q p v) w k

  with_itself : (p v w : ℕ) → p < n → v < 16 → together R p v p w ≡ false
  unfolding together
  with_itself p v w m h = ap (λ (x : ℕ). bit_of x w) (tie_read p p v m m h ∙ sym (tie_same v (omega arith) (omega arith))) ∙ bit_zero w

  cond_bit : (t : Bool) (y w : ℕ) → bit_of (cond t y 0) w ≡ true → (t ≡ true) × (bit_of y w ≡ true)
  cond_bit true y w e = (refl, e)
  cond_bit false y w e = absurd (not_both e (bit_zero w))

  -- word i of the pairs' words, by its pair
  held_is : (i p q v : ℕ) → i / 16 ≡ pair_number n p q → i % 16 ≡ v → low (pair_at n (i / 16)) ≡ p → high (pair_at n (i / 16)) ≡ q → tie_held F n i ≡ inside (pair_word_in F n p q v) (cond (bit_of (word_in F p) v) (word_in F q) 0)
  unfolding tie_held pair_word_in
  held_is i p q v d m e f =
      let a : 3 * n + i ≡ 3 * n + pair_number n p q * 16 + v = omega arith in
      rw (a, m, e, f)

  module _ (few : n ≤ 24) where
    -- no bit of a pair's word is outside the domains
    held_at : every (tie_held F n) (8 * (n * (n - 1))) ≡ true → (p q v w : ℕ) → p < q → q < n → v < 16 → bit_of (pair_word_in F n p q v) w ≡ true → (bit_of (word_in F p) v ≡ true) × (bit_of (word_in F q) w ≡ true)
    held_at e p q v w l m h b =
        let d : (pair_number n p q * 16 + v) / 16 ≡ pair_number n p q = omega arith in
        let r : (pair_number n p q * 16 + v) % 16 ≡ v = omega arith in
        let o = number_of n few p q l m in
        let k = o.below in
        let is = ap (pair_at n) d ∙ o.back in
        let t = every_at (tie_held F n) (8 * (n * (n - 1))) (pair_number n p q * 16 + v) e (omega arith) in
        let s = sym (held_is (pair_number n p q * 16 + v) p q v d r (ap (λ (A : List ℕ). low A) is ∙ pair_low p q) (ap (λ (A : List ℕ). high A) is ∙ pair_high p q)) ∙ t in
        cond_bit (bit_of (word_in F p) v) (word_in F q) w (inside_at (pair_word_in F n p q v) (cond (bit_of (word_in F p) v) (word_in F q) 0) w s b)

    -- so each bit is right, the higher lot first
    right_lower : every (tie_held F n) (8 * (n * (n - 1))) ≡ true → (p q v w : ℕ) → q < p → p < n → v < 16 → w < 16 → Right R p q v w
    right_lower e p q v w l m h k =
        let t = with_lower p q v w l m h k in
        record {
          mirror = t ∙ sym (with_higher q p w v l m k);
          here = λ b. in_domain_lem p v m ∙ (held_at e q p w v l m k (sym t ∙ b)).1;
          there = λ b. in_domain_lem q w (omega arith) ∙ (held_at e q p w v l m k (sym t ∙ b)).0;
          apart = λ b z. omega arith;
        }

    right_itself : (p q v w : ℕ) → q ≡ p → p < n → v < 16 → w < 16 → Right R p q v w
    right_itself p q v w z m h k =
        let a : together R p v q w ≡ false = ap (λ (x : ℕ). together R p v x w) z ∙ with_itself p v w m h in
        let b : together R q w p v ≡ false = ap (λ (x : ℕ). together R x w p v) z ∙ with_itself p w v m k in
        record { mirror = a ∙ sym b; here = λ t. absurd (not_both t a); there = λ t. absurd (not_both t a); apart = λ t. absurd (not_both t a) }

    -- each word of a pair, read from a right tie table
    held_back : ties_ok R ≡ true → (i : ℕ) → i < 8 * (n * (n - 1)) → tie_held F n i ≡ true
    unfolding ties_ok lot_ties_ok pair_ok word_ok inside
    held_back e i l =
        let o = pair_of n few (i / 16) (omega (arith, count_twice n few)) in
        let v : ℕ = i % 16 in
        let y : ℕ = cond (bit_of (word_in F p) v) (word_in F q) 0 in
        held_is i p q v (sym o.number) refl refl refl
        ∙ every_true (λ w. imp (bit_of (pair_word_in F n p q v) w) (bit_of y w)) 16 (λ w k. imp_in (bit_of (pair_word_in F n p q v) w) (bit_of y w) (bit o w k))
      where
        -- the two lots of the word's pair
        p : ℕ
        p = low (pair_at n (i / 16))

        q : ℕ
        q = high (pair_at n (i / 16))

        bit : Paired n few (i / 16) → (w : ℕ) → w < 16 → bit_of (pair_word_in F n p q (i % 16)) w ≡ true → bit_of (cond (bit_of (word_in F p) (i % 16)) (word_in F q) 0) w ≡ true
        bit o w k b =
            let lt = o.order in
            let m = o.inside in
            let u : i % 16 < 16 = omega arith in
            let lo : p < n = omega arith in
            let r = bit_read R p q (i % 16) w (every_at (bit_ok R p q (i % 16)) 16 w (every_at (word_ok R p q) 16 (i % 16) (every_at (pair_ok R p) n q (every_at (lot_ties_ok R) n p e lo) m) u) k) in
            let t : together R p (i % 16) q w ≡ true = with_higher p q (i % 16) w lt m u ∙ b in
            let d : bit_of (word_in F p) (i % 16) ≡ true = sym (in_domain_lem p (i % 16) lo) ∙ r.here t in
            rw d (sym (in_domain_lem q w m) ∙ r.there t)

    pub ties_held : every (tie_held F n) (8 * (n * (n - 1))) ≡ ties_ok R
    unfolding lot_ties_half pair_ok word_ok
    ties_held =
        same_truth (every (tie_held F n) (8 * (n * (n - 1)))) (ties_ok R)
        (λ e. sym (ties_half R) ∙ every_true (lot_ties_half R) n (λ p l. every_true (pair_ok R p) (p + 1) (λ q m. every_true (word_ok R p q) 16 (λ v h. every_true (bit_ok R p q v) 16 (λ w k.
        bit_make R p q v w (elim (dec_lt q p) [ yes g ↦ right_lower e p q v w g l h k | no g ↦ right_itself p q v w (omega arith) l h k ]))))))
        (λ e. every_true (tie_held F n) (8 * (n * (n - 1))) (held_back e))
