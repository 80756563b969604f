-- Laws of lists by position, of padded lists (how many places there are, and that the first are the list's) and of lists that are one.
-- Assumes nothing.
use mathlib.Core.Path.{◌≡◌, refl, sym, ◌∙◌, ap, ap₂}
use mathlib.Core.Bool.{true, false, true≢false}
use mathlib.Core.List.{List, [], ◌∷◌, ◌++◌}
use Prim.Native.Nat.{ℕ, zero, suc, ◌+◌, ◌≤◌, ◌<◌}
use native.Mathlib.Omega.{arith}
use native.Mathlib.Nat.{zero-add, suc-add}
use lib.Dec.{eqb}
use lib.ListN.{length, get_or, take, length-append, length-replicate, get_or-eq_default}
use lib.Seq.{take_at}
use borrow.Author.Tests.{eqb-true, eq-eqb, ne_eqb}
use Rattle.lex.specs.Every.{every}
use Rattle.lex.specs.Lists.{list_of, padded, same, same_at}
use Rattle.lex.proofs.Every.{both, and_left, and_right, same_truth, every_true, every_at}

-- Lists by position

pub length_list : (f : ℕ → ℕ) (n : ℕ) → length (list_of f n) ≡ n
unfolding list_of
length_list f zero = refl
length_list f (suc n) = ap suc (length_list (λ i. f (suc i)) n)

pub list_at : (f : ℕ → ℕ) (n i : ℕ) → i < n → get_or (list_of f n) i 0 ≡ f i
unfolding list_of
list_at f zero i l = absurd (omega arith)
list_at f (suc n) zero l = refl
list_at f (suc n) (suc i) l = list_at (λ i. f (suc i)) n i (omega arith)

pub list_beyond : (f : ℕ → ℕ) (n i : ℕ) → n ≤ i → get_or (list_of f n) i 0 ≡ 0
list_beyond f n i l = get_or-eq_default (list_of f n) 0 (let h = length_list f n in omega arith)

pub list_cong : (f g : ℕ → ℕ) (n : ℕ) → ((i : ℕ) → i < n → f i ≡ g i) → list_of f n ≡ list_of g n
unfolding list_of
list_cong f g zero h = refl
list_cong f g (suc n) h = rw (h 0 (omega arith), list_cong (λ i. f (suc i)) (λ i. g (suc i)) n (λ i l. h (suc i) (omega arith)))

-- the first m and the k after them
pub list_join : (f : ℕ → ℕ) (m k : ℕ) → list_of f (m + k) ≡ list_of f m ++ list_of (λ i. f (m + i)) k
unfolding list_of
list_join f zero k = simp zero-add
list_join f (suc m) k = simp suc-add (ap (λ (t : List ℕ). f 0 ∷ t) (list_join (λ i. f (suc i)) m k))

-- Padded lists

module _ (k : ℕ) (s : List ℕ) where
  pub padded_wide : k ≤ length (padded k s)
  unfolding padded
  padded_wide = rw (length-append, length-replicate) (omega arith)

  pub padded_length : length s ≤ k → length (padded k s) ≡ k
  unfolding padded
  padded_length h = rw (length-append, length-replicate) (omega arith)

  pub padded_take : (n : ℕ) → length s ≡ n → take n (padded k s) ≡ s
  unfolding padded
  padded_take n e = take_at s _ n e

-- Lists that are one

pub same_eq : (s t : List ℕ) → same s t ≡ true → s ≡ t
unfolding same
same_eq [] [] e = refl
same_eq [] (y ∷ t) e = absurd (true≢false (sym e))
same_eq (x ∷ s) [] e = absurd (true≢false (sym e))
same_eq (x ∷ s) (y ∷ t) e = ap₂ (λ (n : ℕ) (l : List ℕ). n ∷ l) (eqb-true x y (and_left (eqb x y) (same s t) e)) (same_eq s t (and_right (eqb x y) (same s t) e))

pub same_self : (s : List ℕ) → same s s ≡ true
unfolding same
same_self [] = refl
same_self (x ∷ s) = both (eq-eqb x x refl) (same_self s)

-- a place where they have the same number, and one where they have not
pub same_here : (s t : List ℕ) (i x y : ℕ) → x ≡ get_or s i 0 → y ≡ get_or t i 0 → x ≡ y → same_at s t i ≡ true
unfolding same_at
same_here s t i x y e f h = eq-eqb (get_or s i 0) (get_or t i 0) (sym e ∙ h ∙ f)

pub differ_here : (s t : List ℕ) (i x y : ℕ) → x ≡ get_or s i 0 → y ≡ get_or t i 0 → (x ≡ y → ⊥) → same_at s t i ≡ false
unfolding same_at
differ_here s t i x y e f h = ne_eqb (get_or s i 0) (get_or t i 0) (λ z. h (e ∙ z ∙ sym f))

-- lists of one length, place by place
pub same_places : (s t : List ℕ) → length s ≡ length t → every (same_at s t) (length t) ≡ same s t
unfolding same same_at
same_places s t h = same_truth (every (same_at s t) (length t)) (same s t) (λ e. there s t h (λ i l. every_at (same_at s t) (length t) i e l)) (λ e. rw (same_eq s t e) (every_true (same_at t t) (length t) (λ i l. here t i)))
  where
    here : (t : List ℕ) (i : ℕ) → same_at t t i ≡ true
    here t i = eq-eqb (get_or t i 0) (get_or t i 0) refl

    there : (s t : List ℕ) → length s ≡ length t → ((i : ℕ) → i < length t → same_at s t i ≡ true) → same s t ≡ true
    there [] [] h f = refl
    there [] (y ∷ t) h f = absurd (omega arith)
    there (x ∷ s) [] h f = absurd (omega arith)
    there (x ∷ s) (y ∷ t) h f = both (f 0 (omega arith)) (there s t (omega arith) (λ i l. f (suc i) (omega arith)))
