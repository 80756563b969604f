-- Laws of lists by what stands at their places, and of loops that fill a buffer from the front.
-- Assumes nothing.
use mathlib.Core.Path.{◌≡◌, refl, sym, ◌∙◌, ap, ap₂}
use mathlib.Core.List.{List, ◌∷◌, ◌++◌, append-nil}
use Prim.Native.Nat.{ℕ, zero, suc, ◌+◌, ◌-◌, ◌≤◌, ◌<◌}
use native.Mathlib.Omega.{arith}
use lib.ListN.{length, get_or, drop, replicate, drop_of_length-le, get_or-eq_default}
use lib.Seq.{ext_get_or}
use Rattle.lex.specs.Lists.{list_of, padded}
use Rattle.lex.proofs.Lists.{length_list, list_at, list_cong, list_join}
use Rattle.block.specs.Parts.{or_zero}

-- Lists by what stands at their places

pub or_zero_lem : (s : List ℕ) (i : ℕ) → or_zero s i ≡ get_or s i 0
unfolding or_zero
or_zero_lem s i = refl

-- a list is the list of what stands at its places
pub list_self : (s : List ℕ) → list_of (or_zero s) (length s) ≡ s
list_self s = ext_get_or 0 (list_of (or_zero s) (length s)) s (length_list (or_zero s) (length s)) (λ i l. list_at (or_zero s) (length s) i (let h = length_list (or_zero s) (length s) in omega arith) ∙ or_zero_lem s i)

-- what a loop that fills a list from the front leaves
pub list_from : (f : ℕ → ℕ) {n i : ℕ} {s : List ℕ} → length s ≡ n → ((k : ℕ) → k < i → get_or s k 0 ≡ f k) → n ≤ i → s ≡ list_of f n
list_from f {n} {i} {s} e h l =
    ext_get_or 0 s (list_of f n) (e ∙ sym (length_list f n)) (λ k m. h k (omega arith) ∙ sym (list_at f n k (omega arith)))

list_zeros : (n : ℕ) → list_of (λ i. 0) n ≡ replicate n 0
unfolding list_of
list_zeros zero = refl
list_zeros (suc n) = ap (λ (t : List ℕ). 0 ∷ t) (list_zeros n)

-- and padded, of what stands at its places and 0 beyond
pub list_padded : (n : ℕ) (s : List ℕ) → length s ≤ n → list_of (or_zero s) n ≡ padded n s
unfolding padded
list_padded n s h =
    let e : n ≡ length s + (n - length s) = omega arith in
    ap (list_of (or_zero s)) e
    ∙ list_join (or_zero s) (length s) (n - length s)
    ∙ ap₂ ◌++◌ (list_self s) (list_cong (λ i. or_zero s (length s + i)) (λ i. 0) (n - length s) (λ i l. or_zero_lem s (length s + i) ∙ get_or-eq_default s 0 (omega arith)) ∙ list_zeros (n - length s))

-- A loop that fills a buffer d from the front: after i stores it holds f 0 .. f (i - 1), and then the rest of d

pub store_none : (f : ℕ → ℕ) (d : List ℕ) → d ≡ list_of f 0 ++ drop 0 d
unfolding list_of
store_none f d = refl

pub store_end : (f : ℕ → ℕ) {i n : ℕ} {s : List ℕ} (d : List ℕ) → s ≡ list_of f i ++ drop i d → i ≡ n → length d ≡ n → s ≡ list_of f n
store_end f {i} {n} d e h l = e ∙ rw (h, drop_of_length-le d {i = n} (omega arith)) (append-nil (list_of f n))
