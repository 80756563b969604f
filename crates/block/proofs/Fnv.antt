-- Laws of FNV-1a: a loop over the bytes; and one byte changed changes the hash, since a step is one-to-one in the hash and in the byte.
-- Assumes nothing.
use mathlib.Core.Path.{◌≡◌, refl, sym, ◌∙◌, ap}
use mathlib.Core.List.{List, [], ◌∷◌}
use Prim.Native.Nat.{ℕ, zero, suc, ◌+◌, ◌*◌, ◌/◌, ◌%◌, ◌^◌, ◌<◌}
use native.Mathlib.Nat.{mod-lt, mod-eq_of_lt, pow-succ', div-add-mod', add-mul-mod_self_right}
use native.Mathlib.Numerals.{add-one}
use native.Mathlib.Omega.{arith}
use lib.Bits.{bit_xor, differ, xor_step, xor_lt, xor_comm}
use lib.ListN.{length, drop, get_or, set}
use lib.Seq.{drop-cons, drop-length}
use Rattle.block.specs.Fnv.{fnv_step, fnv_from, fnv}

-- a loop over the bytes s: what is left of them, from the hash so far, gives the hash of s

pub fnv_start : (s : List ℕ) → fnv_from 2166136261 (drop 0 s) ≡ fnv s
unfolding fnv
fnv_start s = refl

fnv_more : (h : ℕ) (s : List ℕ) (i : ℕ) → i < length s → fnv_from h (drop i s) ≡ fnv_from (fnv_step h (get_or s i 0)) (drop (i + 1) s)
unfolding fnv_from
fnv_more h s i l = rw (add-one, drop-cons s i 0 l)

pub fnv_next : (h : ℕ) {x : ℕ} (s : List ℕ) (i : ℕ) → i < length s → x ≡ bit_xor h (get_or s i 0) → fnv_from h (drop i s) ≡ fnv s → fnv_from (x * 16777619 % 2 ^ 32) (drop (i + 1) s) ≡ fnv s
unfolding fnv_step
fnv_next h s i l e f = ap (λ (x : ℕ). fnv_from (x * 16777619 % 2 ^ 32) (drop (i + 1) s)) e ∙ (sym (fnv_more h s i l) ∙ f)

pub fnv_end : {h : ℕ} (s : List ℕ) (i : ℕ) → fnv_from h (drop i s) ≡ fnv s → i ≡ length s → h ≡ fnv s
unfolding fnv_from
fnv_end s i e l = rw (l, drop-length) at e

-- A step is one-to-one

-- exclusive or: the digits, then the halves
differ_same : (a b x : ℕ) → a < 2 → b < 2 → x < 2 → differ a x ≡ differ b x → a ≡ b
differ_same zero zero x h k l e = refl
differ_same zero (suc zero) zero h k l e = e
differ_same zero (suc zero) (suc zero) h k l e = sym e
differ_same zero (suc zero) (suc (suc x)) h k l e = absurd (omega arith)
differ_same zero (suc (suc b)) x h k l e = absurd (omega arith)
differ_same (suc zero) zero zero h k l e = e
differ_same (suc zero) zero (suc zero) h k l e = sym e
differ_same (suc zero) zero (suc (suc x)) h k l e = absurd (omega arith)
differ_same (suc zero) (suc zero) x h k l e = refl
differ_same (suc zero) (suc (suc b)) x h k l e = absurd (omega arith)
differ_same (suc (suc a)) b x h k l e = absurd (omega arith)

differ_lt : (a x : ℕ) → a < 2 → x < 2 → differ a x < 2
differ_lt zero x h l = l
differ_lt (suc zero) zero h l = omega arith
differ_lt (suc zero) (suc zero) h l = omega arith
differ_lt (suc zero) (suc (suc x)) h l = absurd (omega arith)
differ_lt (suc (suc a)) x h l = absurd (omega arith)

xor_same : (k a b x : ℕ) → a < 2 ^ k → b < 2 ^ k → bit_xor a x ≡ bit_xor b x → a ≡ b
xor_same zero a b x h g e = omega arith
xor_same (suc k) a b x h g e =
    let p = pow-succ' 2 k in
    let s : bit_xor (a / 2) (x / 2) * 2 + differ (a % 2) (x % 2) ≡ bit_xor (b / 2) (x / 2) * 2 + differ (b % 2) (x % 2) = sym (xor_step a x) ∙ (e ∙ xor_step b x) in
    let c = differ_lt (a % 2) (x % 2) (omega arith) (omega arith) in
    let d = differ_lt (b % 2) (x % 2) (omega arith) (omega arith) in
    let high : a / 2 ≡ b / 2 = xor_same k (a / 2) (b / 2) (x / 2) (omega arith) (omega arith) (omega arith) in
    let low : a % 2 ≡ b % 2 = differ_same (a % 2) (b % 2) (x % 2) (omega arith) (omega arith) (omega arith) (omega arith) in
    omega arith

-- the prime is odd, so that its product can be undone: 16777619 * 899433627 is 1 modulo 2 ^ 32
undone : (x : ℕ) → x < 2 ^ 32 → x * 16777619 % 2 ^ 32 * 899433627 % 2 ^ 32 ≡ x
undone x l =
    let z : x * 16777619 / 2 ^ 32 * 2 ^ 32 + x * 16777619 % 2 ^ 32 ≡ x * 16777619 = div-add-mod' (x * 16777619) (2 ^ 32) in
    let e : x * 16777619 % 2 ^ 32 * 899433627 + x * 16777619 / 2 ^ 32 * 899433627 * 2 ^ 32 ≡ x + x * 3513497 * 2 ^ 32 = spread x (x * 16777619 / 2 ^ 32) (x * 16777619 % 2 ^ 32) z in
    sym (add-mul-mod_self_right (x * 16777619 % 2 ^ 32 * 899433627) (x * 16777619 / 2 ^ 32 * 899433627) (2 ^ 32))
    ∙ (ap (λ (y : ℕ). y % 2 ^ 32) e ∙ (add-mul-mod_self_right x (x * 3513497) (2 ^ 32) ∙ mod-eq_of_lt l))
  where
    spread : (x q r : ℕ) → q * 2 ^ 32 + r ≡ x * 16777619 → r * 899433627 + q * 899433627 * 2 ^ 32 ≡ x + x * 3513497 * 2 ^ 32
    spread x q r e = omega arith

times_same : (x y : ℕ) → x < 2 ^ 32 → y < 2 ^ 32 → x * 16777619 % 2 ^ 32 ≡ y * 16777619 % 2 ^ 32 → x ≡ y
times_same x y h g e = sym (undone x h) ∙ (ap (λ (z : ℕ). z * 899433627 % 2 ^ 32) e ∙ undone y g)

step_lt : (h b : ℕ) → fnv_step h b < 2 ^ 32
unfolding fnv_step
step_lt h b = mod-lt (bit_xor h b * 16777619) (omega arith)

module _ (h g b c : ℕ) (hl : h < 2 ^ 32) (gl : g < 2 ^ 32) (bl : b < 256) (cl : c < 256) where
  steps : fnv_step h b ≡ fnv_step g c → bit_xor h b ≡ bit_xor g c
  unfolding fnv_step
  steps e = times_same (bit_xor h b) (bit_xor g c) (xor_lt 32 h b hl (omega arith)) (xor_lt 32 g c gl (omega arith)) e

step_hash : (h g b : ℕ) → h < 2 ^ 32 → g < 2 ^ 32 → b < 256 → fnv_step h b ≡ fnv_step g b → h ≡ g
step_hash h g b hl gl bl e = xor_same 32 h g b hl gl (steps h g b b hl gl bl bl e)

step_byte : (h b c : ℕ) → h < 2 ^ 32 → b < 256 → c < 256 → fnv_step h b ≡ fnv_step h c → b ≡ c
step_byte h b c hl bl cl e = xor_same 32 b c h (omega arith) (omega arith) (xor_comm b h ∙ (steps h h b c hl hl bl cl e ∙ xor_comm h c))

-- the same bytes behind two hashes
from_same : (s : List ℕ) (h g : ℕ) → ((i : ℕ) → get_or s i 0 < 256) → h < 2 ^ 32 → g < 2 ^ 32 → fnv_from h s ≡ fnv_from g s → h ≡ g
unfolding fnv_from
from_same [] h g k hl gl e = e
from_same (b ∷ s) h g k hl gl e = step_hash h g b hl gl (k 0) (from_same s (fnv_step h b) (fnv_step g b) (λ i. k (suc i)) (step_lt h b) (step_lt g b) e)

-- one byte changed
from_changed : (s : List ℕ) (h i x : ℕ) → ((j : ℕ) → get_or s j 0 < 256) → h < 2 ^ 32 → x < 256 → i < length s → fnv_from h (set s i x) ≡ fnv_from h s → x ≡ get_or s i 0
unfolding fnv_from
from_changed [] h i x k hl xl l e = absurd (omega arith)
from_changed (b ∷ s) h zero x k hl xl l e = step_byte h x b hl xl (k 0) (from_same s (fnv_step h x) (fnv_step h b) (λ i. k (suc i)) (step_lt h x) (step_lt h b) e)
from_changed (b ∷ s) h (suc i) x k hl xl l e = from_changed s (fnv_step h b) i x (λ j. k (suc j)) (step_lt h b) xl (omega arith) e

pub fnv_changed : (s : List ℕ) (i x : ℕ) → ((j : ℕ) → get_or s j 0 < 256) → x < 256 → i < length s → fnv (set s i x) ≡ fnv s → x ≡ get_or s i 0
unfolding fnv
fnv_changed s i x k xl l e = from_changed s 2166136261 i x k (omega arith) xl l e

from_lt : (s : List ℕ) (h : ℕ) → h < 2 ^ 32 → fnv_from h s < 2 ^ 32
unfolding fnv_from
from_lt [] h l = l
from_lt (b ∷ s) h l = from_lt s (fnv_step h b) (step_lt h b)

pub fnv_lt : (s : List ℕ) → fnv s < 2 ^ 32
unfolding fnv
fnv_lt s = from_lt s 2166136261 (omega arith)
