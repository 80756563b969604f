-- A file in which any one byte is changed is never accepted.
-- Assumes nothing.
use mathlib.Core.Path.{◌≡◌, sym, ◌∙◌, ap}
use mathlib.Core.List.{List}
use Prim.Native.Nat.{ℕ, ◌+◌, ◌*◌, ◌-◌, ◌/◌, ◌%◌, ◌^◌, ◌≤◌, ◌<◌}
use native.Mathlib.Decide.{dec_lt}
use native.Mathlib.Omega.{arith}
use lib.ListN.{length, get_or, set, take, drop, length-set, length-drop, length-take, get_or-eq_default}
use lib.Seq.{get_or-take, get_or-drop, get_or-set_same, get_or-set_other, take-set-lt, take-set-le, drop-set-add, length-take-le}
use Rattle.block.specs.Fnv.{fnv}
use Rattle.block.specs.Parts.{byte_of}
use Rattle.block.specs.Reading.{block_refusal, file_refusal}
use Rattle.block.proofs.Fnv.{fnv_changed, fnv_lt}
use Rattle.block.proofs.Checks.{blocks_each}
use Rattle.block.proofs.Given.{held}
use Rattle.block.proofs.WriteBack.{Bytes, holds_at, check_stands}

-- a number below 2 ^ 32 is known by its four bytes

two_bytes : (x y : ℕ) → x < 65536 → y < 65536 → x % 256 ≡ y % 256 → x / 256 % 256 ≡ y / 256 % 256 → x ≡ y
two_bytes x y h g a b = omega arith

byte_0 : (x : ℕ) → x % 65536 % 256 ≡ x / 1 % 256
byte_0 x = omega arith

byte_1 : (x : ℕ) → x % 65536 / 256 % 256 ≡ x / 256 % 256
byte_1 x = omega arith

byte_3 : (x : ℕ) → x / 65536 / 256 % 256 ≡ x / 16777216 % 256
byte_3 x = omega arith

four_bytes : (x y : ℕ) → x < 2 ^ 32 → y < 2 ^ 32 → ((j : ℕ) → j < 4 → byte_of x j ≡ byte_of y j) → x ≡ y
unfolding byte_of
four_bytes x y h g e =
    let low : x % 65536 ≡ y % 65536 = two_bytes (x % 65536) (y % 65536) (omega arith) (omega arith) (byte_0 x ∙ (e 0 (omega arith) ∙ sym (byte_0 y))) (byte_1 x ∙ (e 1 (omega arith) ∙ sym (byte_1 y))) in
    let high : x / 65536 ≡ y / 65536 = two_bytes (x / 65536) (y / 65536) (omega arith) (omega arith) (e 2 (omega arith)) (byte_3 x ∙ (e 3 (omega arith) ∙ sym (byte_3 y))) in
    omega arith

-- parts of a list of bytes hold bytes

drop_small : (m : ℕ) (l : List ℕ) → Bytes l → Bytes (drop m l)
drop_small m l s i = let e = get_or-drop m l i 0 in let h = s (m + i) in omega arith

take_small : (m : ℕ) (l : List ℕ) → Bytes l → Bytes (take m l)
take_small m l s i = elim (dec_lt i m) [
  | yes h ↦ let e = get_or-take m l i 0 h in let k = s i in omega arith
  | no h ↦ let e = get_or-eq_default (take m l) 0 {n = i} (let t = length-take m l in omega arith) in omega arith
]

-- the body of block b
abbrev part : List ℕ → ℕ → List ℕ
part F b = take 508 (drop (b * 512) F)

module _ (F : List ℕ) (s : Bytes F) (b o x : ℕ) (h : b * 512 + 512 ≤ length F) (l : o < 512) (xl : x < 256) where
  abbrev G : List ℕ
  G = set F (b * 512 + o) x

  module _ (f : block_refusal F b ≡ 0) (g : block_refusal G b ≡ 0) where
    -- in the body: the check stays, and the hash does not
    in_body : o < 508 → x ≡ get_or F (b * 512 + o) 0
    in_body k =
        let d = length-drop (b * 512) F in
        let n : length (part F b) ≡ 508 = length-take-le 508 (drop (b * 512) F) (omega arith) in
        let e : part G b ≡ set (part F b) o x = ap (take 508) (drop-set-add (b * 512) F o x) ∙ take-set-lt 508 (drop (b * 512) F) o x k in
        fnv_changed (part F b) o x small xl (omega arith) (sym (ap fnv e) ∙ sym same) ∙ place o k
      where
        place : (i : ℕ) → i < 508 → get_or (part F b) i 0 ≡ get_or F (b * 512 + i) 0
        place i m = get_or-take 508 (drop (b * 512) F) i 0 m ∙ get_or-drop (b * 512) F i 0

        small : (i : ℕ) → get_or (part F b) i 0 < 256
        small i = take_small 508 (drop (b * 512) F) (drop_small (b * 512) F s) i

        same : fnv (part F b) ≡ fnv (part G b)
        same = four_bytes (fnv (part F b)) (fnv (part G b)) (fnv_lt (part F b)) (fnv_lt (part G b)) (λ j m.
            sym (holds_at F (b * 512 + 508) (fnv (part F b)) (check_stands F b f) j m)
            ∙ (sym (get_or-set_other F (b * 512 + o) (b * 512 + 508 + j) x 0 (λ z. omega arith)) ∙ holds_at G (b * 512 + 508) (fnv (part G b)) (check_stands G b g) j m))

    -- in the check: the hash stays, and the check does not
    in_check : 508 ≤ o → x ≡ get_or F (b * 512 + o) 0
    in_check k =
        let a : b * 512 + 508 + (o - 508) ≡ b * 512 + o = omega arith in
        let e : part G b ≡ part F b = ap (take 508) (drop-set-add (b * 512) F o x) ∙ take-set-le 508 (drop (b * 512) F) o x k in
        let new = holds_at G (b * 512 + 508) (fnv (part G b)) (check_stands G b g) (o - 508) (omega arith) in
        let old = holds_at F (b * 512 + 508) (fnv (part F b)) (check_stands F b f) (o - 508) (omega arith) in
        sym (get_or-set_same F (b * 512 + o) x 0 (omega arith))
        ∙ (ap (λ (i : ℕ). get_or G i 0) (sym a) ∙ (new ∙ (ap (λ (t : List ℕ). byte_of (fnv t) (o - 508)) e ∙ (sym old ∙ ap (λ (i : ℕ). get_or F i 0) a))))

-- any one byte of a file that is not refused, changed: the file is refused
pub changed : (F : List ℕ) (i x : ℕ) → Bytes F → i < length F → x < 256 → (x ≡ get_or F i 0 → ⊥) → file_refusal F ≡ 0 → file_refusal (set F i x) ≡ 0 → ⊥
changed F i x s l xl h e f =
    let a = held F e in
    let w = a.whole in
    let n = length-set F i x in
    let p : i / 512 * 512 + i % 512 ≡ i = omega arith in
    let q : i / 512 < length F / 512 = omega (arith, w.whole) in
    let q' : i / 512 < length (set F i x) / 512 = omega arith in
    let m : i / 512 * 512 + 512 ≤ length F = omega arith in
    let old : block_refusal F (i / 512) ≡ 0 = blocks_each F (length F / 512) (i / 512) q a.checked in
    let new : block_refusal (set F (i / 512 * 512 + i % 512) x) (i / 512) ≡ 0 = ap (λ (k : ℕ). block_refusal (set F k x) (i / 512)) p ∙ blocks_each (set F i x) (length (set F i x) / 512) (i / 512) q' (held (set F i x) f).checked in
    let r : i % 512 < 512 = omega arith in
    h (elim (dec_lt (i % 512) 508) [
      | yes k ↦ in_body F s (i / 512) (i % 512) x m r xl old new k ∙ ap (λ (j : ℕ). get_or F j 0) p
      | no k ↦ in_check F s (i / 512) (i % 512) x m r xl old new (omega arith) ∙ ap (λ (j : ℕ). get_or F j 0) p
    ])
