-- Laws of writing a text piece by piece: one byte, one piece behind another, and the pieces of a loop.
-- Assumes nothing.
use mathlib.Core.Path.{◌≡◌, refl, sym, ◌∙◌, ap, ap₂, subst, subst⁻¹}
use mathlib.Core.List.{List, [], ◌∷◌, ◌++◌, flat_map, append-nil, append_assoc}
use Prim.Native.Nat.{ℕ, zero, suc, ◌+◌, ◌-◌, ◌≤◌, ◌<◌}
use native.Mathlib.Omega.{arith}
use native.Mathlib.Decide.{dec_lt}
use native.Mathlib.Numerals.{add-one}
use lib.ListN.{length, get_or, set, take, drop, replicate, length-append, length-drop, length-replicate, length-take, length-set, replicate-append-replicate}
use lib.Seq.{take-suc-set, length-take-le, take_all}
use Rattle.std.proofs.Math.ListN.{drop_of_length-le}
use Rattle.print.specs.Text.{field, fields}
use Rattle.print.specs.Put.{Fits, Put, pieces}

pub put_none : (at : ℕ) (l : List ℕ) → Put [] at l at l
put_none at l = record { ends = omega arith; stands = sym (append-nil (take at l)); size = refl }

pub put_one : (x at : ℕ) (l : List ℕ) → at < length l → Put (x ∷ []) at l (at + 1) (set l at x)
put_one x at l h = record { ends = refl; stands = rw add-one (take-suc-set l at x h); size = length-set l at x }

-- a piece behind another
pub put_more : {p q l m k : List ℕ} {at e f : ℕ} → Put p at l e m → Put q e m f k → Put (p ++ q) at l f k
put_more {p} {q} {l} {m} {k} {at} {e} {f} a b = record {
  ends = let n = length-append p q in omega arith;
  stands = b.stands ∙ (ap (λ (t : List ℕ). t ++ q) a.stands ∙ append_assoc (take at l) p q);
  size = b.size ∙ a.size;
}

-- a text ends within its buffer
pub put_within : {p l m : List ℕ} {e : ℕ} → Put p 0 l e m → e ≤ length m
put_within {p} {l} {m} {e} a = let h = ap length a.stands in let t = length-take e m in let x = a.ends in omega arith

-- a piece by another name
pub put_as : {p q l m : List ℕ} {at e : ℕ} → q ≡ p → Put p at l e m → Put q at l e m
put_as {p} {q} {l} {m} {at} {e} h a = subst⁻¹ (λ (t : List ℕ). Put t at l e m) h a

pub fits_as : {p q l : List ℕ} {at : ℕ} → p ≡ q → Fits p at l → Fits q at l
fits_as {p} {q} {l} {at} h a = subst (λ (t : List ℕ). Fits t at l) h a

-- what fits, its parts do
pub fits_first : (p q : List ℕ) {at : ℕ} {l : List ℕ} → Fits (p ++ q) at l → Fits p at l
fits_first p q h = record { room = let n = length-append p q in omega arith }

pub fits_rest : {p q l m : List ℕ} {at e : ℕ} → Fits (p ++ q) at l → Put p at l e m → Fits q e m
fits_rest {p} {q} h a = record { room = let n = length-append p q in omega arith }

-- The pieces of a loop

module _ (f : ℕ → List ℕ) where
  pub pieces_none : (at : ℕ) (l : List ℕ) → Put (pieces f 0) at l at l
  unfolding pieces
  pieces_none at l = put_none at l

  pub pieces_more : {l m k : List ℕ} {at e g : ℕ} (i : ℕ) → Put (pieces f i) at l e m → Put (f i) e m g k → Put (pieces f (i + 1)) at l g k
  unfolding pieces
  pieces_more i a b = rw add-one (put_more a b)

  pieces_part : (n i : ℕ) → i < n → length (pieces f i) + length (f i) ≤ length (pieces f n)
  unfolding pieces
  pieces_part zero i h = absurd (omega arith)
  pieces_part (suc n) i h =
      let s = length-append (pieces f n) (f n) in
      elim (dec_lt i n) [ yes l ↦ let r = pieces_part n i l in omega arith | no l ↦ let e : i ≡ n = omega arith in rw e (omega arith) ]

  pub pieces_fit : {l m : List ℕ} {at e : ℕ} (n i : ℕ) → i < n → Fits (pieces f n) at l → Put (pieces f i) at l e m → Fits (f i) e m
  pieces_fit n i h g a = record { room = let r = pieces_part n i h in omega arith }

  pieces_front : (n : ℕ) → pieces f (suc n) ≡ f 0 ++ pieces (λ i. f (suc i)) n
  unfolding pieces
  pieces_front zero = sym (append-nil (f 0))
  pieces_front (suc n) = ap (λ (t : List ℕ). t ++ f (suc n)) (pieces_front n) ∙ append_assoc (f 0) (pieces (λ i. f (suc i)) n) (f (suc n))

pub pieces_cong : (f g : ℕ → List ℕ) (n : ℕ) → ((i : ℕ) → i < n → f i ≡ g i) → pieces f n ≡ pieces g n
unfolding pieces
pieces_cong f g zero h = refl
pieces_cong f g (suc n) h = ap₂ ◌++◌ (pieces_cong f g n (λ i l. h i (omega arith))) (h n (omega arith))

-- a piece for each member of a list
pub pieces_flat {ℓ} : {A : Type ℓ} (f : A → List ℕ) (d : A) (l : List A) → pieces (λ i. f (get_or l i d)) (length l) ≡ flat_map f l
unfolding pieces flat_map
pieces_flat f d [] = refl
pieces_flat f d (x ∷ l) = pieces_front (λ i. f (get_or (x ∷ l) i d)) (length l) ∙ ap (λ (t : List ℕ). f x ++ t) (pieces_flat f d l)

-- a word, byte by byte

unfoldable pub byte_at : List ℕ → ℕ → List ℕ
byte_at s i = get_or s i 0 ∷ []

bytes_flat : (s : List ℕ) → flat_map (λ x. x ∷ []) s ≡ s
unfolding flat_map
bytes_flat [] = refl
bytes_flat (x ∷ s) = ap (λ (t : List ℕ). x ∷ t) (bytes_flat s)

word_bytes : (s : List ℕ) → pieces (byte_at s) (length s) ≡ s
unfolding byte_at
word_bytes s = pieces_flat (λ x. x ∷ []) 0 s ∙ bytes_flat s

-- the fields of a list of numbers, one by one

unfoldable pub field_at : List ℕ → ℕ → List ℕ
field_at s i = field (get_or s i 0)

fields_each : (s : List ℕ) → pieces (field_at s) (length s) ≡ fields s
unfolding field_at fields
fields_each s = pieces_flat field 0 s

module _ {l m : List ℕ} {at e : ℕ} (s : List ℕ) (i : ℕ) where
  pub word_fits : i < length s → Fits s at l → Put (pieces (byte_at s) i) at l e m → Fits (get_or s i 0 ∷ []) e m
  unfolding byte_at
  word_fits h f a = pieces_fit (byte_at s) (length s) i h (fits_as (sym (word_bytes s)) f) a

  pub word_put : i ≡ length s → Put (pieces (byte_at s) i) at l e m → Put s at l e m
  word_put h a = put_as (sym (ap (pieces (byte_at s)) h ∙ word_bytes s)) a

  pub field_fits : i < length s → Fits (fields s) at l → Put (pieces (field_at s) i) at l e m → Fits (field (get_or s i 0)) e m
  unfolding field_at
  field_fits h f a = pieces_fit (field_at s) (length s) i h (fits_as (sym (fields_each s)) f) a

  pub fields_put : i ≡ length s → Put (pieces (field_at s) i) at l e m → Put (fields s) at l e m
  fields_put h a = put_as (sym (ap (pieces (field_at s)) h ∙ fields_each s)) a

-- What stands behind a text, as long as it is: nothing is behind that
pub rest_size : (e : ℕ) (m : List ℕ) → e ≤ length m → length (take (length m - e) (drop e m)) ≡ length m - e
rest_size e m h = length-take-le (length m - e) (drop e m) (omega (arith, length-drop e m))

pub rest_none : (e : ℕ) (m : List ℕ) → drop (length m - e) (drop e m) ≡ []
rest_none e m = drop_of_length-le (drop e m) (omega (arith, length-drop e m))

-- Zeros behind a text: what stands behind its end is cleared
pub cleared : (e : ℕ) (m f z : List ℕ) → e ≤ length m → f ≡ replicate (length m - e) 0 → z ≡ [] → Put (replicate (length m - e) 0) e m (length m) (take e m ++ (f ++ z))
cleared e m f z h a b =
    let l : length f ≡ length m - e = ap length a ∙ length-replicate (length m - e) 0 in
    let g : f ++ z ≡ replicate (length m - e) 0 = rw b (append-nil f ∙ a) in
    let t : length (take e m) ≡ e = length-take-le e m h in
    let n : length (take e m ++ (f ++ z)) ≡ length m = length-append (take e m) (f ++ z) ∙ rw (t, g) (omega (arith, length-replicate {A = ℕ} (length m - e) 0)) in
    record {
      ends = omega (arith, length-replicate {A = ℕ} (length m - e) 0);
      stands = take_all (length m) (take e m ++ (f ++ z)) (omega (arith, n)) ∙ ap (λ (t : List ℕ). take e m ++ t) g;
      size = n;
    }
