-- Laws of moves put in: lot by lot, what an order and the marks hold afterwards, and that moves of other lots may go in either way round.
-- Assumes nothing.
use mathlib.Core.Path.{◌≡◌, refl, sym, ◌∙◌, ap}
use mathlib.Core.Bool.{Bool, true, false, ◌&&◌, ◌||◌, not, or-true}
use mathlib.Core.List.{List, [], ◌∷◌}
use Prim.Native.Nat.{ℕ, ◌≤◌, ◌<◌}
use native.Mathlib.Omega.{arith}
use native.Mathlib.Nat.{min-le_left}
use native.Mathlib.Decide.{dec_lt}
use lib.Dec.{eqb}
use lib.ListN.{length, get_or, set, take, length-set, length-take}
use lib.Seq.{get_or-set_same, get_or-set_other, set_comm, set_out, take-set-le, take-set-lt}
use borrow.Author.Tests.{eqb-true, eqb-false, eq-eqb, not-true}
use Rattle.lex.specs.Every.{every_of, some_of}
use Rattle.lex.proofs.Every.{both, and_left, and_right, not_both, or_neither}
use Rattle.sheet.specs.Moves.{Move, is_of, names, once, stirs, placed_all, marked_all}

-- Names

-- the first move names another lot, and so do the others
names_split : (x : Move) (l : List Move) (p : ℕ) → names (x ∷ l) p ≡ false → (x.lot ≡ p → ⊥) × (names l p ≡ false)
unfolding names some_of is_of
names_split x l p e = let c = or_neither (eqb x.lot p) (names l p) e in (eqb-false x.lot p c.0, c.1)

pub names_later : (x : Move) (l : List Move) (p : ℕ) → names l p ≡ true → names (x ∷ l) p ≡ true
unfolding names some_of
names_later x l p e = rw e (or-true (is_of p x))

pub names_first : (x : Move) (l : List Move) (p : ℕ) → x.lot ≡ p → names (x ∷ l) p ≡ true
unfolding names some_of is_of
names_first x l p e = rw (eq-eqb x.lot p e)

-- the first move names the lot, or a later one does
data Where (x : Move) (l : List Move) (p : ℕ) : Type 0 where
  here : x.lot ≡ p → Where x l p
  there : (x.lot ≡ p → ⊥) → names l p ≡ true → Where x l p

names_where : (x : Move) (l : List Move) (p : ℕ) → names (x ∷ l) p ≡ true → Where x l p
unfolding names some_of is_of
names_where x l p e = go (eqb x.lot p) refl e
  where
    go : (b : Bool) → eqb x.lot p ≡ b → (b || names l p) ≡ true → Where x l p
    go true f t = here (eqb-true x.lot p f)
    go false f t = there (eqb-false x.lot p f) t

none_named : (p : ℕ) → names [] p ≡ true → ⊥
unfolding names some_of
none_named p e = not_both e refl

-- A test of every move, move by move

module _ (f : Move → Bool) where
  first_of : (x : Move) (l : List Move) → every_of f (x ∷ l) ≡ true → f x ≡ true
  unfolding every_of
  first_of x l e = and_left (f x) (every_of f l) e

  others_of : (x : Move) (l : List Move) → every_of f (x ∷ l) ≡ true → every_of f l ≡ true
  unfolding every_of
  others_of x l e = and_right (f x) (every_of f l) e

  every_of_lem : (x : Move) (l : List Move) → f x ≡ true → every_of f l ≡ true → every_of f (x ∷ l) ≡ true
  unfolding every_of
  every_of_lem x l e h = both e h

  -- a move that names lot p passes
  pub record At (l : List Move) (p : ℕ) : Type 0 where
    pub slot : ℕ
    pub passes : f (record { lot = p; slot = slot }) ≡ true

  pub every_named : (l : List Move) (p : ℕ) → every_of f l ≡ true → names l p ≡ true → At l p
  every_named [] p e h = absurd (none_named p h)
  every_named (x ∷ l) p e h = elim (names_where x l p h) [
    | here g ↦ record { slot = x.slot; passes = rw g at (first_of x l e) }
    | there g t ↦ let r = every_named l p (others_of x l e) t in record { slot = r.slot; passes = r.passes }
  ]

  -- a move that fails
  pub record Fails (l : List Move) : Type 0 where
    pub move : Move
    pub named : names l move.lot ≡ true
    pub fails : f move ≡ false

  pub every_fails : (l : List Move) → every_of f l ≡ false → Fails l
  unfolding every_of
  every_fails [] e = absurd (not_both refl e)
  every_fails (x ∷ l) e = go (f x) refl (every_fails l) e
    where
      go : (b : Bool) → f x ≡ b → (every_of f l ≡ false → Fails l) → (b && every_of f l) ≡ false → Fails (x ∷ l)
      go true g later t = let r = later t in record { move = r.move; named = names_later x l r.move.lot r.named; fails = r.fails }
      go false g later t = record { move = x; named = names_first x l x.lot refl; fails = g }

  pub every_all : (l : List Move) → ((x : Move) → names l x.lot ≡ true → f x ≡ true) → every_of f l ≡ true
  unfolding every_of
  every_all [] h = refl
  every_all (x ∷ l) h = both (h x (names_first x l x.lot refl)) (every_all l (λ y g. h y (names_later x l y.lot g)))

-- a test carried over to another, at the lots that the moves name
pub every_over : (f g : Move → Bool) (l : List Move) → ((x : Move) → names l x.lot ≡ true → f x ≡ true → g x ≡ true) → every_of f l ≡ true → every_of g l ≡ true
unfolding every_of
every_over f g [] h e = refl
every_over f g (x ∷ l) h e = both (h x (names_first x l x.lot refl) (and_left (f x) (every_of f l) e)) (every_over f g l (λ y k. h y (names_later x l y.lot k)) (and_right (f x) (every_of f l) e))

-- The order afterwards, lot by lot

pub placed_length : (l : List Move) (s : List ℕ) → length (placed_all l s) ≡ length s
unfolding placed_all
placed_length [] s = refl
placed_length (x ∷ l) s = placed_length l (set s x.lot x.slot) ∙ length-set s x.lot x.slot

pub placed_other : (l : List Move) (s : List ℕ) (p : ℕ) → names l p ≡ false → get_or (placed_all l s) p 0 ≡ get_or s p 0
unfolding placed_all
placed_other [] s p e = refl
placed_other (x ∷ l) s p e = let c = names_split x l p e in placed_other l (set s x.lot x.slot) p c.1 ∙ get_or-set_other s x.lot p x.slot 0 (λ z. c.0 (sym z))

-- a named lot's slot comes from the moves alone
pub placed_same : (l : List Move) (s t : List ℕ) (p : ℕ) → p < length s → p < length t → names l p ≡ true → get_or (placed_all l s) p 0 ≡ get_or (placed_all l t) p 0
unfolding placed_all
placed_same [] s t p h k e = absurd (none_named p e)
placed_same (x ∷ l) s t p h k e = go (names l p) refl (placed_same l (set s x.lot x.slot) (set t x.lot x.slot) p (rw length-set h) (rw length-set k))
  where
    go : (b : Bool) → names l p ≡ b → (names l p ≡ true → get_or (placed_all l (set s x.lot x.slot)) p 0 ≡ get_or (placed_all l (set t x.lot x.slot)) p 0) → get_or (placed_all l (set s x.lot x.slot)) p 0 ≡ get_or (placed_all l (set t x.lot x.slot)) p 0
    go true f later = later f
    go false f later = elim (names_where x l p e) [
      | here z ↦ (placed_other l (set s x.lot x.slot) p f ∙ put s h z) ∙ sym (placed_other l (set t x.lot x.slot) p f ∙ put t k z)
      | there z g ↦ absurd (not_both g f)
    ]
      where
        put : (u : List ℕ) → p < length u → x.lot ≡ p → get_or (set u x.lot x.slot) p 0 ≡ x.slot
        put u g z = rw z (get_or-set_same u p x.slot 0 g)

-- a lot that is named once, for another slot than s has, stands elsewhere afterwards
pub placed_stirs : (l : List Move) (s t : List ℕ) (p : ℕ) → once l ≡ true → every_of (stirs s) l ≡ true → p < length t → names l p ≡ true → get_or s p 0 ≡ get_or (placed_all l t) p 0 → ⊥
unfolding placed_all once stirs
placed_stirs [] s t p o e h n z = none_named p n
placed_stirs (x ∷ l) s t p o e h n z = elim (names_where x l p n) [
  | here g ↦ eqb-false (get_or s x.lot 0) x.slot (not-true (eqb (get_or s x.lot 0) x.slot) (first_of (stirs s) x l e)) (rw g (z ∙ lands g))
  | there g m ↦ placed_stirs l s (set t x.lot x.slot) p (and_right (not (names l x.lot)) (once l) o) (others_of (stirs s) x l e) (rw length-set h) m z
]
  where
    lands : x.lot ≡ p → get_or (placed_all l (set t x.lot x.slot)) p 0 ≡ x.slot
    lands g = placed_other l (set t x.lot x.slot) p (rw g at (not-true (names l x.lot) (and_left (not (names l x.lot)) (once l) o))) ∙ rw g (get_or-set_same t p x.slot 0 h)

-- The marks afterwards, lot by lot

pub marked_length : (k : ℕ) (l : List Move) (s : List ℕ) → length (marked_all k l s) ≡ length s
unfolding marked_all
marked_length k [] s = refl
marked_length k (x ∷ l) s = marked_length k l (set s x.lot k) ∙ length-set s x.lot k

pub marked_other : (k : ℕ) (l : List Move) (s : List ℕ) (p : ℕ) → names l p ≡ false → get_or (marked_all k l s) p 0 ≡ get_or s p 0
unfolding marked_all
marked_other k [] s p e = refl
marked_other k (x ∷ l) s p e = let c = names_split x l p e in marked_other k l (set s x.lot k) p c.1 ∙ get_or-set_other s x.lot p k 0 (λ z. c.0 (sym z))

pub marked_named : (k : ℕ) (l : List Move) (s : List ℕ) (p : ℕ) → p < length s → names l p ≡ true → get_or (marked_all k l s) p 0 ≡ k
unfolding marked_all
marked_named k [] s p h e = absurd (none_named p e)
marked_named k (x ∷ l) s p h e = go (names l p) refl (marked_named k l (set s x.lot k) p (rw length-set h))
  where
    go : (b : Bool) → names l p ≡ b → (names l p ≡ true → get_or (marked_all k l (set s x.lot k)) p 0 ≡ k) → get_or (marked_all k l (set s x.lot k)) p 0 ≡ k
    go true f later = later f
    go false f later = elim (names_where x l p e) [
      | here z ↦ marked_other k l (set s x.lot k) p f ∙ rw z (get_or-set_same s p k 0 h)
      | there z g ↦ absurd (not_both g f)
    ]

-- Moves of other lots go in either way round

place_later : (l : List Move) (s : List ℕ) (p v : ℕ) → names l p ≡ false → set (placed_all l s) p v ≡ placed_all l (set s p v)
unfolding placed_all
place_later [] s p v e = refl
place_later (x ∷ l) s p v e = let c = names_split x l p e in place_later l (set s x.lot x.slot) p v c.1 ∙ ap (placed_all l) (set_comm s x.lot p x.slot v c.0)

pub placed_either : (k l : List Move) (s : List ℕ) → ((p : ℕ) → names k p ≡ true → names l p ≡ false) → placed_all k (placed_all l s) ≡ placed_all l (placed_all k s)
unfolding placed_all
placed_either [] l s h = refl
placed_either (x ∷ k) l s h =
    ap (placed_all k) (place_later l s x.lot x.slot (h x.lot (names_first x k x.lot refl)))
    ∙ placed_either k l (set s x.lot x.slot) (λ p e. h p (names_later x k p e))

-- Moves put into the beginning of an order

take_set : (n : ℕ) (s : List ℕ) (p v : ℕ) → take n (set s p v) ≡ set (take n s) p v
take_set n s p v = elim (dec_lt p n) [
  | yes h ↦ take-set-lt n s p v h
  | no h ↦ take-set-le n s p v (omega arith) ∙ sym (set_out (take n s) p v (let l : length (take n s) ≤ n = rw length-take (min-le_left n (length s)) in omega arith))
]

pub placed_take : (l : List Move) (n : ℕ) (s : List ℕ) → take n (placed_all l s) ≡ placed_all l (take n s)
unfolding placed_all
placed_take [] n s = refl
placed_take (x ∷ l) n s = placed_take l n (set s x.lot x.slot) ∙ ap (placed_all l) (take_set n s x.lot x.slot)
