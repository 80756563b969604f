-- Groups of the lots that wait: of an exclusive grouping they are one too, since a placed lot's number is its own. Assumes nothing.
use mathlib.Core.Path.{◌≡◌, refl, sym, ◌∙◌}
use mathlib.Core.Bool.{Bool, true, false}
use mathlib.Core.List.{List}
use Prim.Native.Nat.{ℕ, ◌+◌, ◌≤◌, ◌<◌}
use native.Mathlib.Decide.{dec_lt}
use native.Mathlib.Omega.{arith}
use lib.ListN.{get_or}
use borrow.Author.Tests.{le-leb, lt-leb}
use Rattle.week.specs.Rules.{together}
use Rattle.week.specs.Tables.{Week, lots, pair_rules}
use Rattle.parts.specs.Part.{placed}
use Rattle.cuts.specs.Reasons.{Exclusive}
use Rattle.hope.specs.Blame.{own_group, OwnGroups}

module _ (s groups : List ℕ) (p : ℕ) where
  own_placed : placed 16 s p ≡ true → 24 + p ≡ own_group s groups p
  unfolding own_group
  own_placed e = rw e

  own_over : placed 16 s p ≡ false → 24 ≤ get_or groups p 0 → 24 + p ≡ own_group s groups p
  unfolding own_group
  own_over e h = rw (e, le-leb 24 (get_or groups p 0) h)

  own_waits : placed 16 s p ≡ false → get_or groups p 0 < 24 → get_or groups p 0 ≡ own_group s groups p
  unfolding own_group
  own_waits e h = rw (e, lt-leb 24 (get_or groups p 0) h)

  -- it is a number of its own, or the lot's group
  data Own : Type 0 where
    alone : own_group s groups p ≡ 24 + p → Own
    among : own_group s groups p ≡ get_or groups p 0 → get_or groups p 0 < 24 → Own

  own_is : Own
  own_is = go (placed 16 s p) refl
    where
      go : (b : Bool) → placed 16 s p ≡ b → Own
      go true e = alone (sym (own_placed e))
      go false e = elim (dec_lt (get_or groups p 0) 24) [ yes h ↦ among (sym (own_waits e h)) h | no h ↦ alone (sym (own_over e (omega arith))) ]

pub own_exclusive : (W : Week) (s groups own : List ℕ) → Exclusive W groups → OwnGroups s groups (lots W) own → Exclusive W own
own_exclusive W s groups own x c p q v l m e = go (own_is s groups p) (own_is s groups q)
  where
    same : own_group s groups p ≡ own_group s groups q
    same = sym (c.each p (omega arith)) ∙ e ∙ c.each q m

    go : Own s groups p → Own s groups q → together (pair_rules W) p v q v ≡ false
    go (alone a) (alone b) = absurd (let z = same in omega arith)
    go (alone a) (among b h) = absurd (let z = same in omega arith)
    go (among a g) (alone b) = absurd (let z = same in omega arith)
    go (among a g) (among b h) = x p q v l m (sym a ∙ same ∙ b)
