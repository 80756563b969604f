-- The first super solution, lot by lot: where the search starts, and what the loop over the lots knows. Assumes nothing.
use mathlib.Core.Path.{◌≡◌, refl, sym, ◌∙◌, ap}
use mathlib.Core.Bool.{true, false, not}
use mathlib.Core.List.{List}
use mathlib.Core.Option.{none, some}
use Prim.Native.Nat.{ℕ, ◌+◌, ◌-◌, ◌≤◌, ◌<◌}
use native.Mathlib.Numerals.{add-one}
use native.Mathlib.Omega.{arith}
use lib.Dec.{eqb}
use lib.ListN.{length, get_or, set, take, drop, replicate, length-set, take-append-drop}
use lib.Seq.{get_or-take, take-suc-set, drop-set-lt, length-take-le}
use borrow.Author.Tests.{not-true}
use Rattle.lex.specs.Lists.{padded}
use Rattle.lex.proofs.Every.{and_left, each, every_true, every_at}
use Rattle.lex.proofs.Turn.{drop_replicate}
use Rattle.week.specs.Rules.{bit_of}
use Rattle.week.specs.Tables.{Week, lots, pair_rules, refusal, lot_tests, lot_ok, lot_ok_at, words_ok}
use Rattle.week.proofs.Tables.{accepted}
use Rattle.robust.specs.Super.{first_super}
use Rattle.parts.specs.Part.{placed, Extends, Least}
use Rattle.parts.proofs.Outer.{Fixed, fixed_start, fixed_next}
use Rattle.cuts.specs.Cut.{robust_on}
use Rattle.cuts.specs.Hopes.{Forward, lives, alive, hopes, Supers}
use Rattle.cuts.proofs.Hopes.{supers_long, supers_under, hopes_tested, super_none, super_found}
use Rattle.cuts.proofs.Words.{forward_start, lives_word}
use Rattle.room.specs.Words.{met_word, Made}
use Rattle.hope.specs.Safe.{Going}
use Rattle.finish.specs.Search.{Next, Answers, Known}
use Rattle.hope.proofs.Blame.{blank}
use Rattle.finish.proofs.Search.{forward_next}

-- Where no lot is placed

module _ (W : Week) (fine : refusal W ≡ 0) (words : List ℕ) (made : Made (lots W) (λ p. get_or W.domain p 0) words) where
  abbrev none_placed : List ℕ
  none_placed = replicate 24 16

  few : lots W ≤ 24
  few = (accepted W fine).limits.few

  words_forward : Forward (pair_rules W) none_placed words
  words_forward p l v = ap (λ (x : ℕ). bit_of x v) (made.each p l) ∙ forward_start (pair_rules W) none_placed (blank (lots W) few) p l v

  -- a domain is not empty
  filled : (p : ℕ) → p < lots W → eqb (get_or words p 0) 0 ≡ false
  unfolding words_ok lot_ok_at lot_ok
  filled p l =
      let e = every_at (lot_ok_at W.domain W.loss W.give) (lots W) p (accepted W fine).words l in
      ap (λ (x : ℕ). eqb x 0) (made.each p l) ∙ not-true (eqb (get_or W.domain p 0) 0) (each (lot_tests (get_or W.domain p 0) (get_or W.loss p 0) (get_or W.give p 0)) e).0

  pub going_start : Going W none_placed words
  unfolding alive
  going_start = record {
    fine = fine;
    size = refl;
    forward = words_forward;
    narrow = made.narrow;
    live = every_true (lives (pair_rules W) none_placed) (lots W) (λ p l. lives_word (pair_rules W) none_placed words words_forward p l (made.narrow p l) (blank (lots W) few p l) ∙ ap not (filled p l));
  }

  -- nothing is found
  pub first_none : (x : ℕ) (o : List ℕ) → Answers W none_placed x 16 false o → first_super W ≡ none
  first_none x o f = super_none W none_placed o (blank (lots W) few) (λ u q e. let a = f.1 u q (λ p l h. absurd (let z = f.0 p l h in let y = blank (lots W) few p l in omega arith)) in let d = supers_under W u q x a.0 in let z = a.1 in omega arith)

-- The loop over the lots: those below d are fixed in `order`, known is a super solution that extends it, and `slots` has what is fixed, and 0 beyond

pub record Outer (W : Week) (order words known slots : List ℕ) (d : ℕ) : Type 0 where
  pub going : Going W order words
  pub fixed : Fixed (Supers W) (lots W) 16 order known d
  pub words_size : length words ≡ 24
  pub known_size : length known ≡ 24
  pub size : length slots ≡ 24
  pub same : take d slots ≡ take d order
  pub rest : drop (lots W) slots ≡ replicate (24 - lots W) 0

-- no lot is fixed, and o is a super solution
pub outer_start : (W : Week) (fine : refusal W ≡ 0) (words : List ℕ) → Made (lots W) (λ p. get_or W.domain p 0) words → (x : ℕ) (o : List ℕ) → length o ≡ 24 → Answers W (replicate 24 16) x 16 true o → Outer W (replicate 24 16) words o (replicate 24 0) 0
outer_start W fine words made x o long f = record {
  going = going_start W fine words made;
  fixed = fixed_start (replicate 24 16) o few' (blank (lots W) few') f.0;
  words_size = made.size;
  known_size = long;
  size = refl;
  same = refl;
  rest = drop_replicate (lots W) 24 0;
}
  where
    few' : lots W ≤ 24
    few' = (accepted W fine).limits.few

module _ {W : Week} {order words known slots : List ℕ} {d : ℕ} (c : Outer W order words known slots d) where
  pub outer_known : Known W order known
  outer_known = record { size = c.known_size; has = c.fixed.has; extends = c.fixed.extends }

  pub outer_next : d < lots W → Next W order words d
  outer_next h = record { going = c.going; lot = h; idle = c.fixed.idle d (omega arith) h }

  -- lot d gets its least slot, that of r
  module _ (h : d < lots W) (r met : List ℕ) (long : length r ≡ 24) (l : Least (Supers W) (lots W) 16 order d r) where
    abbrev v : ℕ
    v = get_or r d 0

    pub least_low : v < 16
    least_low = rw (get_or-take (lots W) r d 0 h) at (supers_under W (take (lots W) r) l.has d h)

    fixed' : Fixed (Supers W) (lots W) 16 (set order d v) r (d + 1)
    fixed' = fixed_next (supers_long W) (supers_under W) c.fixed r l h

    extends' : Extends (lots W) 16 (set order d v) (take (lots W) r)
    extends' p k g = get_or-take (lots W) r p 0 k ∙ fixed'.extends p k g

    pub outer_step : (u : ℕ) → u ≡ v → Made (lots W) (met_word (lots W) W.ties words d u) met → (new : List ℕ) → new ≡ set slots d u → Outer W (set order d u) met r new (d + 1)
    unfolding hopes
    outer_step u is made new put = rw (put, is) record {
      going = record {
        fine = c.going.fine;
        size = rw length-set c.going.size;
        forward = forward_next (outer_next h) least_low (rw is at made);
        narrow = made.narrow;
        live = and_left (alive (pair_rules W) (set order d v)) (robust_on W (placed 16 (set order d v)) (set order d v)) ((hopes_tested W).must.needed (set order d v) (take (lots W) r) l.has extends');
      };
      fixed = fixed';
      words_size = made.size;
      known_size = long;
      size = rw length-set c.size;
      same = rw (add-one, take-suc-set slots d v (omega (arith, c.size, few')), take-suc-set order d v (omega (arith, c.going.size, few')), c.same);
      rest = drop-set-lt (lots W) slots d v h ∙ c.rest;
    }
      where
        few' : lots W ≤ 24
        few' = (accepted W c.going.fine).limits.few

  -- every lot is fixed
  pub outer_found : d ≡ lots W → first_super W ≡ some (take (lots W) slots)
  outer_found e = super_found W c.fixed e ∙ ap some (sym (rw e at c.same))

  pub outer_padded : slots ≡ padded 24 (take (lots W) slots)
  unfolding padded
  outer_padded = sym (take-append-drop (lots W) slots) ∙ rw (c.rest, length-take-le (lots W) slots (let z = (accepted W c.going.fine).limits.few in omega (arith, c.size)))
