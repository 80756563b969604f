-- Each answer of the service solve, from what the code knows where it gives it.
-- Assumes nothing.
use mathlib.Core.Path.{◌≡◌, refl, sym, ◌∙◌, ap, ap₂}
use mathlib.Core.Bool.{Bool, true, false}
use mathlib.Core.List.{List, []}
use mathlib.Core.Option.{Option, none, some}
use Prim.Native.Nat.{ℕ, ◌*◌, ◌≤◌}
use native.Mathlib.Omega.{arith}
use lib.Dec.{eqb}
use lib.ListN.{length, take}
use borrow.Author.Tests.{eqb-true, eq-eqb, ne_eqb}
use Rattle.lex.specs.First.{is_found, or_old}
use Rattle.lex.specs.Lists.{padded}
use Rattle.lex.proofs.Every.{and_left, and_right}
use Rattle.lex.proofs.First.{first_some}
use Rattle.week.specs.Rules.{keeps}
use Rattle.week.specs.Tables.{Week, lots, pair_rules, numbers_ok, admits, refusal, joined}
use Rattle.week.proofs.Standing.{keeps_closed}
use Rattle.week.proofs.Tables.{Limits, limits, accepted, joined_admits, admits_two, admits_tables, halts, runs_on, stops, stops_last, goes_off}
use Rattle.repair.specs.Break.{row_count}
use Rattle.repair.specs.Service.{row_lengths}
use Rattle.repair.proofs.Mends.{found_wide, found_take}
use Rattle.robust.specs.Super.{robust, first_super, table_of}
use Rattle.solve.specs.Service.{solve_answer, solve_order, solve_table, Solved}

-- numbers that are not refused by 1 are within their limits, whatever the tables
pub numbers_fine : (W : Week) → (refusal W ≡ 1 → ⊥) → Limits W.numbers
unfolding admits
numbers_fine W h = go (numbers_ok W.numbers) refl
  where
    go : (t : Bool) → numbers_ok W.numbers ≡ t → Limits W.numbers
    go true e = limits W.numbers e
    go false e = absurd (h (sym (stops (numbers_ok W.numbers) 1 _ e (λ z. omega arith))))

-- numbers that are refused by 1 are so for every service
pub numbers_refused : (W : Week) (two : Bool) → 1 ≡ refusal W → 1 ≡ admits true two W
unfolding joined
numbers_refused W two e = sym (ap (joined true two) (sym e)) ∙ joined_admits true two W

-- a super solution has a slot for each lot
pub super_long : (W : Week) (r : List ℕ) → first_super W ≡ some r → length r ≡ lots W
unfolding first_super
super_long W r e = (first_some (keeps (pair_rules W)) (robust W) 16 (keeps_closed (pair_rules W)) (lots W) r e).len

module _ (W : Week) (order table : List ℕ) where
  abbrev two : Bool
  two = row_lengths (lots W) W.numbers.a order table

  refused : (k : ℕ) → k ≡ solve_answer W order table → (k ≡ 0 → ⊥) → Solved W order table k order table
  unfolding solve_order solve_table
  refused k e h = let n = ne_eqb (solve_answer W order table) 0 (λ z. h (e ∙ z)) in record { answer = e; solution = rw n; repairs = rw n }

  pub by_tables : (k : ℕ) → k ≡ admits true two W → (k ≡ 0 → ⊥) → Solved W order table k order table
  unfolding solve_answer
  by_tables k e h = refused k (halts (admits true two W) _ e h) h

  -- what a call knows that is not refused by 1 to 4
  pub record Ready : Type 0 where
    pub admitted : admits true two W ≡ 0
    pub fine : refusal W ≡ 0
    pub size : length order ≡ lots W
    pub room : length table ≡ row_count (lots W) W.numbers.a * lots W

  pub ready : admits true two W ≡ 0 → Ready
  unfolding row_lengths
  ready e =
      let l = admits_two true two W e in
      record {
        admitted = e;
        fine = admits_tables true two W e;
        size = eqb-true (length order) (lots W) (and_left (eqb (length order) (lots W)) (eqb (length table) (row_count (lots W) W.numbers.a * lots W)) l);
        room = eqb-true (length table) (row_count (lots W) W.numbers.a * lots W) (and_right (eqb (length order) (lots W)) (eqb (length table) (row_count (lots W) W.numbers.a * lots W)) l);
      }

  module _ (known : Ready) where
    pub by_none : is_found (first_super W) ≡ false → Solved W order table 5 order table
    unfolding solve_answer
    by_none e = refused 5 (runs_on (admits true two W) _ known.admitted (stops_last (is_found (first_super W)) 5 e)) (λ z. omega arith)

    -- what was found has room for the order's lots
    pub wide : (slots : List ℕ) → slots ≡ padded 24 (or_old (first_super W) []) → length order ≤ length slots
    wide slots e = rw (e, known.size) (found_wide (lots W) (first_super W) (accepted W known.fine).limits.few)

    module _ (found : is_found (first_super W) ≡ true) (slots o : List ℕ) (held : slots ≡ padded 24 (or_old (first_super W) [])) (put : o ≡ take (length order) slots) where
      -- the order that was put is the first super solution
      put_order : o ≡ or_old (first_super W) order
      put_order = put ∙ ap₂ take known.size held ∙ found_take (lots W) (first_super W) order (super_long W) found

      pub put_size : length o ≡ lots W
      put_size = rw put_order (go (first_super W) refl)
        where
          go : (a : Option (List ℕ)) → first_super W ≡ a → length (or_old a order) ≡ lots W
          go none e = known.size
          go (some r) e = super_long W r e

      answered : 0 ≡ solve_answer W order table
      unfolding solve_answer
      answered = runs_on (admits true two W) _ known.admitted (goes_off (is_found (first_super W)) 5 found)

      pub by_search : (t : List ℕ) → t ≡ table_of W o → Solved W order table 0 o t
      unfolding solve_order solve_table
      by_search t e = record { answer = answered; solution = rw (eq-eqb (solve_answer W order table) 0 (sym answered)) put_order; repairs = rw (eq-eqb (solve_answer W order table) 0 (sym answered)) (e ∙ ap (table_of W) put_order) }
