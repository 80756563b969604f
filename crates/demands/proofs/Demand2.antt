-- Demand 2: the order found is the first of all super solutions, and none is found exactly if there is none; the row of every set of lots is
-- the first repair, or the order itself; repair and row answer the same.
-- Assumes nothing.
use mathlib.Core.Path.{◌≡◌, refl, sym, ◌∙◌, ap, subst, subst₂}
use mathlib.Core.Bool.{Bool, true, false, ◌&&◌, cond, true≢false}
use mathlib.Core.Logic.{⊎_elim}
use mathlib.Core.List.{List, [], ◌∷◌}
use mathlib.Core.Option.{Option, none, some}
use Prim.Native.Nat.{ℕ, ◌*◌, ◌≤◌}
use native.Mathlib.Omega.{arith}
use lib.Dec.{eqb}
use lib.ListN.{length}
use borrow.Author.Tests.{eqb-true, eq-eqb, ne_eqb, le-leb}
use Rattle.lex.specs.Every.{some_of}
use Rattle.lex.specs.Dictionary.{Meets}
use Rattle.lex.specs.First.{Passes, always, is_found, or_old}
use Rattle.lex.proofs.Every.{both, and_left, and_right, imp_in, imp_out}
use Rattle.lex.proofs.Dictionary.{meets_same, under_all, before_not_le, le_before}
use Rattle.lex.proofs.First.{first_meets}
use Rattle.week.specs.Refusal.{unless, or_else}
use Rattle.week.specs.Rules.{keeps}
use Rattle.week.specs.Tables.{Week, lots, pair_rules, refusal, admits}
use Rattle.week.proofs.Standing.{keeps_below, keeps_closed}
use Rattle.week.proofs.Tables.{accepted, zero_first, zero_rest, stops_last, goes_off, passed_last, runs_on, admits_tables}
use Rattle.repair.specs.Break.{lost_ok, row_number, row_count, row_at}
use Rattle.repair.specs.Repair.{case, mends, is_repair}
use Rattle.repair.specs.Service.{repair_lengths, repair_answer, repair_out, row_numbers, row_lengths, row_answer, row_part}
use Rattle.repair.proofs.Mends.{repair_meets, repair_passes}
use Rattle.robust.specs.Super.{row_sets, is_break, repair_for, safe, robust, first_super, row_of, table_of}
use Rattle.solve.specs.Service.{solve_answer, solve_order, solve_table}
use Rattle.robust.proofs.Table.{row_size, row_at_lem, rows_size}
use Rattle.demands.specs.Calls.{write_refusals}
use Rattle.demands.specs.Plans.{SetOfLots, Repair, Super, FirstOf, RowOf}
use Rattle.demands.specs.Readings.{Reads}
use Rattle.demands.proofs.Plain.{reading}
use Rattle.demands.proofs.Demand1.{link, admitted, passes_over}
use Rattle.demands.proofs.Sets.{every_set, set_every, set_lost, set_row, row_set}

-- What a search found, where it meets a property Q: the first list with Q, or none

module _ (Q : List ℕ → Type 0) where
  -- one is found exactly if some list has it
  found_reads : (o : Option (List ℕ)) → Meets Q o → Reads (is_found o) ((s : List ℕ) × Q s) ((s : List ℕ) → Q s → ⊥)
  found_reads none m = reading false (λ e. absurd (true≢false (sym e))) (λ e. m) (λ p n. n p.0 p.1)
  found_reads (some s) m = reading true (λ e. (s, m.0)) (λ e. absurd (true≢false e)) (λ p n. n p.0 p.1)

  module _ (n : ℕ) (size : (l : List ℕ) → Q l → length l ≡ n) where
    -- what is found is the first
    found_first : (o : Option (List ℕ)) → Meets Q o → is_found o ≡ true → (old : List ℕ) → FirstOf Q (or_old o old)
    found_first none m f old = absurd (true≢false (sym f))
    found_first (some s) m f old = record { has = m.0; none = λ l q b. before_not_le l s (size l q ∙ sym (size s m.0)) b (m.1 l q) }

    -- and the first is what is found
    first_found : (o : Option (List ℕ)) → Meets Q o → (s : List ℕ) → FirstOf Q s → o ≡ some s
    first_found none m s f = absurd (m s f.has)
    first_found (some t) m s f =
        ⊎_elim
        (λ e. ap some e)
        (λ b. absurd (f.none t m.0 b))
        (le_before t s (size t m.0 ∙ sym (size s f.has)) (m.1 s f.has))

-- Repairs

module _ (W : Week) (s A : List ℕ) where
  repair_size : (r : List ℕ) → Repair W s A r → length r ≡ lots W
  unfolding is_repair
  repair_size r e = eqb-true (length r) (lots W) (and_left (eqb (length r) (lots W)) (mends (pair_rules W) (case W.numbers W.give s A) r) e)

  -- the first repair is chosen, and none only where there is none
  pub repairs_meet : Meets (Repair W s A) (repair_for W s A)
  unfolding is_repair repair_for
  repairs_meet =
      meets_same (Passes (mends (pair_rules W) (case W.numbers W.give s A)) always 16 (lots W)) (Repair W s A)
      (λ r q. both (eq-eqb (length r) (lots W) q.len) q.good)
      (λ r e. repair_passes (pair_rules W) (case W.numbers W.give s A) r (repair_size r e) (and_right (eqb (length r) (lots W)) (mends (pair_rules W) (case W.numbers W.give s A) r) e))
      (repair_for W s A) (repair_meets (pair_rules W) (case W.numbers W.give s A))

  -- 8 in plain words: one is found exactly if there is one
  pub repair_found : Reads (is_found (repair_for W s A)) ((r : List ℕ) × Repair W s A r) ((r : List ℕ) → Repair W s A r → ⊥)
  repair_found = found_reads (Repair W s A) (repair_for W s A) repairs_meet

  -- where there is one, the one chosen is the first
  chosen : (r : List ℕ) → Repair W s A r → FirstOf (Repair W s A) (or_old (repair_for W s A) s)
  chosen r e = found_first (Repair W s A) (lots W) repair_size (repair_for W s A) repairs_meet (repair_found.passes.1 (r, e)) s

  -- the row of a set
  pub row_right : Super W s → SetOfLots (lots W) W.numbers.a A → RowOf W s A (row_of W s A)
  unfolding row_of
  row_right super set = record {
    broken = λ b. let r = super.repaired A set b in subst (FirstOf (Repair W s A)) (sym (ap (λ (t : Bool). cond t (or_old (repair_for W s A) s) s) b)) (chosen r.0 r.1);
    whole = λ b. ap (λ (t : Bool). cond t (or_old (repair_for W s A) s) s) b;
  }

-- Super solutions

module _ (W : Week) (fine : refusal W ≡ 0) where
  two : W.numbers.a ≤ 2
  two = (accepted W fine).limits.breaks

  repaired : (s A : List ℕ) → safe W s A ≡ true → is_break W s A ≡ true → (r : List ℕ) × Repair W s A r
  unfolding safe
  repaired s A e b = (repair_found W s A).passes.0 (imp_out (is_break W s A) (is_found (repair_for W s A)) e b)

  is_safe : (s A : List ℕ) → (is_break W s A ≡ true → (r : List ℕ) × Repair W s A r) → safe W s A ≡ true
  unfolding safe
  is_safe s A h = imp_in (is_break W s A) (is_found (repair_for W s A)) (λ b. (repair_found W s A).passes.1 (h b))

  -- the first super solution is found, and none only where there is none
  pub super_meets : Meets (Super W) (first_super W)
  unfolding first_super robust
  super_meets =
      meets_same (Passes (keeps (pair_rules W)) (robust W) 16 (lots W)) (Super W)
      (λ s q. record { size = q.len; rules = q.good; repaired = λ A set. repaired s A (every_set (safe W s) (lots W) W.numbers.a two q.final A set) })
      (λ s q. record { len = q.size; under = under_all s (keeps_below (pair_rules W) s q.rules); good = q.rules; final = set_every (safe W s) (lots W) W.numbers.a two (λ A set. is_safe s A (q.repaired A set)) })
      (first_super W) (first_meets (keeps (pair_rules W)) (robust W) 16 (keeps_closed (pair_rules W)) (lots W))

  -- 5 in plain words: one is found exactly if there is one
  pub super_found : Reads (is_found (first_super W)) ((s : List ℕ) × Super W s) ((s : List ℕ) → Super W s → ⊥)
  super_found = found_reads (Super W) (first_super W) super_meets

-- Solve

module _ (W : Week) (order table : List ℕ) where
  abbrev own : Bool
  own = row_lengths (lots W) W.numbers.a order table

  pub solve_admits : solve_answer W order table ≡ 0 → admits true own W ≡ 0
  unfolding solve_answer
  solve_admits e = zero_first (admits true own W) (unless (is_found (first_super W)) 5) e

  -- solve answers 0: its order is the first super solution
  pub solve_first : solve_answer W order table ≡ 0 → FirstOf (Super W) (solve_order W order table)
  unfolding solve_answer solve_order
  solve_first e =
      let is : is_found (first_super W) ≡ true = passed_last (is_found (first_super W)) 5 (λ z. omega arith) (zero_rest (admits true own W) (unless (is_found (first_super W)) 5) e) in
      subst (FirstOf (Super W)) (sym (ap (λ (t : Bool). cond t (or_old (first_super W) order) order) (eq-eqb (solve_answer W order table) 0 e)))
      (found_first (Super W) (lots W) (λ l q. q.size) (first_super W) (super_meets W (admits_tables true own W (solve_admits e))) is order)

  -- solve answers 5 exactly if numbers, tables and buffers are not refused and there is no super solution
  pub solve_none : solve_answer W order table ≡ 5 → (admits true own W ≡ 0) × ((s : List ℕ) → Super W s → ⊥)
  unfolding solve_answer some_of write_refusals
  solve_none e =
      let p = passes_over write_refusals (admits true own W) (unless (is_found (first_super W)) 5) 5 (admitted write_refusals true own W refl refl refl refl) (λ h. true≢false (sym h.is)) e in
      (p.0, λ s q. let z = goes_off (is_found (first_super W)) 5 ((super_found W (admits_tables true own W p.0)).passes.1 (s, q)) ∙ p.1 in omega arith)

  pub none_solved : admits true own W ≡ 0 → ((s : List ℕ) → Super W s → ⊥) → solve_answer W order table ≡ 5
  unfolding solve_answer
  none_solved x h = sym (runs_on (admits true own W) (unless (is_found (first_super W)) 5) x (stops_last (is_found (first_super W)) 5 ((super_found W (admits_tables true own W x)).fails.1 h)))

  -- and 0, with that order, if there is a first super solution
  pub first_solved : admits true own W ≡ 0 → (s : List ℕ) → FirstOf (Super W) s → (solve_answer W order table ≡ 0) × (solve_order W order table ≡ s)
  unfolding solve_answer solve_order
  first_solved x s f =
      let is : first_super W ≡ some s = first_found (Super W) (lots W) (λ l q. q.size) (first_super W) (super_meets W (admits_tables true own W x)) s f in
      let e : solve_answer W order table ≡ 0 = sym (runs_on (admits true own W) (unless (is_found (first_super W)) 5) x (sym (ap (λ (o : Option (List ℕ)). unless (is_found o) 5) is))) in
      (e, ap (λ (t : Bool). cond t (or_old (first_super W) order) order) (eq-eqb (solve_answer W order table) 0 e) ∙ ap (λ (o : Option (List ℕ)). or_old o order) is)

  -- solve answers 0: its table is that of its order
  solve_table_lem : solve_answer W order table ≡ 0 → solve_table W order table ≡ table_of W (solve_order W order table)
  unfolding solve_order solve_table
  solve_table_lem e =
      let z = eq-eqb (solve_answer W order table) 0 e in
      ap (λ (t : Bool). cond t (table_of W (or_old (first_super W) order)) table) z ∙ sym (ap (λ (t : Bool). table_of W (cond t (or_old (first_super W) order) order)) z)

  pub solve_long : solve_answer W order table ≡ 0 → length (solve_table W order table) ≡ row_count (lots W) W.numbers.a * lots W
  unfolding table_of row_count
  solve_long e =
      let s = solve_order W order table in
      ap length (solve_table_lem e) ∙ rows_size (row_of W s) (lots W) (λ B. row_size W s B (admits_tables true own W (solve_admits e)) (solve_first e).has.size) (row_sets W)

  -- and the row of every set of lots is right
  pub solve_rows : solve_answer W order table ≡ 0 → (A : List ℕ) → SetOfLots (lots W) W.numbers.a A → RowOf W (solve_order W order table) A (row_at (lots W) (solve_table W order table) (row_number (lots W) A))
  unfolding table_of row_count
  solve_rows e A set =
      let super = (solve_first e).has in
      let fine = admits_tables true own W (solve_admits e) in
      let few = (accepted W fine).limits.few in
      let two = (accepted W fine).limits.breaks in
      let s = solve_order W order table in
      let at : row_at (lots W) (table_of W s) (row_number (lots W) A) ≡ row_of W s A =
      row_at_lem (row_of W s) (lots W) (λ B. row_size W s B fine super.size) (row_sets W) (row_number (lots W) A) (set_row (lots W) W.numbers.a two A set few)
      ∙ ap (row_of W s) (row_set (lots W) W.numbers.a two A set few) in
      subst (RowOf W s A) (sym (ap (λ (t : List ℕ). row_at (lots W) t (row_number (lots W) A)) (solve_table_lem e) ∙ at)) (row_right W s A super set)

-- Repair

module _ (W : Week) (s A out : List ℕ) where
  abbrev lost : Bool
  lost = lost_ok (lots W) 1 2 A

  abbrev lent : Bool
  lent = repair_lengths (lots W) s out

  abbrev chosen_is : Bool
  chosen_is = is_found (repair_for W s A)

  -- repair answers 0: it leaves the first repair
  pub repair_first : repair_answer W s A out ≡ 0 → FirstOf (Repair W s A) (repair_out W s A out)
  unfolding repair_answer repair_out repair_for
  repair_first e =
      let rest = zero_rest (admits lost lent W) (or_else (unless (keeps (pair_rules W) s) 6) (unless chosen_is 8)) e in
      let is : chosen_is ≡ true = passed_last chosen_is 8 (λ z. omega arith) (zero_rest (unless (keeps (pair_rules W) s) 6) (unless chosen_is 8) rest) in
      subst (FirstOf (Repair W s A)) (sym (ap (λ (t : Bool). cond t (or_old (repair_for W s A) out) out) (eq-eqb (repair_answer W s A out) 0 e)))
      (found_first (Repair W s A) (lots W) (repair_size W s A) (repair_for W s A) (repairs_meet W s A) is out)

  -- repair answers 8 only if there is no repair
  pub repair_none : repair_answer W s A out ≡ 8 → (r : List ℕ) → Repair W s A r → ⊥
  unfolding repair_answer repair_for some_of write_refusals
  repair_none e =
      let p = passes_over write_refusals (admits lost lent W) (or_else (unless (keeps (pair_rules W) s) 6) (unless chosen_is 8)) 8 (admitted write_refusals lost lent W refl refl refl refl) (λ h. true≢false (sym h.is)) e in
      let q = passes_over (6 ∷ []) (unless (keeps (pair_rules W) s) 6) (unless chosen_is 8) 8 (link (6 ∷ []) (keeps (pair_rules W) s) 6 refl) (λ h. true≢false (sym h.is)) p.1 in
      λ r f. let z = goes_off chosen_is 8 ((repair_found W s A).passes.1 (r, f)) ∙ q.1 in omega arith

  -- and 0 if there is a first one
  pub first_repaired : admits lost lent W ≡ 0 → keeps (pair_rules W) s ≡ true → (r : List ℕ) → FirstOf (Repair W s A) r → (repair_answer W s A out ≡ 0) × (repair_out W s A out ≡ r)
  unfolding repair_answer repair_out repair_for
  first_repaired x k r f =
      let is : repair_for W s A ≡ some r = first_found (Repair W s A) (lots W) (repair_size W s A) (repair_for W s A) (repairs_meet W s A) r f in
      let e : repair_answer W s A out ≡ 0 =
      sym (runs_on (admits lost lent W) (or_else (unless (keeps (pair_rules W) s) 6) (unless chosen_is 8)) x
      (runs_on (unless (keeps (pair_rules W) s) 6) (unless chosen_is 8) (ap (λ (t : Bool). unless t 6) k) (sym (ap (λ (o : Option (List ℕ)). unless (is_found o) 8) is)))) in
      (e, ap (λ (t : Bool). cond t (or_old (repair_for W s A) out) out) (eq-eqb (repair_answer W s A out) 0 e) ∙ ap (λ (o : Option (List ℕ)). or_old o out) is)

-- The services together, after solve has answered 0

module _ (W : Week) (order table : List ℕ) (e : solve_answer W order table ≡ 0) (A : List ℕ) (set : SetOfLots (lots W) W.numbers.a A) where
  abbrev found : List ℕ
  found = solve_order W order table

  abbrev written : List ℕ
  written = solve_table W order table

  abbrev its : List ℕ
  its = row_at (lots W) written (row_number (lots W) A)

  super : Super W found
  super = (solve_first W order table e).has

  fine : refusal W ≡ 0
  fine = admits_tables true (row_lengths (lots W) W.numbers.a order table) W (solve_admits W order table e)

  at_most : W.numbers.a ≤ 2
  at_most = (accepted W fine).limits.breaks

  row_taken : row_answer (lots W) W.numbers.a found written A ≡ 0
  unfolding row_answer row_numbers row_lengths
  row_taken =
      let some = (accepted W fine).limits.some in
      let few = (accepted W fine).limits.few in
      sym (runs_on (unless (row_numbers (lots W) W.numbers.a && lost_ok (lots W) 0 W.numbers.a A) 1) (unless (row_lengths (lots W) W.numbers.a found written) 2)
      (ap (λ (t : Bool). unless t 1) (both (both (le-leb 1 (lots W) some) (both (le-leb (lots W) 24 few) (le-leb W.numbers.a 2 at_most))) (set_lost (lots W) W.numbers.a at_most A set 0 W.numbers.a (omega arith) (omega arith))))
      (sym (ap (λ (t : Bool). unless t 2) (both (eq-eqb (length found) (lots W) super.size) (eq-eqb (length written) (row_count (lots W) W.numbers.a * lots W) (solve_long W order table e))))))

  -- row shows the row of the set: the first repair, if it is a break
  pub row_shows : row_part (lots W) W.numbers.a found written A ≡ its
  unfolding row_part
  row_shows =
      let some = set.some in
      ap (λ (t : Bool). cond t (cond (eqb (length A) 0) found its) []) (eq-eqb (row_answer (lots W) W.numbers.a found written A) 0 row_taken)
      ∙ ap (λ (t : Bool). cond t found its) (ne_eqb (length A) 0 (λ z. omega arith))

  -- so what row returns after a loss is a repair for it, and no repair is before it
  pub row_repairs : is_break W found A ≡ true → FirstOf (Repair W found A) (row_part (lots W) W.numbers.a found written A)
  row_repairs b = subst (FirstOf (Repair W found A)) (sym row_shows) ((solve_rows W order table e A set).broken b)

  -- repair answers the row of a break
  pub repair_is_row : is_break W found A ≡ true → (out : List ℕ) → length out ≡ lots W → (repair_answer W found A out ≡ 0) × (repair_out W found A out ≡ its)
  unfolding repair_lengths
  repair_is_row b out size =
      first_repaired W found A out
      (subst₂ (λ (x y : Bool). admits x y W ≡ 0) (sym (set_lost (lots W) W.numbers.a at_most A set 1 2 (omega arith) at_most)) (sym (both (eq-eqb (length found) (lots W) super.size) (eq-eqb (length out) (lots W) size))) fine)
      super.rules its ((solve_rows W order table e A set).broken b)
