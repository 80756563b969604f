-- Each answer of the service repair, from what the code knows where it gives it.
-- Assumes nothing.
use mathlib.Core.Path.{◌≡◌, sym, ◌∙◌, ap, ap₂}
use mathlib.Core.Bool.{Bool, true, false}
use mathlib.Core.List.{List, []}
use mathlib.Core.Option.{Option}
use Prim.Native.Nat.{ℕ, ◌≤◌}
use native.Mathlib.Omega.{arith}
use lib.Dec.{eqb}
use lib.ListN.{length, take}
use borrow.Author.Tests.{eqb-true, eq-eqb, ne_eqb}
use Rattle.std.specs.Prelude.{Some, None}
use Rattle.lex.specs.First.{is_found, or_old}
use Rattle.lex.specs.Lists.{padded}
use Rattle.lex.proofs.Every.{and_left, and_right}
use Rattle.week.specs.declared.Order.{Order}
use Rattle.week.specs.declared.Refusal.{Refusal}
use Rattle.week.specs.Refusal.{unless, number}
use Rattle.week.specs.Rules.{Rules, keeps, keeps_half}
use Rattle.week.specs.Tables.{Week, lots, pair_rules, refusal, admits, joined}
use Rattle.week.proofs.Tables.{Accepted, accepted, accepted_keeps, admits_one, admits_two, admits_tables, joined_admits, halts, runs_on, stops, goes_on, stops_last, goes_off}
use Rattle.repair.specs.Break.{lost_ok, LostList}
use Rattle.repair.specs.Repair.{Case, case, repair_of, repair_half}
use Rattle.repair.specs.Found.{Gives}
use Rattle.repair.specs.Service.{repair_lengths, repair_answer, repair_out, Repaired}
use Rattle.repair.proofs.Break.{lost_read, lost_list}
use Rattle.week.proofs.Numbered.{number_some}
use Rattle.repair.proofs.Mends.{repair_half_lem, half_long, found_wide, found_take}

-- the code asks the rules P that it made of R
pub kept_by : {P R : Rules} (s : List ℕ) {t u : Bool} → P ≡ R → t ≡ keeps_half P s → t ≡ u → keeps_half R s ≡ u
kept_by s e f g = rw e at (sym f ∙ g)

module _ (W : Week) (s A out : List ℕ) where
  abbrev one : Bool
  one = lost_ok (lots W) 1 2 A

  abbrev two : Bool
  two = repair_lengths (lots W) s out

  abbrev R : Rules
  R = pair_rules W

  abbrev C : Case
  C = case W.numbers W.give s A

  refused : (k : ℕ) → k ≡ repair_answer W s A out → (k ≡ 0 → ⊥) → Repaired W s A out k out
  unfolding repair_out
  refused k e h = record { answer = e; buffer = rw (ne_eqb (repair_answer W s A out) 0 (λ z. h (e ∙ z))) }

  pub by_tables : (k : ℕ) → k ≡ admits one two W → (k ≡ 0 → ⊥) → Repaired W s A out k out
  unfolding repair_answer
  by_tables k e h = refused k (halts (admits one two W) _ e h) h

  -- what a call knows that is not refused by 1 to 4
  pub record Ready : Type 0 where
    pub admitted : admits one two W ≡ 0
    pub tables : Accepted W
    pub lost : LostList A
    pub size : length s ≡ lots W
    pub room : length out ≡ lots W

  pub ready : admits one two W ≡ 0 → Ready
  unfolding repair_lengths
  ready e =
      let l = admits_two one two W e in
      record {
        admitted = e;
        tables = accepted W (admits_tables one two W e);
        lost = lost_list (lots W) 1 2 A (omega arith) (lost_read (lots W) 1 2 A (admits_one one two W e)).some (admits_one one two W e);
        size = eqb-true (length s) (lots W) (and_left (eqb (length s) (lots W)) (eqb (length out) (lots W)) l);
        room = eqb-true (length out) (lots W) (and_right (eqb (length s) (lots W)) (eqb (length out) (lots W)) l);
      }

  -- the same, as the code comes to it: from its own two tests and its judgement of the week
  module _ (a b : Bool) (judged : ℕ) (is_one : a ≡ one) (is_two : b ≡ two) (is_judged : judged ≡ refusal W) where
    joins : joined a b judged ≡ admits one two W
    joins = rw (is_one, is_two, is_judged) (joined_admits one two W)

    pub by_join : (r : Refusal) → number r ≡ joined a b judged → Repaired W s A out (number r) out
    by_join r e = by_tables (number r) (e ∙ joins) (number_some r)

    pub passed : 0 ≡ joined a b judged → Ready
    passed e = ready (sym (e ∙ joins))

  module _ (known : Ready) where
    -- an order may be asked whether it keeps the rules
    pub short : length s ≤ 24
    short = omega (arith, known.size, known.tables.limits.few)

    kept : keeps R s ≡ keeps_half R s
    kept = accepted_keeps W known.tables s (let e = known.size in omega arith)

    chosen : repair_of R C ≡ repair_half R C
    chosen = repair_half_lem R C known.tables.symmetric

    pub by_order : keeps_half R s ≡ false → Repaired W s A out 6 out
    unfolding repair_answer
    by_order e = refused 6 (runs_on (admits one two W) _ known.admitted (stops (keeps R s) 6 _ (kept ∙ e) (λ z. omega arith))) (λ z. omega arith)

    module _ (stands : keeps_half R s ≡ true) where
      answered : (k : ℕ) → k ≡ unless (is_found (repair_half R C)) 8 → k ≡ repair_answer W s A out
      unfolding repair_answer
      answered k e = runs_on (admits one two W) _ known.admitted (goes_on (keeps R s) 6 _ (kept ∙ stands) (e ∙ ap (λ (a : Option (List ℕ)). unless (is_found a) 8) (sym chosen)))

      -- what was found has room for the buffer's lots
      pub wide : (slots : List ℕ) → slots ≡ padded 24 (or_old (repair_half R C) []) → length out ≤ length slots
      wide slots f = rw (f, known.room) (found_wide (lots W) (repair_half R C) known.tables.limits.few)

      pub by_none : is_found (repair_half R C) ≡ false → Repaired W s A out 8 out
      by_none e = refused 8 (answered 8 (stops_last (is_found (repair_half R C)) 8 e)) (λ z. omega arith)

      -- what was found is copied
      pub by_search : (slots o : List ℕ) → is_found (repair_half R C) ≡ true → slots ≡ padded 24 (or_old (repair_half R C) []) → o ≡ take (length out) slots → Repaired W s A out 0 o
      unfolding repair_out
      by_search slots o e f g =
          let done = answered 0 (goes_off (is_found (repair_half R C)) 8 e) in
          record {
            answer = done;
            buffer = rw (eq-eqb (repair_answer W s A out) 0 (sym done), chosen) (g ∙ ap₂ take known.room f ∙ found_take (lots W) (repair_half R C) out (half_long R C) e);
          }

      -- what the code's search answers for a loss with these lots
      module _ (L : List ℕ) (is : L ≡ A) where
        pub none_told : Gives (repair_half R (case W.numbers W.give s L)) None → Repaired W s A out 8 out
        none_told g = by_none (rw is at (sym g.found))

        module _ (x : Order) (told : Gives (repair_half R (case W.numbers W.give s L)) (Some x)) where
          held : x.slots ≡ padded 24 (or_old (repair_half R C) [])
          held = rw is at told.slots

          pub has_room : length out ≤ length x.slots
          has_room = wide x.slots held

          pub one_told : (o : List ℕ) → o ≡ take (length out) x.slots → Repaired W s A out 0 o
          one_told o e = by_search x.slots o (rw is at (sym told.found)) held e
