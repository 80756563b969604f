-- The lots lost at once, a case and the order found, as the code holds them.
-- Assumes nothing.
use Rattle.std.specs.Prelude.{◌≡◌, Bool, ◌<◌, ◌≤◌, cond, List, [], ℕ, eqb, is_some, IfSome, MatchOption, Option as Answer}
use Rattle.std.proofs.Math.Option.{Option}
use Rattle.lex.specs.Every.{count}
use Rattle.lex.specs.First.{is_found, or_old}
use Rattle.lex.specs.Lists.{padded}
use Rattle.lex.specs.Scan.{scan_from}
use Rattle.pairs.specs.Pairs.{pair}
use Rattle.week.specs.declared.Order.{Order}
use Rattle.week.specs.declared.Slot.{Slot}
use Rattle.week.specs.Rules.{Rules}
use Rattle.week.specs.Tables.{lent, pair_rules}
use Rattle.repair.specs.Repair.{Case, case, moves_at}
use Rattle.repair.specs.declared.Case.{Case as HeldCase}
use Rattle.repair.specs.declared.Begun.{Begun}
use Rattle.repair.specs.Break.{single}
use Rattle.repair.specs.declared.Lost.{Lost}

-- the lots of a loss
unfoldable pub lots_of : Lost → List ℕ
lots_of L = cond (eqb L.0.0 L.1.0) (single L.0.0) (pair L.0.0 L.1.0)

-- a case, as the code holds it
abbrev pub case_of : HeldCase → Case
case_of c = case c.week.numbers c.week.give.now c.order.now (lots_of c.lost)

-- and its pair rules
abbrev pub rules_in : HeldCase → Rules
rules_in c = pair_rules (lent c.week)

-- a beginning knows how many of its lots move, and there is a next lot
pub record Counts (c : HeldCase) (b : Begun) : Type 0 where
  pub moved : b.moved ≡ count (moves_at (case_of c) b.to.now) b.p.0
  pub next : b.p.0 < c.week.numbers.n
  pub few : c.week.numbers.n ≤ 24

-- the code answers the first slot from `from` on that passes f, or none
abbrev pub Picks : (ℕ → Bool) → ℕ → Answer Slot → Type 0
Picks f from a = MatchOption a (16 ≤ scan_from 16 f from) (λ v. (v.0 ≡ scan_from 16 f from) × (v.0 < 16))

-- the code answers o: an order in 24 places, or none
pub record Gives (o : Option (List ℕ)) (f : Answer Order) : Type 0 where
  pub found : is_some f ≡ is_found o
  pub slots : IfSome f (λ x. x.slots ≡ padded 24 (or_old o []))
