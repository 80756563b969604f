-- `tables::judge` meets its contract: each check in its turn.
use mathlib.Core.Bool.{true}
use mathlib.Core.Path.{◌≡◌, sym, ◌∙◌}
use Prim.Native.Nat.{◌≤◌}
use native.Mathlib.Omega.{arith}
use Rattle.week.specs.declared.Numbers.{Numbers}
use Rattle.week.specs.Tables.{numbers_ok}
use Rattle.week.proofs.Tables.{limits}
use Rattle.tables.proofs.judge.Goals as goal

-- numbers that pass are of at most 24 lots
few : (N : Numbers) → numbers_ok N ≡ true → N.n ≤ 24
few N e = (limits N e).few

pub lengths_ok-requires : goal.lengths_ok-requires
lengths_ok-requires c = few _ (sym c.numbers_ok.ensures ∙ c.if-not-numbers_ok.false)

pub words_ok-requires : goal.words_ok-requires
words_ok-requires c = few _ (sym c.numbers_ok.ensures ∙ c.if-not-numbers_ok.false)

pub ties_ok-requires : goal.ties_ok-requires
ties_ok-requires c =
    let h : c.args.week.now.numbers.n ≤ 24 = few _ (sym c.numbers_ok.ensures ∙ c.if-not-numbers_ok.false) in
    omega arith
