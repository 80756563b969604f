-- `sheet::Sheet::copy` meets its contract: the week's rules are in order wherever a check takes them.
use mathlib.Core.Path.{◌≡◌, sym}
use native.Mathlib.Omega.{arith}
use lib.ListN.{length}
use borrow.Author.Rules.{rules}
use Rattle.week.specs.Tables.{lent}
use Rattle.sheet.proofs.Services.{few_lots, lawful}
use Rattle.sheet.proofs.Sheet.copy.Goals as goal

pub is_sound-requires : goal.is_sound-requires
is_sound-requires c = lawful (lent c.args.week.now) _ c.rules.ensures.same c.in_ok-judge.ensures

pub pad-requires : goal.pad-requires
pad-requires c =
    let few = few_lots (lent c.args.week.now) (sym c.in_ok-judge.ensures) in
    let h : length c.args.self.order ≡ 24 = search rules in
    (few, omega arith)
