-- `sheet::lots_stand` meets its contract: the half of the pairs that the code looks at is enough.
use mathlib.Core.Path.{◌∙◌}
use Rattle.week.specs.Rules.{rules_of}
use Rattle.sheet.proofs.Services.{stands_half}
use Rattle.sheet.proofs.lots_stand.Goals as goal

pub returns : goal.returns
returns c = c.keeps.ensures ∙ stands_half (rules_of c.args.rules.now) c.args.order.now c.requires.0.1
