-- `mend::LotSet::has` meets its contract: no lot over 31 is in a set.
use mathlib.Core.Path.{refl, sym, ◌∙◌}
use native.Mathlib.Omega.{arith}
use borrow.Author.Tests.{le-ltb}
use Rattle.lex.proofs.Every.{false_of}
use Rattle.mend.specs.Sets.{has}
use Rattle.mend.proofs.Sets.{has_low}
use Rattle.mend.proofs.LotSet.has.Goals as goal

pub returns-then-p-lt32 : goal.returns-then-p-lt32
unfolding has
returns-then-p-lt32 c = refl

pub returns-else-p-lt32 : goal.returns-else-p-lt32
returns-else-p-lt32 c =
    le-ltb c.args.p.0 32 c.if-p-lt32.false ∙ sym (false_of (has c.args.self.0 c.args.p.0) (λ t. let a = has_low 32 c.args.self.0 c.args.p.0 (omega arith) t in omega arith))
