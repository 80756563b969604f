-- `sheet::marks_ok` meets its contract.
use mathlib.Core.Path.{refl}
use borrow.Author.Rules.{rules}
use borrow.Author.Tests.{tests}
use Rattle.lex.proofs.Ranges.{all_range}
use Rattle.sheet.specs.Sheet.{mark_ok, sound_marks}
use Rattle.sheet.proofs.marks_ok.Goals as goal

pub returns : goal.returns
unfolding sound_marks mark_ok
returns c = all_range _ _ _ _ (mark_ok c.args.saves c.args.marks.now) c.args.lots refl (λ x b q k. search (rules, tests)) c.all.ensures.ran
