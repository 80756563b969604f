-- `block::Held::ties_held` meets its contract: every word of the pairs is asked.
use mathlib.Core.Path.{◌≡◌, refl, ◌∙◌}
use Prim.Native.Nat.{◌*◌, ◌-◌}
use borrow.Author.Rules.{rules}
use borrow.Author.Tests.{tests}
use Rattle.lex.specs.Every.{every}
use Rattle.lex.proofs.Ranges.{all_range}
use Rattle.block.specs.Reading.{tie_held}
use Rattle.block.proofs.Ties.{ties_held}
use Rattle.block.proofs.Held.ties_held.Goals as goal

pub returns : goal.returns
returns c =
    let s = c.args.self.now in
    let e : c.all.result ≡ every (tie_held s.file.now s.lots) (8 * (s.lots * (s.lots - 1))) = all_range _ _ _ _ _ _ refl (λ x b q k. search (rules, tests)) c.all.ensures.ran in
    e ∙ ties_held _ _ s.few.1
