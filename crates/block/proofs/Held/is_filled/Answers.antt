-- `block::Held::is_filled` meets its contract: every byte behind the content is asked.
use mathlib.Core.Path.{refl, ◌∙◌, ap₂}
use Prim.Native.Nat.{ℕ, ◌+◌, ◌*◌, ◌-◌, ◌<◌}
use native.Mathlib.Omega.{arith}
use borrow.Author.Rules.{rules}
use borrow.Author.Tests.{tests}
use lib.Dec.{eqb}
use Rattle.lex.specs.Every.{every}
use Rattle.block.specs.Reading.{content_in, fills_at, filling_ok}
use Rattle.std.proofs.lemmas.Iterator.{serves_from_Range}
use Rattle.block.proofs.Sizes.{blocks_small}
use Rattle.block.proofs.Between.{all_between}
use Rattle.block.proofs.Held.is_filled.Goals as goal

pub all-requires-clause-callable : goal.all-requires-clause-callable
all-requires-clause-callable c =
    serves_from_Range (λ x q k. search (rules, tests))
    (λ x low high. let h : x < 65536 = omega (arith, high, blocks_small c.args.self.now.lots c.args.self.now.few.1) in search (rules, h))

pub returns : goal.returns
unfolding filling_ok fills_at
returns c =
    let F = c.args.self.now.file.now in
    all_between _ _ _ _ (λ i. eqb (content_in F i) 0) _ _ refl (λ x b q k. search (rules, tests)) c.all.ensures.ran
    ∙ ap₂ (λ (s e : ℕ). every (λ i. eqb (content_in F (s + i)) 0) (e * 504 - s)) c.content_size-size.ensures c.blocks_for-end.ensures
