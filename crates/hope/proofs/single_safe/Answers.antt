-- `hope::single_safe` meets its contract: a lot with a free slot is safe, and any other loss is asked of the search.
use mathlib.Core.Path.{refl, ◌∙◌}
use Rattle.hope.proofs.Safe.{one_struck, one_free, one_mended, verdict_by}
use Rattle.hope.proofs.single_safe.Goals as goal

pub returns-then-word_of-ne0 : goal.returns-then-word_of-ne0
returns-then-word_of-ne0 c = one_free c.requires.0 _ c.requires.2.0 c.requires.2.1 (λ z. c.if-word_of-ne0.true (c.word_of.ensures ∙ z))

pub mended-requires : goal.mended-requires
mended-requires c = one_struck c.requires.0.going _ c.requires.2.0 _ (refl, refl) c.requires.1 c.requires.2.1

pub returns : goal.returns
returns c = verdict_by _ _ _ (one_mended c.requires.0 _ c.requires.2.0 _ (refl, refl) c.requires.2.1) c.mended.ensures
