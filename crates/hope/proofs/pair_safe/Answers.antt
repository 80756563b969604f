-- `hope::pair_safe` meets its contract: two lots with free slots that may stand together are safe, and any other loss is asked of the search.
use mathlib.Core.Path.{refl}
use native.Mathlib.Omega.{arith}
use Rattle.hope.proofs.Safe.{two_struck, two_free, two_mended, verdict_by}
use Rattle.hope.proofs.pair_safe.Goals as goal

pub returns-then-has_pair : goal.returns-then-has_pair
returns-then-has_pair c =
    two_free c.requires.0 _ _ (omega arith) c.requires.3.0 c.requires.2.1 c.requires.3.1 _ _ c.word_of.ensures c.word_of-2.ensures
    (rw (c.rules-rules.ensures.lots, c.rules-rules.ensures.ties) at (c.has_pair.ensures c.if-has_pair.true))

pub mended-requires : goal.mended-requires
mended-requires c = two_struck c.requires.0 _ _ c.requires.4 c.requires.3.0 _ (refl, refl) c.requires.1 c.requires.2.1 c.requires.3.1

pub returns : goal.returns
returns c = verdict_by _ _ _ (two_mended c.requires.0 _ _ c.requires.4 c.requires.3.0 _ (refl, refl) c.requires.2.1 c.requires.3.1) c.mended.ensures
