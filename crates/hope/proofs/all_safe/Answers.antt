-- `hope::all_safe` meets its contract: the losses of one lot and of two are judged.
use Rattle.hope.proofs.Safe.{going_few, robust_none, robust_ones, verdict_all}
use Rattle.hope.proofs.all_safe.Goals as goal

pub returns-then-numbers-lt1 : goal.returns-then-numbers-lt1
returns-then-numbers-lt1 c = robust_none c.requires c.if-numbers-lt1.true

pub free_words-free-requires : goal.free_words-free-requires
free_words-free-requires c = going_few c.requires

pub returns-then-numbers-lt2 : goal.returns-then-numbers-lt2
returns-then-numbers-lt2 c = robust_ones c.requires c.if-numbers-lt2.true c.in_ok-singles_safe.ensures

pub returns : goal.returns
returns c = verdict_all c.requires _ c.in_ok-singles_safe.ensures c.pairs_safe.ensures
