-- `repair::all_ascend` meets its contract: each lot is below the next.
use lib.Dec.{ltb}
use Rattle.std.proofs.Common.{rules, tests}
use Rattle.std.proofs.lemmas.List.Sorted.{answers_always}
use Rattle.repair.proofs.Walks.{ascend_all}
use Rattle.repair.proofs.all_ascend.Goals as goal

pub returns : goal.returns
returns c = ascend_all _ _ (c.is_sorted_by.ensures.cases ltb (answers_always _ _ _ (λ f x r q k. search (rules, tests))))
