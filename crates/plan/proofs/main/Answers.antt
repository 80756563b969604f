-- The text lies within its buffer.
use Rattle.std.proofs.Common.{sym}
use Rattle.std.proofs.lemmas.List.{length-take-le}
use Rattle.print.proofs.File.{text_within}
use Rattle.plan.proofs.main.Goals as goal

pub slice_bounds-text-end : goal.slice_bounds-text-end
slice_bounds-text-end c = text_within _ _ c.in-Ok.is c.plan_text.ensures

pub slice_bounds-write_all-end : goal.slice_bounds-write_all-end
slice_bounds-write_all-end c = sym (length-take-le _ _ (text_within _ _ c.in-Ok.is c.plan_text.ensures))
