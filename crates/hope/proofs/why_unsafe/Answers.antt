-- `hope::why_unsafe` meets its contract: the part is asked whether it alone has the break and no repair.
use mathlib.Core.Path.{sym, ◌∙◌}
use Rattle.week.proofs.Tables.{accepted}
use Rattle.hope.proofs.Safe.{struck_part, part_fewer}
use Rattle.hope.proofs.why_unsafe.Goals as goal

pub has_repair-requires : goal.has_repair-requires
has_repair-requires c = struck_part _ _ _ _ c.requires.1.0 (part_fewer (accepted _ c.requires.1.0.fine).limits.few c.narrowed-part.ensures) (sym c.is_break.ensures ∙ c.if-is_break.true)
