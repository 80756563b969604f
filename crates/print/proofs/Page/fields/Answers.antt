-- `print::Page::fields` meets its contract: the fields passed stand.
use mathlib.Core.Path.{refl, ◌∙◌}
use native.Mathlib.Omega.{arith}
use Rattle.print.proofs.Put.{field_at, pieces_none, pieces_more, field_fits, fields_put}
use Rattle.print.proofs.Page.fields.Goals as goal

pub loop-slot-init : goal.loop-slot-init
loop-slot-init c = (pieces_none _ _ _, refl)

pub field-requires : goal.field-requires
field-requires c = rw c.from.ensures (field_fits _ _ c.loop-slot-test.true c.requires c.loop-slot.invariant.0)

pub loop-slot-preserved : goal.loop-slot-preserved
unfolding field_at
loop-slot-preserved c = (pieces_more (field_at c.args.slots.now) c.loop-slot.slot-index c.loop-slot.invariant.0 (rw c.from.ensures at c.field.ensures.put), c.field.ensures.same ∙ c.loop-slot.invariant.1)

pub returns : goal.returns
returns c = record {
  put = fields_put _ _ (omega arith) c.loop-slot.invariant.0;
  same = c.loop-slot.invariant.1;
}
