-- `print::Page::lots` meets its contract: the first lot, and the last where that is another.
use mathlib.Core.Path.{◌∙◌}
use Rattle.print.proofs.Lines.{first_fits, last_fits, one_put, two_put}
use Rattle.print.proofs.Page.lots.Goals as goal

pub field-requires : goal.field-requires
field-requires c = rw c.from.ensures (first_fits c.args.lost c.requires)

pub field-requires-then-first-last : goal.field-requires-then-first-last
field-requires-then-first-last c = rw c.from-then-first-last.ensures (last_fits c.args.lost c.if-first-last.true c.requires (rw c.from.ensures at c.field.ensures.put))

pub returns-then-first-last : goal.returns-then-first-last
returns-then-first-last c = record {
  put = two_put c.args.lost c.if-first-last.true (rw c.from.ensures at c.field.ensures.put) (rw c.from-then-first-last.ensures at c.field-then-first-last.ensures.put);
  same = c.field-then-first-last.ensures.same ∙ c.field.ensures.same;
}

pub returns-else-first-last : goal.returns-else-first-last
returns-else-first-last c = record {
  put = one_put c.args.lost c.if-first-last.false (rw c.from.ensures at c.field.ensures.put);
  same = c.field.ensures.same;
}
