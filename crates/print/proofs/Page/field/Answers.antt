-- `print::Page::field` meets its contract: the space, then each digit.
use Rattle.print.proofs.Put.{fits_as, put_as}
use Rattle.print.proofs.Lines.{field_one, field_two}
use Rattle.print.proofs.Page.field.Goals as goal

pub word-requires : goal.word-requires
word-requires c = fits_as (field_one _ c.if-x-lt10.true) c.requires

pub returns-then-x-lt10 : goal.returns-then-x-lt10
returns-then-x-lt10 c = record {
  put = put_as (field_one _ c.if-x-lt10.true) c.word.ensures.put;
  same = c.word.ensures.same;
}

pub word-requires-2 : goal.word-requires-2
word-requires-2 c = fits_as (field_two _ c.if-x-lt10.false) c.requires

pub returns : goal.returns
returns c = record {
  put = put_as (field_two _ c.if-x-lt10.false) c.word-2.ensures.put;
  same = c.word-2.ensures.same;
}
