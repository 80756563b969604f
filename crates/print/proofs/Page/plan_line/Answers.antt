-- `print::Page::plan_line` meets its contract: the word, the slots, the end of the line.
use mathlib.Core.Path.{◌∙◌}
use Rattle.print.specs.Text.{plan_word, fields, newline, plan_line}
use Rattle.print.proofs.Put.{put_more, fits_first, fits_rest}
use Rattle.print.proofs.Page.plan_line.Goals as goal

pub word-requires : goal.word-requires
unfolding plan_line plan_word
word-requires c = fits_first plan_word _ c.requires

pub fields-requires : goal.fields-requires
unfolding plan_line plan_word
fields-requires c = fits_first (fields c.args.order.now) newline (fits_rest c.requires c.word.ensures.put)

pub word-requires-2 : goal.word-requires-2
unfolding plan_line plan_word newline
word-requires-2 c = fits_rest (fits_rest c.requires c.word.ensures.put) c.fields.ensures.put

pub returns : goal.returns
unfolding plan_line plan_word newline
returns c = record {
  put = put_more c.word.ensures.put (put_more c.fields.ensures.put c.word-2.ensures.put);
  same = c.word-2.ensures.same ∙ c.fields.ensures.same ∙ c.word.ensures.same;
}
