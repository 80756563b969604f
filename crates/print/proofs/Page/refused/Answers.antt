-- `print::Page::refused` meets its contract: the word, the number, the end of the line.
use mathlib.Core.Path.{◌∙◌}
use Rattle.print.specs.Text.{refused_word, field, newline, refused_line}
use Rattle.print.proofs.Put.{put_more, fits_first, fits_rest}
use Rattle.print.proofs.Page.refused.Goals as goal

pub word-requires : goal.word-requires
unfolding refused_line refused_word
word-requires c = fits_first refused_word _ c.requires

pub field-requires : goal.field-requires
unfolding refused_line refused_word
field-requires c = fits_first (field c.args.number) newline (fits_rest c.requires c.word.ensures.put)

pub word-requires-2 : goal.word-requires-2
unfolding refused_line refused_word newline
word-requires-2 c = fits_rest (fits_rest c.requires c.word.ensures.put) c.field.ensures.put

pub returns : goal.returns
unfolding refused_line refused_word newline
returns c = record {
  put = put_more c.word.ensures.put (put_more c.field.ensures.put c.word-2.ensures.put);
  same = c.word-2.ensures.same ∙ c.field.ensures.same ∙ c.word.ensures.same;
}
