-- `print::Page::lost_line` meets its contract: the word, the lots, the colon, the slots, the end of the line.
use mathlib.Core.Path.{◌∙◌}
use Rattle.repair.specs.Found.{lots_of}
use Rattle.print.specs.Text.{lost_word, colon_word, fields, newline, lost_line}
use Rattle.print.proofs.Put.{put_more, fits_first, fits_rest}
use Rattle.print.proofs.Page.lost_line.Goals as goal

pub word-requires : goal.word-requires
unfolding lost_line lost_word
word-requires c = fits_first lost_word _ c.requires

pub lots-requires : goal.lots-requires
unfolding lost_line lost_word
lots-requires c = fits_first (fields (lots_of c.args.lost)) _ (fits_rest c.requires c.word.ensures.put)

pub word-requires-2 : goal.word-requires-2
unfolding lost_line lost_word colon_word
word-requires-2 c = fits_first colon_word _ (fits_rest (fits_rest c.requires c.word.ensures.put) c.lots.ensures.put)

pub fields-requires : goal.fields-requires
unfolding lost_line lost_word colon_word
fields-requires c = fits_first (fields c.args.row.now) newline (fits_rest (fits_rest (fits_rest c.requires c.word.ensures.put) c.lots.ensures.put) c.word-2.ensures.put)

pub word-requires-3 : goal.word-requires-3
unfolding lost_line lost_word colon_word newline
word-requires-3 c = fits_rest (fits_rest (fits_rest (fits_rest c.requires c.word.ensures.put) c.lots.ensures.put) c.word-2.ensures.put) c.fields.ensures.put

pub returns : goal.returns
unfolding lost_line lost_word colon_word newline
returns c = record {
  put = put_more c.word.ensures.put (put_more c.lots.ensures.put (put_more c.word-2.ensures.put (put_more c.fields.ensures.put c.word-3.ensures.put)));
  same = c.word-3.ensures.same ∙ c.fields.ensures.same ∙ c.word-2.ensures.same ∙ c.lots.ensures.same ∙ c.word.ensures.same;
}
