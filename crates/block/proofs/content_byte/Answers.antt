-- `block::content_byte` meets its contract: each byte where the content has it.
use mathlib.Core.Path.{◌∙◌}
use native.Mathlib.Omega.{arith}
use Rattle.week.specs.Tables.{lent}
use Rattle.week.proofs.Tables.{limits}
use Rattle.block.proofs.Content.{content_number, content_word_of, content_rest}
use Rattle.block.proofs.content_byte.Goals as goal

pub returns-then-i-lt6 : goal.returns-then-i-lt6
returns-then-i-lt6 c = c.number_at.ensures ∙ content_number (lent c.args.week.now) c.args.i c.if-i-lt6.true

pub content_size-requires : goal.content_size-requires
content_size-requires c = let l = limits _ c.requires in (l.some, l.few)

pub returns-then-content_size-i : goal.returns-then-content_size-i
returns-then-content_size-i c = content_rest (lent c.args.week.now) c.args.i (omega arith) (omega arith)

pub table_word-word-requires : goal.table_word-word-requires
table_word-word-requires c = let l = limits _ c.requires in (l.some, l.few)

pub returns : goal.returns
returns c = content_word_of (lent c.args.week.now) c.args.i (omega arith) (omega arith) c.table_word-word.ensures c.to_le_bytes.ensures
