-- `block::table_word` meets its contract: each word where the content has it.
use mathlib.Core.Path.{◌∙◌}
use native.Mathlib.Omega.{arith}
use Rattle.week.specs.Tables.{lent}
use Rattle.block.proofs.Content.{table_domain, table_loss, table_give, table_tie}
use Rattle.block.proofs.table_word.Goals as goal

pub returns-then-j-lots : goal.returns-then-j-lots
returns-then-j-lots c = c.word_at.ensures ∙ table_domain (lent c.args.week.now) c.args.j (omega arith)

pub returns-then-j-lots-2 : goal.returns-then-j-lots-2
returns-then-j-lots-2 c = c.word_at-then-j-lots-2.ensures ∙ table_loss (lent c.args.week.now) c.args.j (omega arith) (omega arith)

pub returns-then-j-lots-3 : goal.returns-then-j-lots-3
returns-then-j-lots-3 c = c.word_at-then-j-lots-3.ensures ∙ table_give (lent c.args.week.now) c.args.j (omega arith) (omega arith)

pub returns : goal.returns
returns c = table_tie (lent c.args.week.now) c.args.j (omega arith) c.pair_at-pair.ensures.0 c.pair_at-pair.ensures.1 c.rules.ensures.lots c.rules.ensures.ties c.tie_word.ensures
