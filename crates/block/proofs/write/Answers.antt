-- `block::write` meets its contract: each check in its turn, then every block.
use mathlib.Core.Path.{sym, ◌∙◌}
use native.Mathlib.Omega.{arith}
use borrow.Author.Rules.{rules}
use borrow.Author.Tests.{tests}
use Rattle.std.proofs.lemmas.Result.{err_from_is_err_and}
use Rattle.week.specs.Tables.{lent}
use Rattle.week.proofs.Tables.{limits}
use Rattle.block.proofs.Sizes.{blocks_small}
use Rattle.week.proofs.Numbered.{number_some}
use Rattle.block.proofs.Writing.{numbers_pass, write_joined, write_length, write_numbers, write_refused, write_done}
use Rattle.block.proofs.write.Goals as goal

pub returns-then-eq : goal.returns-then-eq
returns-then-eq c = write_numbers (lent c.args.week.now) c.args.file.now c.judge-judged.ensures (search (rules, tests))

pub blocks_for-requires : goal.blocks_for-requires
blocks_for-requires c = let l = limits _ (numbers_pass (lent c.args.week.now) c.judge-judged.ensures (search (rules, tests))) in (l.some, l.few)

pub overflow_mul-fits : goal.overflow_mul-fits
overflow_mul-fits c =
    let l = limits _ (numbers_pass (lent c.args.week.now) c.judge-judged.ensures (search (rules, tests))) in
    omega (arith, blocks_small c.args.week.now.numbers.n l.few)

pub returns-in_err-join : goal.returns-in_err-join
returns-in_err-join c =
    let W = lent c.args.week.now in
    let p = err_from_is_err_and c.from_residual.result c.from_residual.ensures.1 in
    let e = write_joined W c.args.file.now c.blocks_for.ensures c.judge-judged.ensures in
    rw (p.1, p.2) (write_refused W c.args.file.now (c.in_err-join.ensures ∙ e) (number_some _))

pub put_blocks-requires : goal.put_blocks-requires
put_blocks-requires c =
    let W = lent c.args.week.now in
    let e = write_joined W c.args.file.now c.blocks_for.ensures c.judge-judged.ensures in
    (numbers_pass W c.judge-judged.ensures (search (rules, tests)), write_length W c.args.file.now (sym (c.in_ok-join.ensures ∙ e)))

pub returns : goal.returns
returns c =
    let W = lent c.args.week.now in
    let e = write_joined W c.args.file.now c.blocks_for.ensures c.judge-judged.ensures in
    write_done W c.args.file.now (sym (c.in_ok-join.ensures ∙ e)) c.put_blocks.ensures
