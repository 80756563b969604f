-- `solve::table_admits` meets its contract.
use mathlib.Core.Path.{◌≡◌, sym, ◌∙◌}
use mathlib.Core.Bool.{true≢false}
use Rattle.std.proofs.Common.{rules}
use Rattle.week.specs.Refusal.{answer}
use Rattle.week.specs.Tables.{lent}
use Rattle.week.proofs.Tables.{joined_admits}
use Rattle.week.proofs.Numbered.{numbers_told}
use Rattle.solve.proofs.Service.{numbers_fine, numbers_refused}
use Rattle.solve.proofs.table_admits.Goals as goal

pub returns-then-eq : goal.returns-then-eq
returns-then-eq c =
    let one : answer c.judge-judged.result ≡ 1 = search rules in
    one ∙ numbers_refused _ _ (sym one ∙ c.judge-judged.ensures)

pub row_lengths-two-requires : goal.row_lengths-two-requires
row_lengths-two-requires c =
    let l = numbers_fine (lent c.args.week.now) (λ e. true≢false (sym (rw (numbers_told c.judge-judged.result (c.judge-judged.ensures ∙ e)) at c.if-eq.ensures))) in
    (l.some, (l.few, l.breaks))

pub returns : goal.returns
returns c = c.join.ensures ∙ rw (c.row_lengths-two.ensures, c.judge-judged.ensures) (joined_admits _ _ _)
