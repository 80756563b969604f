-- `block::read` meets its contract: each check in its turn, then every buffer.
use mathlib.Core.Path.{refl, sym}
use native.Mathlib.Omega.{arith}
use Rattle.std.proofs.lemmas.Result.{err_from_is_err_and}
use Rattle.week.proofs.Numbered.{number_some}
use Rattle.block.proofs.Checks.{buffers}
use Rattle.block.proofs.Given.{held_limits, read_two, read_file, read_refused, read_done}
use Rattle.block.proofs.read.Goals as goal

pub returns-then-not-buffers_ok : goal.returns-then-not-buffers_ok
returns-then-not-buffers_ok c =
    let a = c.args in
    read_refused a.file.now a.domain.now a.loss.now a.give.now a.ties.now (read_two _ _ _ _ _ (sym c.if-not-buffers_ok.ensures)) (λ z. omega arith) refl refl

pub returns-in_err-numbers : goal.returns-in_err-numbers
returns-in_err-numbers c =
    let a = c.args in
    let p = err_from_is_err_and c.from_residual.result c.from_residual.ensures.1 in
    rw (p.1, p.2)
    (read_refused a.file.now a.domain.now a.loss.now a.give.now a.ties.now (read_file _ _ _ _ _ (sym c.if-not-buffers_ok.ensures) c.in_err-numbers.ensures.refusal) (number_some _) refl refl)

pub invariant_of-held : goal.invariant_of-held
invariant_of-held c = let l = held_limits _ c.in_ok-numbers.ensures.refusal c.in_ok-numbers.ensures.numbers in record { few = (l.some, l.few) }

pub fill_words-requires : goal.fill_words-requires
fill_words-requires c = (buffers _ _ _ _ (sym c.if-not-buffers_ok.ensures)).domain

pub fill_words-requires-2 : goal.fill_words-requires-2
fill_words-requires-2 c = (buffers _ _ _ _ (sym c.if-not-buffers_ok.ensures)).loss

pub fill_words-requires-3 : goal.fill_words-requires-3
fill_words-requires-3 c = (buffers _ _ _ _ (sym c.if-not-buffers_ok.ensures)).give

pub fill_ties-requires : goal.fill_ties-requires
fill_ties-requires c = (buffers _ _ _ _ (sym c.if-not-buffers_ok.ensures)).ties

pub returns : goal.returns
returns c =
    let a = c.args in
    read_done a.file.now a.domain.now a.loss.now a.give.now a.ties.now (read_file _ _ _ _ _ (sym c.if-not-buffers_ok.ensures) c.in_ok-numbers.ensures.refusal)
    c.in_ok-numbers.ensures.numbers c.fill_words.ensures c.fill_words-2.ensures c.fill_words-3.ensures c.fill_ties.ensures
