-- `tables::word_ok` meets its contract: the word has no bit outside the domains, and every bit agrees with its mirror.
use mathlib.Core.Path.{◌≡◌, refl, sym, ◌∙◌, ap, ap₂}
use mathlib.Core.Bool.{beq, not}
use Prim.Native.Nat.{ℕ}
use lib.Bits.{bit_and}
use lib.Dec.{eqb}
use Rattle.std.proofs.Common.{rules, tests}
use Rattle.lex.specs.Every.{every}
use Rattle.lex.proofs.Every.{every_cong}
use Rattle.lex.proofs.Ranges.{all_range}
use Rattle.week.specs.Rules.{rules_of, inside, together, tie_word, bit_of}
use Rattle.week.proofs.Tables.{word_out, word_mirrors}
use Rattle.tables.proofs.Words.{meets_slot}
use Rattle.tables.proofs.word_ok.Goals as goal

pub returns-then-within : goal.returns-then-within
unfolding together
returns-then-within c =
    let R = rules_of c.args.rules.now in
    let own = c.word_of_slot-own.result in
    let P = λ (w : ℕ). beq (bit_of c.tie_word-word.result w) (not (eqb (bit_and (tie_word R.lots R.ties c.args.q.0 w c.args.p.0) own) 0)) in
    let Q = λ (w : ℕ). beq (together R c.args.p.0 c.args.v.0 c.args.q.0 w) (together R c.args.q.0 w c.args.p.0 c.args.v.0) in
    let e : c.all.result ≡ every P 16 = all_range _ _ _ _ P 16 refl (λ x b q k. search (rules, tests)) c.all.ensures.ran in
    let f : every P 16 ≡ every Q 16 = every_cong P Q 16 (λ w l. ap₂ beq (ap (λ (x : ℕ). bit_of x w) c.tie_word-word.ensures)
    (ap (λ (m : ℕ). not (eqb (bit_and (tie_word R.lots R.ties c.args.q.0 w c.args.p.0) m) 0)) c.word_of_slot-own.ensures ∙ meets_slot _ c.args.v.0)) in
    e ∙ f ∙ word_mirrors R _ _ _ (sym (c.within.ensures ∙ ap₂ inside c.tie_word-word.ensures c.may_have.ensures) ∙ c.if-within.true)

pub returns-else-within : goal.returns-else-within
returns-else-within c =
    c.if-within.false ∙ word_out _ _ _ _ (sym (c.within.ensures ∙ ap₂ inside c.tie_word-word.ensures c.may_have.ensures) ∙ c.if-within.false)
