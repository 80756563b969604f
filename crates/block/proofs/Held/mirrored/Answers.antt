-- `block::Held::mirrored` meets its contract: the slots passed are in the word.
use mathlib.Core.Path.{◌≡◌, ◌∙◌, ap}
use Prim.Native.Nat.{◌+◌}
use native.Mathlib.Omega.{arith}
use Rattle.week.specs.Rules.{word_of}
use Rattle.block.specs.Reading.{pair_bit_in}
use Rattle.block.proofs.Checks.{word_below, word_none, word_in_more, word_out_more, bit_is}
use Rattle.block.proofs.Held.mirrored.Goals as goal
use Rattle.block.proofs.Held.mirrored.Goals.{then-bit, else-bit}

pub loop-w-init : goal.loop-w-init
loop-w-init c = word_none _

pub overflow_add-word : goal.overflow_add-word
overflow_add-word c =
    let s = c.args.self.now in
    let b = bit_is s.file.now s.lots c.args.p.0 c.args.q.0 c.args.v.0 c.loop-w.w c.pair_word.ensures c.bit.ensures in
    omega (arith, word_below _ (c.loop-w.w + 1) 16 (word_in_more _ c.loop-w.w c.loop-w-test.true c.loop-w.invariant (b ∙ c.if-bit.true)) (omega arith))

pub loop-w-preserved : goal.loop-w-preserved
loop-w-preserved c =
    let s = c.args.self.now in
    let b = bit_is s.file.now s.lots c.args.p.0 c.args.q.0 c.args.v.0 c.loop-w.w c.pair_word.ensures c.bit.ensures in
    elim c.if-bit.branch [
      | then-bit w ↦ w.word-is ∙ word_in_more _ c.loop-w.w c.loop-w-test.true c.loop-w.invariant (b ∙ w.if-bit.true)
      | else-bit w ↦ w.word-is ∙ word_out_more _ c.loop-w.w c.loop-w.invariant (b ∙ w.if-bit.false)
    ]

pub returns : goal.returns
returns c =
    let s = c.args.self.now in
    let e : c.loop-w.w ≡ 16 = omega arith in
    c.loop-w.invariant ∙ ap (word_of (pair_bit_in s.file.now s.lots c.args.p.0 c.args.q.0 c.args.v.0)) e
