-- `print::plan_text` meets its contract: a wrong buffer stays, a right one holds the text and zeros behind it.
use mathlib.Core.Path.{refl, sym, ◌∙◌, ap}
use Rattle.print.specs.Text.{room}
use lib.ListN.{replicate}
use Prim.Native.Nat.{ℕ}
use Rattle.print.proofs.Put.{cleared, put_within, rest_size, rest_none}
use Rattle.print.proofs.File.{printed_none, printed_text}
use Rattle.print.proofs.plan_text.Goals as goal

pub returns-then-out-ne25600 : goal.returns-then-out-ne25600
unfolding room
returns-then-out-ne25600 c = printed_none _ _ c.if-out-ne25600.true

pub file-requires : goal.file-requires
unfolding room
file-requires c = (refl, c.if-out-ne25600.false)

pub returns : goal.returns
unfolding room
returns c =
    rw (c.out-1.given.1.1 (sym c.file.ensures.same))
    (printed_text _ _ c.if-out-ne25600.false c.file.ensures.put (cleared _ _ _ _ (put_within c.file.ensures.put)
    (c.fill.ensures.after (λ y h. h) ∙ ap (λ (n : ℕ). replicate n 0) (rest_size _ _ (put_within c.file.ensures.put)))
    (rest_none c.file.new.self.end c.file.new.self.out.now)))
