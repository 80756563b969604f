-- What a turn reads stands behind what the turns before it read.
use Rattle.std.proofs.Common.{arith, ◌≡◌, ℕ, ◌+◌, ◌-◌, ◌≤◌, List, ◌++◌, length, take, sym, ap, ◌∙◌}
use Rattle.std.proofs.lemmas.List.{length-take-le, take-append-le}
use Rattle.std.proofs.Math.Seq.{take-append-add}
use Rattle.std.proofs.KnownBytes.{Consumes-trans}
use Rattle.std.specs.Io.KnownBytes.{Consumes}
use mathlib.Core.Path.{subst}
use borrow.Rule.Slice.PartMut.{put_mid, post_of}
use Rattle.input.proofs.read_full.Goals as goal

-- the buffer with `ys` in it from place a on, as a read into a part of it leaves it
filled : (xs ys : List ℕ) (a k n : ℕ) → a ≤ length xs → n ≤ length ys → take (a + n) (put_mid a k xs ys) ≡ take a xs ++ take n ys
filled xs ys a k n h l =
    ap (λ (j : ℕ). take (j + n) (put_mid a k xs ys)) (sym (length-take-le a xs h))
    ∙ take-append-add (take a xs) (ys ++ post_of a k xs) n
    ∙ ap (λ (s : List ℕ). take a xs ++ s) (take-append-le n ys (post_of a k xs) l)

pub loop-size-preserved : goal.loop-size-preserved
loop-size-preserved g c = record {
  within = omega (arith, c.in_ok-more.ensures.bound.0);
  bytes =
      subst (Consumes (g.R.Read.remaining c.args.stream.now) (g.R.Read.remaining c.read.new.self))
      (sym (filled c.loop-size.buffer c.read.new.buf c.loop-size.size (length c.loop-size.buffer - c.loop-size.size) c.in_ok-more.more c.loop-size.invariant.within c.in_ok-more.ensures.bound.0))
      (Consumes-trans _ _ _ _ _ c.loop-size.invariant.bytes c.in_ok-more.ensures.bytes.0);
}
