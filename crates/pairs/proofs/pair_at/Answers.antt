-- `pairs::pair_at` meets its contract: the pair is the one that is left among the pairs of the lots from p on.
use mathlib.Core.Path.{sym, ◌∙◌, ap}
use mathlib.Core.List.{List, []}
use Prim.Native.Nat.{ℕ}
use native.Mathlib.Omega.{arith}
use lib.ListN.{get_or}
use Rattle.pairs.specs.Pairs.{pair, low, high}
use Rattle.pairs.proofs.Pairs.{rest_all, rest_here, rest_later, rest_none}
use Rattle.pairs.proofs.pair_at.Goals as goal

pub loop-p-init : goal.loop-p-init
loop-p-init c = rest_all c.args.n c.args.r

pub returns-then-left-after : goal.returns-then-left-after
unfolding pair
returns-then-left-after c =
    let is = sym (rest_here c.args.n c.loop-p.p c.loop-p.left (omega arith) c.if-left-after.true) ∙ c.loop-p.invariant in
    (ap (λ (A : List ℕ). low A) is, ap (λ (A : List ℕ). high A) is)

pub loop-p-preserved : goal.loop-p-preserved
loop-p-preserved c = rest_later c.args.n c.loop-p.p c.loop-p.left (omega arith) (omega arith) ∙ c.loop-p.invariant

pub returns : goal.returns
returns c =
    let is = sym (ap (λ (l : List (List ℕ)). get_or l c.loop-p.left []) (rest_none c.args.n c.loop-p.p (omega arith))) ∙ c.loop-p.invariant in
    (ap (λ (A : List ℕ). low A) is, ap (λ (A : List ℕ). high A) is)
