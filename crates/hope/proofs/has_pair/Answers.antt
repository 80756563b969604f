-- `hope::has_pair` meets its contract: a tie word that meets the other word has a slot of it.
use Rattle.std.proofs.Common.{◌≡◌, true, refl, ℕ, rules, tests, bit_and}
use Rattle.week.specs.Rules.{bit_of, tie_word}
use Rattle.hope.proofs.Ranges.{some_range}
use Rattle.hope.proofs.Safe.{paired}
use Rattle.hope.proofs.has_pair.Goals as goal

pub returns : goal.returns
returns c = λ e.
    let tie = λ (v : ℕ). tie_word c.args.rules.now.lots c.args.rules.now.ties.now c.args.x.0 v c.args.y.0 in
    let meets = λ (v : ℕ). (bit_of c.args.first v ≡ true) × (bit_and (tie v) c.args.last ≡ 0 → ⊥) in
    let m = some_range _ _ _ _ meets 16 refl (λ x q k. search (rules, tests)) (λ x q k. search rules) c.any.ensures.ran e in
    paired _ _ _ _ _ _ m.0 _ m.2.0 refl c.ranges.last.fits m.2.1
