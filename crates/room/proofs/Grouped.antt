-- Groups as the code makes them, lot after lot; and two lots of one group may never stand in one slot. Assumes nothing.
use mathlib.Core.Path.{◌≡◌, sym, ◌∙◌, ap, ap₂}
use mathlib.Core.Bool.{true, ◌&&◌, not}
use mathlib.Core.List.{List}
use Prim.Native.Nat.{ℕ, ◌+◌, ◌≤◌, ◌<◌}
use native.Mathlib.Decide.{dec_lt, ℕ_discrete}
use native.Mathlib.Omega.{arith}
use lib.Dec.{eqb}
use lib.ListN.{get_or, set, length-set}
use lib.Seq.{get_or-set_same, get_or-set_other}
use borrow.Author.Tests.{eq-eqb, not-true}
use Rattle.lex.specs.Every.{imp, every}
use Rattle.lex.specs.Scan.{scan_from}
use Rattle.lex.proofs.Every.{and_right, imp_out, every_at, every_cong}
use Rattle.lex.proofs.Scan.{Picked, scan_picked, scan_cong}
use Rattle.week.specs.Rules.{tie_word, together}
use Rattle.week.specs.Tables.{Week, lots}
use Rattle.cuts.specs.Reasons.{Exclusive}
use Rattle.cuts.proofs.Words.{bit_high}
use Rattle.room.specs.Grouped.{meet, apart, bears, takes_in, Grouped}

-- One lot more

module _ (n : ℕ) (ties : List ℕ) where
  -- only the groups of the lots before p matter
  takes_cong : (a b : List ℕ) (p g : ℕ) → ((q : ℕ) → q < p → get_or a q 0 ≡ get_or b q 0) → g < p → takes_in n ties a p g ≡ takes_in n ties b p g
  unfolding takes_in bears
  takes_cong a b p g h l =
      ap₂ ◌&&◌ (ap (λ (x : ℕ). eqb x g) (h g l))
      (every_cong (bears n ties a p g) (bears n ties b p g) p (λ q m. ap (λ (x : ℕ). imp (eqb x g) (apart n ties q p)) (h q m)))

  pub grouped_next : (groups : List ℕ) (p g : ℕ) → p < 24 → Grouped n ties p groups → g ≡ scan_from p (takes_in n ties groups p) 0 → Grouped n ties (p + 1) (set groups p g)
  grouped_next groups p g h c e = record {
    size = rw length-set c.size;
    each = λ q l. elim (ℕ_discrete q p) [
      | yes z ↦ rw z (get_or-set_same groups p g 0 (omega (arith, c.size)) ∙ e ∙ same p (omega arith))
      | no z ↦ get_or-set_other groups p q g 0 z ∙ c.each q (omega arith) ∙ same q (omega arith)
    ];
  }
    where
      same : (q : ℕ) → q ≤ p → scan_from q (takes_in n ties groups q) 0 ≡ scan_from q (takes_in n ties (set groups p g) q) 0
      same q l = scan_cong q (takes_in n ties groups q) (takes_in n ties (set groups p g) q) 0 (λ j m. takes_cong groups (set groups p g) q j (λ i k. sym (get_or-set_other groups p i g 0 (λ z. omega arith))) m)

-- What groups are for

module _ (W : Week) (groups : List ℕ) (c : Grouped (lots W) W.ties (lots W) groups) where
  picked : (q : ℕ) → q < lots W → Picked q (takes_in (lots W) W.ties groups q) 0 (get_or groups q 0)
  picked q m = rw (c.each q m) (scan_picked q (takes_in (lots W) W.ties groups q) 0 (omega arith))

  -- the later of two lots was taken in by the group of the first
  taken : (p q : ℕ) → p < q → q < lots W → get_or groups p 0 ≡ get_or groups q 0 → apart (lots W) W.ties p q ≡ true
  unfolding takes_in bears
  taken p q l m e =
      let a = (picked p (omega arith)).high in
      let b = (picked q m).hit (omega arith) in
      imp_out (eqb (get_or groups p 0) (get_or groups q 0)) (apart (lots W) W.ties p q)
      (every_at (bears (lots W) W.ties groups q (get_or groups q 0)) q p (and_right (eqb (get_or groups (get_or groups q 0) 0) (get_or groups q 0)) (every (bears (lots W) W.ties groups q (get_or groups q 0)) q) b) l)
      (eq-eqb (get_or groups p 0) (get_or groups q 0) e)

  -- on any tables
  pub grouped_exclusive : Exclusive W groups
  unfolding together apart meet
  grouped_exclusive p q v l m e = elim (dec_lt v 16) [
    | yes h ↦ not-true (meet (lots W) W.ties p q v) (every_at (λ w. not (meet (lots W) W.ties p q w)) 16 v (taken p q l m e) h)
    | no h ↦ bit_high (tie_word (lots W) W.ties p v q) v (omega arith)
  ]
