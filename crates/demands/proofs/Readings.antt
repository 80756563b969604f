-- The tests of the checks are their plain words (specs/Readings.antt), one theorem to a test; and what a save is refused 12 and 13 for.
-- Assumes nothing.
use mathlib.Core.Path.{◌≡◌, refl, sym, ◌∙◌, ap, ap₂, subst}
use mathlib.Core.Bool.{Bool, true, false, ◌&&◌, ◌||◌, not, cond}
use mathlib.Core.Logic.{◌↔◌, ◌≢◌, ⊎_elim}
use mathlib.Core.List.{List, [], ◌∷◌}
use Prim.Native.Nat.{ℕ, zero, suc, ◌+◌, ◌*◌, ◌-◌, ◌/◌, ◌%◌, ◌<◌}
use native.Mathlib.Omega.{arith}
use lib.Dec.{eqb}
use lib.ListN.{length, get_or, set, take, length-set}
use lib.Seq.{get_or-set_same}
use borrow.Author.Tests.{ne_eqb, not-true}
use Rattle.lex.specs.Every.{every, every_of, some_of, count}
use Rattle.lex.proofs.Every.{and_left, and_right, every_true, every_cong}
use Rattle.week.specs.declared.Numbers.{Numbers}
use Rattle.week.specs.Rules.{Rules, inside, together, free, tied, slot_stands, pair_stands, lot_stands, keeps}
use Rattle.week.specs.Tables.{Week, pair_rules, numbers_ok, lot_ok, lot_ok_at, words_ok, bit_ok, word_ok, pair_ok, lot_ties_ok, ties_ok}
use Rattle.repair.specs.Break.{lot_below, lot_ascends, lost_ok}
use Rattle.repair.specs.Repair.{Case, is_lost, replaces, yields, helps, may_go, moves, goes_at, moves_at, mends, is_repair}
use Rattle.sheet.specs.declared.Sheet.{Sheet}
use Rattle.sheet.specs.Moves.{Move, move, moves_of, is_of, names, move_ok, once, moves_ok, near, fresh_at, fresh_lot, fresh_move, fresh, stirs, placed_all}
use Rattle.sheet.specs.Sheet.{stands, mark_ok, sound_marks, sound, result_ok, saved}
use Rattle.sheet.proofs.Placing.{placed_other}
use Rattle.block.specs.Parts.{byte_of}
use Rattle.block.specs.Content.{content_size}
use Rattle.block.specs.File.{blocks}
use Rattle.block.specs.Reading.{content_in, whole_blocks, byte_is, holds4, fills_at, filling_ok}
use Rattle.demands.specs.Checks.{Check, check_at, Exactly, week_checks, save_checks}
use Rattle.demands.specs.Readings.{Reads, ◌and◌, AllBelow, SomeBelow, NumbersRight, NumbersWrong, LostRight, LostWrong, Inside, Outside, LotRight, LotWrong, BitRight, BitWrong, TiesRight, TiesWrong, KeepsRules, BreaksRules, IsLost, NotLost, MayGo, MayNotGo, Moves, MovesNot, RepairRight, RepairWrong, SheetRight, SheetWrong, move_count, lot_at, slot_at, MovesRight, MovesWrong, Tied, Untied, Fresh, Stale, ResultRight, ResultWrong, Whole, WholeNot, Holds, HoldsNot, Filled, FilledNot}
use Rattle.demands.proofs.Verdict.{stands_once, refused_at}
use Rattle.demands.proofs.Plain.{reading, as_is, and_reads, or_reads, imp_reads, not_reads, cond_reads, last_reads, eq_reads, le_reads, lt_reads, same_reads, every_reads, every_front, every_and}
use Rattle.demands.proofs.Demand1.{save_exactly}

-- 1

pub numbers_reads : (N : Numbers) → Reads (numbers_ok N) (NumbersRight N) (NumbersWrong N)
unfolding numbers_ok
numbers_reads N =
    and_reads (le_reads 1 N.n)
    (and_reads (le_reads N.n 24)
    (and_reads (le_reads N.a 2)
    (and_reads (le_reads N.b 3)
    (and_reads (le_reads N.alternative 1)
    (and_reads (le_reads N.gap 15)
    (and_reads (imp_reads (eq_reads N.alternative 0) (eq_reads N.gap 0))
    (last_reads (le_reads N.helper 1))))))))

pub lost_reads : (n least most : ℕ) (A : List ℕ) → Reads (lost_ok n least most A) (LostRight n least most A) (LostWrong n least most A)
unfolding lost_ok lot_below lot_ascends
lost_reads n least most A =
    and_reads (le_reads least (length A))
    (and_reads (le_reads (length A) most)
    (and_reads (every_reads (length A) (λ i. lt_reads (get_or A i 0) n))
    (last_reads (every_reads (length A - 1) (λ i. lt_reads (get_or A i 0) (get_or A (i + 1) 0))))))

-- 3

inside_reads : (x y : ℕ) → Reads (inside x y) (Inside x y) (Outside x y)
unfolding inside
inside_reads x y = every_reads 16 (λ v. imp_reads (as_is _) (as_is _))

pub words_reads : (n : ℕ) (d l g : List ℕ) → Reads (words_ok n d l g) (AllBelow n (λ p. LotRight (get_or d p 0) (get_or l p 0) (get_or g p 0))) (SomeBelow n (λ p. LotWrong (get_or d p 0) (get_or l p 0) (get_or g p 0)))
unfolding words_ok lot_ok_at lot_ok
words_reads n d l g = every_reads n (λ p. and_reads (not_reads (eq_reads (get_or d p 0) 0)) (and_reads (inside_reads (get_or l p 0) (get_or d p 0)) (last_reads (inside_reads (get_or g p 0) (get_or d p 0)))))

-- 4

bit_reads : (R : Rules) (p q v w : ℕ) → Reads (bit_ok R p q v w) (BitRight R p q v w) (BitWrong R p q v w)
unfolding bit_ok
bit_reads R p q v w =
    and_reads (imp_reads (as_is _) (and_reads (as_is _) (and_reads (as_is _) (not_reads (eq_reads p q)))))
    (same_reads (together R p v q w) (together R q w p v))

pub ties_reads : (R : Rules) → Reads (ties_ok R) (TiesRight R) (TiesWrong R)
unfolding ties_ok lot_ties_ok pair_ok word_ok
ties_reads R = every_reads R.lots (λ p. every_reads R.lots (λ q. every_reads 16 (λ v. every_reads 16 (λ w. bit_reads R p q v w))))

-- 6

pub keeps_reads : (R : Rules) (s : List ℕ) → Reads (keeps R s) (KeepsRules R s) (BreaksRules R s)
unfolding keeps slot_stands lot_stands pair_stands
keeps_reads R s = and_reads (every_reads (length s) (λ p. as_is _)) (every_reads (length s) (λ p. every_reads (length s) (λ q. or_reads (eq_reads p q) (as_is _))))

-- 8

some_at : (f : ℕ → Bool) (A : List ℕ) → some_of f A ≡ not (every (λ i. not (f (get_or A i 0))) (length A))
unfolding some_of every
some_at f [] = refl
some_at f (x ∷ A) =
    ap (λ (t : Bool). f x || t) (some_at f A)
    ∙ (either (f x) (every (λ i. not (f (get_or A i 0))) (length A))
    ∙ sym (ap not (every_front (λ i. not (f (get_or (x ∷ A) i 0))) (length A))))
  where
    either : (a b : Bool) → (a || not b) ≡ not (not a && b)
    either true b = refl
    either false b = refl

is_lost_reads : (A : List ℕ) (p : ℕ) → Reads (is_lost A p) (IsLost A p) (NotLost A p)
unfolding is_lost
is_lost_reads A p = rw (some_at (eqb p) A) (not_reads (every_reads (length A) (λ i. not_reads (eq_reads p (get_or A i 0)))))

may_go_reads : (C : Case) (p w v : ℕ) → Reads (helps C.numbers w v && cond (is_lost C.lost p) (replaces C.numbers w v) (yields (get_or C.give p 0) w v)) (MayGo C p w v) (MayNotGo C p w v)
unfolding helps replaces yields
may_go_reads C p w v =
    and_reads (imp_reads (eq_reads C.numbers.helper 1) (le_reads w v))
    (cond_reads (is_lost_reads C.lost p)
    (and_reads (not_reads (eq_reads w v)) (imp_reads (eq_reads C.numbers.alternative 1) (lt_reads (w + C.numbers.gap) v)))
    (or_reads (eq_reads w v) (as_is _)))

pub moves_at_reads : (C : Case) (r : List ℕ) (p : ℕ) → Reads (moves_at C r p) (Moves C p (get_or C.stands p 0) (get_or r p 0)) (MovesNot C p (get_or C.stands p 0) (get_or r p 0))
unfolding moves_at moves
moves_at_reads C r p = and_reads (not_reads (is_lost_reads C.lost p)) (not_reads (eq_reads (get_or C.stands p 0) (get_or r p 0)))

pub repair_reads : (R : Rules) (C : Case) (r : List ℕ) → Reads (is_repair R C r) (RepairRight R C r) (RepairWrong R C r)
unfolding is_repair mends goes_at may_go
repair_reads R C r =
    and_reads (eq_reads (length r) R.lots)
    (and_reads (keeps_reads R r)
    (and_reads (every_reads (length r) (λ p. may_go_reads C p (get_or C.stands p 0) (get_or r p 0)))
    (le_reads (count (moves_at C r) (length r)) C.numbers.b)))

-- 9

pub sound_reads : (R : Rules) (S : Sheet) → Reads (sound R S) (SheetRight R S) (SheetWrong R S)
unfolding sound sound_marks mark_ok stands
sound_reads R S =
    and_reads (eq_reads S.n R.lots)
    (and_reads (le_reads S.saves 65535)
    (and_reads (keeps_reads R (take R.lots S.order))
    (last_reads (every_reads R.lots (λ p. le_reads (get_or S.marks p 0) S.saves)))))

-- Moves, as they stand in the bytes

abbrev move_at : List ℕ → ℕ → Move
move_at m i = move (lot_at m i) (slot_at m i)

-- the first pair of bytes, and the pairs behind it
next_move : (p v : ℕ) (m : List ℕ) (i : ℕ) → move_at (p ∷ v ∷ m) (suc i) ≡ move_at m i
next_move p v m i =
    let low : suc i * 2 ≡ suc (suc (i * 2)) = omega arith in
    let high : suc i * 2 + 1 ≡ suc (suc (i * 2 + 1)) = omega arith in
    ap₂ (λ (x y : ℕ). move (get_or (p ∷ v ∷ m) x 0) (get_or (p ∷ v ∷ m) y 0)) low high

next_count : (p v : ℕ) (m : List ℕ) → move_count (p ∷ v ∷ m) ≡ suc (move_count m)
next_count p v m = omega arith

every_move : (f : Move → Bool) (m : List ℕ) → every_of f (moves_of m) ≡ every (λ i. f (move_at m i)) (move_count m)
unfolding every_of every moves_of
every_move f [] = refl
every_move f (p ∷ []) = refl
every_move f (p ∷ v ∷ m) =
    ap (λ (t : Bool). f (move p v) && t) (every_move f m ∙ every_cong (λ i. f (move_at m i)) (λ i. f (move_at (p ∷ v ∷ m) (suc i))) (move_count m) (λ i l. ap f (sym (next_move p v m i))))
    ∙ sym (ap (every (λ i. f (move_at (p ∷ v ∷ m) i))) (next_count p v m) ∙ every_front (λ i. f (move_at (p ∷ v ∷ m) i)) (move_count m))

each_move_reads : {P N : ℕ → Type 0} (f : Move → Bool) (m : List ℕ) → ((i : ℕ) → Reads (f (move_at m i)) (P i) (N i)) → Reads (every_of f (moves_of m)) (AllBelow (move_count m) P) (SomeBelow (move_count m) N)
each_move_reads f m r = rw (every_move f m) (every_reads (move_count m) r)

-- 11

-- no move names lot p
none_named : (l : List Move) (p : ℕ) → not (names l p) ≡ every_of (λ x. not (is_of p x)) l
unfolding names some_of every_of
none_named [] p = refl
none_named (x ∷ l) p = neither (is_of p x) (names l p) ∙ ap (λ (t : Bool). not (is_of p x) && t) (none_named l p)
  where
    neither : (a b : Bool) → not (a || b) ≡ (not a && not b)
    neither true b = refl
    neither false b = refl

-- move j names another lot than each move before it
abbrev another : List ℕ → ℕ → Bool
another m j = every (λ i. not (eqb (lot_at m j) (lot_at m i))) j

every_once : (m : List ℕ) → once (moves_of m) ≡ every (another m) (move_count m)
unfolding once moves_of is_of every
every_once [] = refl
every_once (p ∷ []) = refl
every_once (p ∷ v ∷ m) =
    ap₂ (λ (a b : Bool). a && b) (none_named (moves_of m) p ∙ every_move (λ x. not (is_of p x)) m) (every_once m)
    ∙ (sym (every_and (λ j. not (eqb (lot_at m j) p)) (another m) (move_count m))
    ∙ (every_cong (λ j. not (eqb (lot_at m j) p) && another m j) (λ j. another (p ∷ v ∷ m) (suc j)) (move_count m) (λ j l. shift j)
    ∙ sym (ap (every (another (p ∷ v ∷ m))) (next_count p v m) ∙ every_front (another (p ∷ v ∷ m)) (move_count m))))
  where
    lot : (i : ℕ) → lot_at m i ≡ lot_at (p ∷ v ∷ m) (suc i)
    lot i = sym (ap (λ (x : Move). x.lot) (next_move p v m i))

    shift : (j : ℕ) → (not (eqb (lot_at m j) p) && another m j) ≡ another (p ∷ v ∷ m) (suc j)
    shift j =
        ap₂ (λ (a b : Bool). a && b)
        (ap (λ (x : ℕ). not (eqb x p)) (lot j))
        (every_cong (λ i. not (eqb (lot_at m j) (lot_at m i))) (λ i. not (eqb (lot_at (p ∷ v ∷ m) (suc j)) (lot_at (p ∷ v ∷ m) (suc i)))) j (λ i l. ap₂ (λ (x y : ℕ). not (eqb x y)) (lot j) (lot i)))
        ∙ sym (every_front (λ i. not (eqb (lot_at (p ∷ v ∷ m) (suc j)) (lot_at (p ∷ v ∷ m) i))) j)

once_reads : (m : List ℕ) → Reads (once (moves_of m)) (AllBelow (move_count m) (λ j. AllBelow j (λ i. lot_at m j ≢ lot_at m i))) (SomeBelow (move_count m) (λ j. SomeBelow j (λ i. lot_at m j ≡ lot_at m i)))
once_reads m = rw (every_once m) (every_reads (move_count m) (λ j. every_reads j (λ i. not_reads (eq_reads (lot_at m j) (lot_at m i)))))

pub moves_reads : (n : ℕ) (domain m : List ℕ) → Reads (moves_ok n domain m) (MovesRight n domain m) (MovesWrong n domain m)
unfolding moves_ok move_ok
moves_reads n domain m =
    and_reads (le_reads 1 (length m))
    (and_reads (le_reads (length m) (n * 2))
    (and_reads (eq_reads (length m % 2) 0)
    (and_reads (each_move_reads (move_ok n domain) m (λ i. and_reads (lt_reads (lot_at m i) n) (as_is _)))
    (last_reads (once_reads m)))))

-- 12

pub tied_reads : (R : Rules) (p q : ℕ) → Reads (tied R p q) (Tied R p q) (Untied R p q)
unfolding tied free
tied_reads R p q = and_reads (not_reads (eq_reads p q)) (not_reads (every_reads 16 (λ v. every_reads 16 (λ w. imp_reads (and_reads (as_is _) (as_is _)) (as_is _)))))

pub fresh_reads : (R : Rules) (marks : List ℕ) (c : ℕ) (m : List ℕ) → Reads (fresh R marks c (moves_of m)) (Fresh R marks c m) (Stale R marks c m)
unfolding fresh fresh_move fresh_lot fresh_at near
fresh_reads R marks c m = each_move_reads (fresh_move R marks c) m (λ i. every_reads R.lots (λ q. imp_reads (or_reads (eq_reads (lot_at m i) q) (tied_reads R (lot_at m i) q)) (le_reads (get_or marks q 0) c)))

-- 13

pub result_reads : (R : Rules) (s m : List ℕ) → Reads (result_ok R s m) (ResultRight R s m) (ResultWrong R s m)
unfolding result_ok stirs stands
result_reads R s m =
    and_reads (each_move_reads (stirs s) m (λ i. not_reads (eq_reads (get_or s (lot_at m i) 0) (slot_at m i))))
    (keeps_reads R (take R.lots (placed_all (moves_of m) s)))

-- that result, lot by lot: a moved lot stands where its move says, and any other lot where it stood

lands : (m s : List ℕ) (i : ℕ) → once (moves_of m) ≡ true → i < move_count m → lot_at m i < length s → get_or (placed_all (moves_of m) s) (lot_at m i) 0 ≡ slot_at m i
unfolding once moves_of placed_all
lands [] s i o h l = absurd (omega arith)
lands (p ∷ []) s i o h l = absurd (omega arith)
lands (p ∷ v ∷ m) s zero o h l = placed_other (moves_of m) (set s p v) p (not-true (names (moves_of m) p) (and_left (not (names (moves_of m) p)) (once (moves_of m)) o)) ∙ get_or-set_same s p v 0 l
lands (p ∷ v ∷ m) s (suc i) o h l =
    let e : lot_at (p ∷ v ∷ m) (suc i) ≡ lot_at m i = ap (λ (x : Move). x.lot) (next_move p v m i) in
    let z = length-set s p v in
    subst (λ (x : Move). get_or (placed_all (moves_of m) (set s p v)) x.lot 0 ≡ x.slot) (sym (next_move p v m i))
    (lands m (set s p v) i (and_right (not (names (moves_of m) p)) (once (moves_of m)) o) (omega arith) (omega arith))

pub result_moved : (m s : List ℕ) → AllBelow (move_count m) (λ j. AllBelow j (λ i. lot_at m j ≢ lot_at m i)) → AllBelow (move_count m) (λ i. lot_at m i < length s → get_or (placed_all (moves_of m) s) (lot_at m i) 0 ≡ slot_at m i)
result_moved m s apart i h l = lands m s i ((once_reads m).passes.1 apart) h l

pub result_kept : (m s : List ℕ) (p : ℕ) → AllBelow (move_count m) (λ i. lot_at m i ≢ p) → get_or (placed_all (moves_of m) s) p 0 ≡ get_or s p 0
unfolding is_of
result_kept m s p h = placed_other (moves_of m) s p (not-true (names (moves_of m) p) (none_named (moves_of m) p ∙ (every_move (λ x. not (is_of p x)) m ∙ every_true (λ i. not (eqb (lot_at m i) p)) (move_count m) (λ i l. ap not (ne_eqb (lot_at m i) p (h i l))))))

-- A save is refused with 12 or 13 exactly if the checks before pass, and the plain words hold

refused_reads : {k : ℕ} {P N : Type 0} (l : List Check) (i : ℕ) → i < length l → ((check_at l i).number ≡ 0 → ⊥) → stands_once l i ≡ true → Exactly l k → Reads (check_at l i).passes P N → (k ≡ (check_at l i).number) ↔ (AllBelow i (λ h. (check_at l h).passes ≡ true) and N)
refused_reads l i inside some once x r =
    let at = refused_at l i inside some once x in
    (λ e. let p = at.0 e in (p.0, r.fails.0 p.1), λ p. at.1 (p.0, r.fails.1 p.1))

module _ (W : Week) (S : Sheet) (c : ℕ) (m : List ℕ) where
  pub save_answers_12 : ((saved W S c m).answer ≡ 12) ↔ (AllBelow 7 (λ i. (check_at (save_checks W S c m) i).passes ≡ true) and Stale (pair_rules W) S.marks c m)
  unfolding every save_checks week_checks
  save_answers_12 = refused_reads (save_checks W S c m) 7 (omega arith) (λ z. omega arith) refl (save_exactly W S c m) (fresh_reads (pair_rules W) S.marks c m)

  pub save_answers_13 : ((saved W S c m).answer ≡ 13) ↔ (AllBelow 8 (λ i. (check_at (save_checks W S c m) i).passes ≡ true) and ResultWrong (pair_rules W) S.order m)
  unfolding every save_checks week_checks
  save_answers_13 = refused_reads (save_checks W S c m) 8 (omega arith) (λ z. omega arith) refl (save_exactly W S c m) (result_reads (pair_rules W) S.order m)

-- 15

pub whole_reads : (F : List ℕ) → Reads (whole_blocks F) (Whole F) (WholeNot F)
unfolding whole_blocks
whole_reads F =
    let r = and_reads (le_reads 512 (length F)) (and_reads (le_reads (length F) 9216) (eq_reads (length F % 512) 0)) in
    reading (whole_blocks F)
    (λ e. let p = r.passes.0 e in let low = p.0 in let high = p.1.0 in let whole = p.1.1 in record { one = length F / 512; below = omega arith; is = (omega arith, omega arith) })
    (λ e b l some is. ⊎_elim (λ h. omega arith) (⊎_elim (λ h. omega arith) (λ h. h (omega arith))) (r.fails.0 e))
    (λ p n. n p.one p.below p.is.0 p.is.1)

-- 16, 17

pub holds_reads : (F : List ℕ) (from x : ℕ) → Reads (holds4 F from x) (Holds F from x) (HoldsNot F from x)
unfolding holds4 byte_is
holds_reads F from x = every_reads 4 (λ j. eq_reads (get_or F (from + j) 0) (byte_of x j))

-- 18

pub filling_reads : (F : List ℕ) (n : ℕ) → Reads (filling_ok F n) (Filled F n) (FilledNot F n)
unfolding filling_ok fills_at
filling_reads F n = every_reads (blocks n * 504 - content_size n) (λ i. eq_reads (content_in F (content_size n + i)) 0)
