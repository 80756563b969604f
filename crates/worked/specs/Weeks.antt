-- The worked weeks of document 01, marked (P) there, and the errors that look right: what is claimed of each week.
-- proofs/Weeks.antt proves the whole table at once, by computation. Assumes nothing.
use Rattle.std.specs.Prelude.{Bool, true, ◌&&◌, not, ℕ, zero, suc, ◌*◌, eqb, leb, get_or, replicate}
use mathlib.Core.List.{List, [], ◌∷◌, map, flat_map}
use Rattle.lex.specs.Every.{every_of}
use Rattle.lex.specs.Lists.{same}
use Rattle.week.specs.declared.Numbers.{Numbers}
use Rattle.week.specs.Rules.{bit_of, word_of}
use Rattle.week.specs.Tables.{Week, week, lots, refusal}
use Rattle.pairs.specs.Pairs.{lots_from}
use Rattle.repair.specs.Break.{row_count}
use Rattle.repair.specs.Service.{repair_answer, repair_out}
use Rattle.robust.specs.Super.{is_super}
use Rattle.solve.specs.Service.{solve_answer, solve_order, solve_table}
use Rattle.sheet.specs.declared.Sheet.{Sheet}
use Rattle.sheet.specs.Sheet.{opened, copied}
use Rattle.sheet.specs.History.{lent, save, Call, copying, saving, saved_by, after, order_of}

-- Tables from a rule

-- the tie table of n lots where `may p v q w` says whether lot p in slot v and lot q in slot w may stand together
unfoldable pub tie_table : ℕ → List ℕ → (ℕ → ℕ → ℕ → ℕ → Bool) → List ℕ
tie_table n d may =
    flat_map
    (λ p. flat_map
    (λ q. map
    (λ v. word_of (λ w. not (eqb p q) && (bit_of (get_or d p 0) v && (bit_of (get_or d q 0) w && may p v q w))) 16)
    (lots_from 0 16))
    (lots_from 0 n))
    (lots_from 0 n)

-- numbers with helper rule 0
unfoldable pub numbers : ℕ → ℕ → ℕ → ℕ → ℕ → Numbers
numbers n a b alternative gap = record { n = n; a = a; b = b; alternative = alternative; gap = gap; helper = 0 }

-- The weeks

-- week F, Figure 1 of source 000: lot 0 ≤ lot 1 and lot 1 ≤ lot 2
unfoldable pub in_order : ℕ → ℕ → ℕ → ℕ → Bool
in_order zero v zero w = true
in_order zero v (suc zero) w = leb v w
in_order zero v (suc (suc q)) w = true
in_order (suc zero) v zero w = leb w v
in_order (suc zero) v (suc zero) w = true
in_order (suc zero) v (suc (suc q)) w = leb v w
in_order (suc (suc p)) v zero w = true
in_order (suc (suc p)) v (suc zero) w = leb w v
in_order (suc (suc p)) v (suc (suc q)) w = true

unfoldable pub three : List ℕ
three = 14 ∷ 14 ∷ 14 ∷ []

unfoldable pub week_f : Numbers → List ℕ → Week
week_f N loss = week N three loss three (tie_table 3 three in_order)

-- the numbers of every call on its sheet
unfoldable pub of_f : Numbers
of_f = numbers 3 1 0 0 0

-- one lot, domain {3}
unfoldable pub one_lot : List ℕ → Week
one_lot loss = week (numbers 1 1 0 0 0) (8 ∷ []) loss (8 ∷ []) (tie_table 1 (8 ∷ []) (λ p v q w. true))

-- source 001: two lots in {1,2}, together only 2 2, 1 2, 2 1
unfoldable pub two : List ℕ
two = 6 ∷ 6 ∷ []

unfoldable pub two_lots : ℕ → Week
two_lots b = week (numbers 2 1 b 0 0) two two two (tie_table 2 two (λ p v q w. not (eqb v 1 && eqb w 1)))

-- lot 0 in {1,2,3} may lose slot 1; lot 1 in {1,2}; lot 0 in slot 2 and lot 1 in slot 1 may not stand together
unfoldable pub earlier : Week
earlier = week (numbers 2 1 0 0 0) (14 ∷ 6 ∷ []) (2 ∷ 0 ∷ []) (14 ∷ 6 ∷ []) (tie_table 2 (14 ∷ 6 ∷ []) apart)
  where
    apart : ℕ → ℕ → ℕ → ℕ → Bool
    apart zero v q w = not (eqb v 2 && eqb w 1)
    apart (suc p) v q w = not (eqb v 1 && eqb w 2)

-- What is claimed of a week, in the terms of the services

pub data Claim : Type 0 where
  solves : List ℕ → List (List ℕ) → Claim
  refused : ℕ → Claim
  super : List ℕ → Claim
  not_super : List ℕ → Claim
  repaired : List ℕ → List ℕ → List ℕ → Claim
  shared : List ℕ → List Call → List ℕ → List ℕ → ℕ → Claim

-- buffers as a caller lends them, full of a number that is no slot
unfoldable pub buffer : ℕ → List ℕ
buffer k = replicate k 255

abbrev pub order_buffer : Week → List ℕ
order_buffer W = buffer (lots W)

abbrev pub table_buffer : Week → List ℕ
table_buffer W = buffer (row_count (lots W) W.numbers.a * lots W)

-- solve answers k and leaves s and t in the buffers
unfoldable pub answers : Week → ℕ → List ℕ → List ℕ → Bool
answers W k s t =
    eqb (solve_answer W (order_buffer W) (table_buffer W)) k
    && (same (solve_order W (order_buffer W) (table_buffer W)) s && same (solve_table W (order_buffer W) (table_buffer W)) t)

-- repair of order s for the lost lots answers k and leaves r in the buffer
unfoldable pub repairs : Week → List ℕ → List ℕ → ℕ → List ℕ → Bool
repairs W s lost k r = eqb (repair_answer W s lost (order_buffer W)) k && same (repair_out W s lost (order_buffer W)) r

-- what the calls on a sheet answer, a copy with its copy number behind its answer
unfoldable pub replies : Week → Sheet → List Call → List ℕ
replies W S [] = []
replies W S (copying N ∷ h) = (copied (lent W N) S).answer ∷ (copied (lent W N) S).copy ∷ replies W S h
replies W S (saving x ∷ h) = (saved_by W S x).answer ∷ replies W (saved_by W S x).sheet h

-- a sheet that is not refused answers k and ends with order s and save number i
unfoldable pub ends : Week → Sheet → List Call → List ℕ → List ℕ → ℕ → Bool
ends W S h k s i = same (replies W S h) k && (same (order_of W (after W S h)) s && eqb (after W S h).saves i)

unfoldable pub holds : Week → Claim → Bool
holds W (solves s t) = answers W 0 s (flat_map (λ r. r) t)
holds W (refused k) = answers W k (order_buffer W) (table_buffer W)
holds W (super s) = is_super W s
holds W (not_super s) = not (is_super W s)
holds W (repaired s lost r) = repairs W s lost 0 r
holds W (shared o h k s i) = eqb (opened W o).answer 0 && ends W (opened W o).sheet h k s i

pub record Worked : Type 0 where
  pub tables : Week
  pub claims : List Claim

abbrev pub of : Week → List Claim → Worked
of W l = record { tables = W; claims = l }

-- the tables are accepted, and every claim holds
unfoldable pub right : Worked → Bool
right E = eqb (refusal E.tables) 0 && every_of (holds E.tables) E.claims

unfoldable pub worked : List Worked
worked =
    -- a = 0
    of (week_f (numbers 3 0 0 0 0) three) (solves (1 ∷ 1 ∷ 1 ∷ []) [] ∷ [])
    -- (1,0)
    ∷ of (week_f (numbers 3 1 0 0 0) three)
    (solves (1 ∷ 2 ∷ 2 ∷ []) ((2 ∷ 2 ∷ 2 ∷ []) ∷ (1 ∷ 1 ∷ 2 ∷ []) ∷ (1 ∷ 2 ∷ 3 ∷ []) ∷ [])
    ∷ super (1 ∷ 2 ∷ 2 ∷ [])
    ∷ [])
    -- (1,1)
    ∷ of (week_f (numbers 3 1 1 0 0) three)
    (solves (1 ∷ 1 ∷ 2 ∷ []) ((2 ∷ 2 ∷ 2 ∷ []) ∷ (1 ∷ 2 ∷ 2 ∷ []) ∷ (1 ∷ 1 ∷ 1 ∷ []) ∷ [])
    ∷ [])
    -- (2,0); and 1 2 2, which is (1,0), is not (2,0): its single losses have repairs, its pairs have not
    ∷ of (week_f (numbers 3 2 0 0 0) three)
    (solves (1 ∷ 2 ∷ 3 ∷ [])
    ((2 ∷ 2 ∷ 3 ∷ []) ∷ (1 ∷ 1 ∷ 3 ∷ []) ∷ (1 ∷ 2 ∷ 2 ∷ []) ∷ (2 ∷ 3 ∷ 3 ∷ []) ∷ (2 ∷ 2 ∷ 2 ∷ []) ∷ (1 ∷ 1 ∷ 1 ∷ []) ∷ [])
    ∷ not_super (1 ∷ 2 ∷ 2 ∷ [])
    ∷ [])
    -- (1,0) under alternative rule 1 with gap 0, and the same with lot 2's loss word 0
    ∷ of (week_f (numbers 3 1 0 1 0) three) (refused 5 ∷ [])
    ∷ of (week_f (numbers 3 1 0 1 0) (14 ∷ 14 ∷ 0 ∷ []))
    (solves (1 ∷ 2 ∷ 3 ∷ []) ((2 ∷ 2 ∷ 3 ∷ []) ∷ (1 ∷ 3 ∷ 3 ∷ []) ∷ (1 ∷ 2 ∷ 3 ∷ []) ∷ [])
    ∷ [])
    -- one lot
    ∷ of (one_lot (8 ∷ [])) (refused 5 ∷ [])
    ∷ of (one_lot (0 ∷ [])) (solves (3 ∷ []) ((3 ∷ []) ∷ []) ∷ [])
    -- source 001 at (1,0): no super solution uses slot 1, and the repairs need it
    ∷ of (two_lots 0)
    (solves (2 ∷ 2 ∷ []) ((1 ∷ 2 ∷ []) ∷ (2 ∷ 1 ∷ []) ∷ [])
    ∷ not_super (1 ∷ 1 ∷ [])
    ∷ not_super (1 ∷ 2 ∷ [])
    ∷ not_super (2 ∷ 1 ∷ [])
    ∷ [])
    -- the deeper lot moves on from 1 to 2, and the first repair of lot 0's loss moves back before the one found last
    ∷ of earlier
    (repaired (1 ∷ 1 ∷ []) (0 ∷ []) (3 ∷ 1 ∷ [])
    ∷ repaired (1 ∷ 2 ∷ []) (0 ∷ []) (2 ∷ 2 ∷ [])
    ∷ [])
    -- a sheet at 1 2 3 with two copies: lots 2 and 0 are not tied and move each from its copy; lot 1 is tied to lot 2 and comes too late
    ∷ of (week_f of_f three)
    (shared (1 ∷ 2 ∷ 3 ∷ [])
    (copying of_f ∷ copying of_f ∷ saving (save of_f 0 (2 ∷ 2 ∷ [])) ∷ saving (save of_f 0 (0 ∷ 2 ∷ [])) ∷ [])
    (0 ∷ 0 ∷ 0 ∷ 0 ∷ 0 ∷ 0 ∷ [])
    (2 ∷ 2 ∷ 2 ∷ [])
    2
    ∷ shared (1 ∷ 2 ∷ 3 ∷ [])
    (copying of_f ∷ copying of_f ∷ saving (save of_f 0 (2 ∷ 2 ∷ [])) ∷ saving (save of_f 0 (1 ∷ 3 ∷ [])) ∷ [])
    (0 ∷ 0 ∷ 0 ∷ 0 ∷ 0 ∷ 12 ∷ [])
    (1 ∷ 2 ∷ 2 ∷ [])
    1
    ∷ [])
    ∷ []
