-- Laws of moves: what well-formed moves satisfy, and a mark that makes no move stale.
-- Assumes nothing.
use mathlib.Core.Path.{◌≡◌}
use mathlib.Core.Bool.{true, not, or-true}
use mathlib.Core.List.{List}
use Prim.Native.Nat.{ℕ, ◌*◌, ◌%◌, ◌≤◌}
use lib.ListN.{length, get_or}
use borrow.Author.Tests.{leb-true, le-leb, eqb-true}
use Rattle.lex.specs.Every.{every_of}
use Rattle.lex.proofs.Every.{each}
use Rattle.week.specs.Rules.{Rules}
use Rattle.sheet.specs.Moves.{moves_of, move_ok, once, moves_tests, moves_ok, near, fresh_at}

-- 11

pub record Taken (n : ℕ) (domain m : List ℕ) : Type 0 where
  pub some : 1 ≤ length m
  pub few : length m ≤ n * 2
  pub whole : length m % 2 ≡ 0
  pub right : every_of (move_ok n domain) (moves_of m) ≡ true
  pub apart : once (moves_of m) ≡ true

pub taken_read : (n : ℕ) (domain m : List ℕ) → moves_ok n domain m ≡ true → Taken n domain m
unfolding moves_ok
taken_read n domain m e =
    let t = each (moves_tests n domain m) e in
    record { some = leb-true 1 (length m) t.0; few = leb-true (length m) (n * 2) t.1.0; whole = eqb-true (length m % 2) 0 t.1.1.0; right = t.1.1.1.0; apart = t.1.1.1.1.0 }

-- 12

pub fresh_old : (R : Rules) (marks : List ℕ) (c p q : ℕ) → get_or marks q 0 ≤ c → true ≡ fresh_at R marks c p q
unfolding fresh_at
fresh_old R marks c p q h = rw (le-leb (get_or marks q 0) c h, or-true (not (near R p q)))
