-- What the code that writes a text says of each piece: where it stands in the buffer. No reader needs this to know what is printed.
-- Assumes nothing.
use Rattle.std.specs.Prelude.{◌≡◌, cond, List, [], ◌++◌, ℕ, zero, suc, ◌+◌, ◌≤◌, length, get_or, take}
use Rattle.lex.specs.First.{is_found, or_old}
use Rattle.week.specs.Tables.{Week}
use Rattle.repair.specs.Break.{lost_sets, row_count, row_at}
use Rattle.robust.specs.Super.{first_super}
use Rattle.print.specs.declared.Page.{Page}
use Rattle.print.specs.Text.{plan_line, lost_line, refused_line, plan_lines}

-- a piece has room in the buffer from `at` on
pub record Fits (piece : List ℕ) (at : ℕ) (out : List ℕ) : Type 0 where
  pub room : at + length piece ≤ length out

-- a piece was put behind the first `at` bytes of the buffer `before`: it ends at `end`, and the buffer is now `after`
pub record Put (piece : List ℕ) (at : ℕ) (before : List ℕ) (end : ℕ) (after : List ℕ) : Type 0 where
  pub ends : end ≡ at + length piece
  pub stands : take end after ≡ take at before ++ piece
  pub size : length after ≡ length before

-- a piece was put behind the text of a page, which still is in the same buffer
pub record Wrote (piece : List ℕ) (old new : Page) : Type 0 where
  pub put : Put piece old.end old.out.now new.end new.out.now
  pub same : new.out.ghost_name ≡ old.out.ghost_name

-- f 0, f 1 .. f (k - 1), one behind the other
unfoldable pub pieces : (ℕ → List ℕ) → ℕ → List ℕ
pieces f zero = []
pieces f (suc k) = pieces f k ++ f k

-- the line of row i of a table of n lots
unfoldable pub table_line : ℕ → ℕ → List ℕ → ℕ → List ℕ
table_line n a table i = lost_line (get_or (lost_sets n a) i []) (row_at n table i)

-- the plan of an order and its table
unfoldable pub table_text : ℕ → ℕ → List ℕ → List ℕ → List ℕ
table_text n a order table = plan_line order ++ pieces (table_line n a table) (row_count n a)

-- the text of a week that is accepted
unfoldable pub week_text : Week → List ℕ
week_text W = cond (is_found (first_super W)) (plan_lines W (or_old (first_super W) [])) (refused_line 5)
