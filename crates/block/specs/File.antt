-- The block file of a week, and the service write.
-- Assumes nothing.
use Rattle.std.specs.Prelude.{true, cond, List, ◌++◌, ℕ, ◌+◌, ◌*◌, ◌-◌, ◌/◌, ◌%◌, eqb, ltb, length, get_or}
use Rattle.lex.specs.Lists.{list_of}
use Rattle.week.specs.Tables.{Week, lots, admits}
use Rattle.block.specs.Fnv.{fnv}
use Rattle.block.specs.Parts.{byte_of}
use Rattle.block.specs.Content.{content_size, content_byte}

-- how many blocks n lots need, 504 bytes of content in each
unfoldable pub blocks : ℕ → ℕ
blocks n = (content_size n + 503) / 504

-- bytes 0 to 507 of block b: its number and its content
unfoldable pub body_byte : Week → ℕ → ℕ → ℕ
body_byte W b i = cond (ltb i 4) (byte_of b i) (content_byte W (b * 504 + (i - 4)))

unfoldable pub body : Week → ℕ → List ℕ
body W b = list_of (body_byte W b) 508

-- block b: the body, and the body's hash
unfoldable pub block_of : Week → ℕ → List ℕ
block_of W b = body W b ++ list_of (byte_of (fnv (body W b))) 4

unfoldable pub file_byte : Week → ℕ → ℕ
file_byte W i = get_or (block_of W (i / 512)) (i % 512) 0

-- the file of a week
unfoldable pub file_of : Week → List ℕ
file_of W = list_of (file_byte W) (blocks (lots W) * 512)

-- what write answers, and the lent buffer afterwards
pub record Written : Type 0 where
  pub answer : ℕ
  pub file : List ℕ

abbrev pub written : ℕ → List ℕ → Written
written k F = record { answer = k; file = F }

-- the buffer F has exactly the needed length, else 2
unfoldable pub write_refusal : Week → List ℕ → ℕ
write_refusal W F = admits true (eqb (length F) (blocks (lots W) * 512)) W

-- write of week W into the buffer F
unfoldable pub write_of : Week → List ℕ → Written
write_of W F = let k = write_refusal W F in cond (eqb k 0) (written 0 (file_of W)) (written k F)
