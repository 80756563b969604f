-- What a file is put together from: what stands at a place, and numbers in bytes.
-- Assumes nothing.
use Rattle.std.specs.Prelude.{List, ℕ, ◌*◌, ◌/◌, ◌%◌, ◌^◌, get_or}

-- what stands at a place of a list; 0 beyond its end
unfoldable pub or_zero : List ℕ → ℕ → ℕ
or_zero s i = get_or s i 0

-- byte j of a number, little endian
unfoldable pub byte_of : ℕ → ℕ → ℕ
byte_of x j = x / 2 ^ (8 * j) % 256
