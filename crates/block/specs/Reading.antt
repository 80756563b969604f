-- The week that a file holds, which files are refused, and the service read.
-- Assumes nothing.
use Rattle.std.specs.Prelude.{Bool, ◌&&◌, cond, Result, Ok, Err, List, [], ◌∷◌, ℕ, zero, suc, ◌+◌, ◌*◌, ◌-◌, ◌/◌, ◌%◌, eqb, ltb, leb, length, get_or, take, drop}
use Rattle.lex.specs.Every.{all, every}
use Rattle.lex.specs.Lists.{list_of, padded}
use Rattle.week.specs.declared.Numbers.{Numbers}
use Rattle.week.specs.declared.Refusal.{Refusal}
use Rattle.week.specs.Refusal.{unless, or_else}
use Rattle.week.specs.Rules.{bit_of, inside, word_of}
use Rattle.week.specs.Tables.{Week, week, lots, pair_rules, numbers_ok, words_ok, ties_ok}
use Rattle.pairs.specs.Pairs.{pair_at, low, high, pair_number}
use Rattle.block.specs.declared.Table.{Table}
use Rattle.block.specs.declared.Table.TheVariants as T
use Rattle.block.specs.Fnv.{fnv}
use Rattle.block.specs.Parts.{byte_of}
use Rattle.block.specs.Content.{content_size}
use Rattle.block.specs.File.{blocks}

-- What stands in a file F

-- byte i of the content, which runs on through the blocks
unfoldable pub content_in : List ℕ → ℕ → ℕ
content_in F i = get_or F (i / 504 * 512 + 4 + i % 504) 0

-- word j of the tables
unfoldable pub word_in : List ℕ → ℕ → ℕ
word_in F j = content_in F (6 + 2 * j) + 256 * content_in F (6 + 2 * j + 1)

unfoldable pub numbers_in : List ℕ → Numbers
numbers_in F = record { n = content_in F 0; a = content_in F 1; b = content_in F 2; alternative = content_in F 3; gap = content_in F 4; helper = content_in F 5 }

-- which table of the file it is
abbrev pub place : Table → ℕ
place T.Domain = 0
place T.Loss = 1
place T.Give = 2

-- the domain (k = 0), loss (1) and give (2) words of n lots
unfoldable pub words_at : List ℕ → ℕ → ℕ → ℕ → ℕ
words_at F n k p = word_in F (k * n + p)

unfoldable pub words_in : List ℕ → ℕ → ℕ → List ℕ
words_in F n k = list_of (words_at F n k) n

-- word v of the pair p < q
unfoldable pub pair_word_in : List ℕ → ℕ → ℕ → ℕ → ℕ → ℕ
pair_word_in F n p q v = word_in F (3 * n + pair_number n p q * 16 + v)

-- whether lot p in slot v and lot q in slot w, p < q, may stand together
unfoldable pub pair_bit_in : List ℕ → ℕ → ℕ → ℕ → ℕ → ℕ → Bool
pair_bit_in F n p q w v = bit_of (pair_word_in F n p q v) w

-- the word for lot p in slot v beside lot q; the words of (q, p) follow by symmetry
unfoldable pub tie_in : List ℕ → ℕ → ℕ → ℕ → ℕ → ℕ
tie_in F n p v q =
    cond (ltb p q) (pair_word_in F n p q v)
    (cond (ltb q p) (word_of (pair_bit_in F n q p v) 16)
    0)

-- the tie table, packed by the file's own n
unfoldable pub ties_at : List ℕ → ℕ → ℕ → ℕ
ties_at F n i = tie_in F n (i / 16 / n) (i % 16) (i / 16 % n)

unfoldable pub ties_in : List ℕ → ℕ → List ℕ
ties_in F n = list_of (ties_at F n) (n * n * 16)

unfoldable pub week_of : Numbers → List ℕ → Week
week_of N F = week N (words_in F N.n 0) (words_in F N.n 1) (words_in F N.n 2) (ties_in F N.n)

-- the week that a file holds
abbrev pub week_in : List ℕ → Week
week_in F = week_of (numbers_in F) F

-- Which files are refused

-- 2: the lengths of the lent buffers
abbrev pub buffer_tests : ℕ → ℕ → ℕ → ℕ → List Bool
buffer_tests d l g t = eqb d 24 ∷ eqb l 24 ∷ eqb g 24 ∷ eqb t 9216 ∷ []

unfoldable pub buffers_ok : ℕ → ℕ → ℕ → ℕ → Bool
buffers_ok d l g t = all (buffer_tests d l g t)

-- 15: 1 to 18 whole blocks
unfoldable pub whole_blocks : List ℕ → Bool
whole_blocks F = leb 512 (length F) && (leb (length F) 9216 && eqb (length F % 512) 0)

-- the four bytes from `at` on are the number x
unfoldable pub byte_is : List ℕ → ℕ → ℕ → ℕ → Bool
byte_is F at x j = eqb (get_or F (at + j) 0) (byte_of x j)

unfoldable pub holds4 : List ℕ → ℕ → ℕ → Bool
holds4 F at x = every (byte_is F at x) 4

-- 16 and 17 of block b: its check, then its number
unfoldable pub block_refusal : List ℕ → ℕ → ℕ
block_refusal F b =
    or_else (unless (holds4 F (b * 512 + 508) (fnv (take 508 (drop (b * 512) F)))) 16)
    (unless (holds4 F (b * 512) b) 17)

-- 16 and 17 of the first m blocks
unfoldable pub blocks_refusal : List ℕ → ℕ → ℕ
blocks_refusal F zero = 0
blocks_refusal F (suc m) = or_else (blocks_refusal F m) (block_refusal F m)

-- 18: the rest of the last block is 0
unfoldable pub fills_at : List ℕ → ℕ → ℕ → Bool
fills_at F n i = eqb (content_in F (content_size n + i)) 0

unfoldable pub filling_ok : List ℕ → ℕ → Bool
filling_ok F n = every (fills_at F n) (blocks n * 504 - content_size n)

-- 1, 15, 18, 3 and 4, of what the blocks hold
unfoldable pub held_refusal : Week → List ℕ → ℕ
held_refusal W F =
    or_else (unless (numbers_ok W.numbers) 1)
    (or_else (unless (eqb (length F) (blocks (lots W) * 512)) 15)
    (or_else (unless (filling_ok F (lots W)) 18)
    (or_else (unless (words_ok (lots W) W.domain W.loss W.give) 3)
    (unless (ties_ok (pair_rules W)) 4))))

-- the refusal of a file, lent buffers aside
unfoldable pub file_refusal : List ℕ → ℕ
file_refusal F =
    or_else (unless (whole_blocks F) 15)
    (or_else (blocks_refusal F (length F / 512))
    (held_refusal (week_in F) F))

unfoldable pub read_refusal : List ℕ → List ℕ → List ℕ → List ℕ → List ℕ → ℕ
read_refusal F d l g t = or_else (unless (buffers_ok (length d) (length l) (length g) (length t)) 2) (file_refusal F)

-- What the code asks of the ties, each word of a pair p < q once: that is 4 of a file's week (proofs/Ties.antt, `ties_held`).
-- word i of the pairs' words has no slot outside the domains
unfoldable pub tie_held : List ℕ → ℕ → ℕ → Bool
tie_held F n i = inside (word_in F (3 * n + i)) (cond (bit_of (word_in F (low (pair_at n (i / 16)))) (i % 16)) (word_in F (high (pair_at n (i / 16)))) 0)

-- What read answers and gives, and the lent buffers afterwards
pub record Given : Type 0 where
  pub answer : ℕ
  pub numbers : Numbers
  pub domain : List ℕ
  pub loss : List ℕ
  pub give : List ℕ
  pub ties : List ℕ

abbrev pub given : ℕ → Numbers → List ℕ → List ℕ → List ℕ → List ℕ → Given
given k N d l g t = record { answer = k; numbers = N; domain = d; loss = l; give = g; ties = t }

abbrev pub no_numbers : Numbers
no_numbers = record { n = 0; a = 0; b = 0; alternative = 0; gap = 0; helper = 0 }

-- the numbers that read gives
abbrev pub numbers_of : Result Numbers Refusal → Numbers
numbers_of (Ok N) = N
numbers_of (Err _) = no_numbers

-- a week in the lent buffers, unused words 0
unfoldable pub given_week : Week → Given
given_week W = given 0 W.numbers (padded 24 W.domain) (padded 24 W.loss) (padded 24 W.give) (padded 9216 W.ties)

-- read of the file F into buffers d, l, g, t
unfoldable pub read_of : List ℕ → List ℕ → List ℕ → List ℕ → List ℕ → Given
read_of F d l g t = let k = read_refusal F d l g t in cond (eqb k 0) (given_week (week_in F)) (given k no_numbers d l g t)
