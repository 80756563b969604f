-- The content of a week's file, byte by byte.
-- Assumes nothing.
use Rattle.std.specs.Prelude.{cond, [], ◌∷◌, ℕ, ◌+◌, ◌*◌, ◌-◌, ◌/◌, ◌%◌, ltb, get_or}
use Rattle.week.specs.declared.Numbers.{Numbers}
use Rattle.week.specs.Rules.{tie_word}
use Rattle.week.specs.Tables.{Week, lots}
use Rattle.pairs.specs.Pairs.{pair_at, low, high}
use Rattle.block.specs.Parts.{byte_of}

-- n, a, b, alternative rule, k, helper rule
unfoldable pub number_at : Numbers → ℕ → ℕ
number_at N i = get_or (N.n ∷ N.a ∷ N.b ∷ N.alternative ∷ N.gap ∷ N.helper ∷ []) i 0

-- word v of the 16 words of pair r
unfoldable pub pair_word : Week → ℕ → ℕ → ℕ
pair_word W r v = tie_word (lots W) W.ties (low (pair_at (lots W) r)) v (high (pair_at (lots W) r))

-- word j of the tables: domain, loss and give words, then for each pair p < q the 16 words of (p, q)
unfoldable pub table_word : Week → ℕ → ℕ
table_word W j =
    cond (ltb j (lots W)) (get_or W.domain j 0)
    (cond (ltb j (2 * lots W)) (get_or W.loss (j - lots W) 0)
    (cond (ltb j (3 * lots W)) (get_or W.give (j - 2 * lots W) 0)
    (pair_word W ((j - 3 * lots W) / 16) ((j - 3 * lots W) % 16))))

-- how many bytes the content of n lots has
unfoldable pub content_size : ℕ → ℕ
content_size n = 6 + 6 * n + 16 * (n * (n - 1))

-- byte i of the content: the six numbers, the words, little endian, and 0 in the rest of the last block
unfoldable pub content_byte : Week → ℕ → ℕ
content_byte W i =
    cond (ltb i 6) (number_at W.numbers i)
    (cond (ltb i (content_size (lots W))) (byte_of (table_word W ((i - 6) / 2)) ((i - 6) % 2))
    0)
