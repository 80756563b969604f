-- The six numbers and four tables of a week, and which of them are accepted: refusals 1 to 4.
-- Assumes nothing.
use Rattle.std.specs.Prelude.{Bool, true, ◌&&◌, not, cond, List, [], ◌∷◌, ℕ, ◌+◌, ◌*◌, eqb, leb, length, get_or}
use Rattle.std.specs.Bool.{beq}
use Rattle.lex.specs.Every.{imp, all, every}
use Rattle.week.specs.declared.Numbers.{Numbers}
use Rattle.week.specs.declared.Week.{Week as Lent}
use Rattle.week.specs.Refusal.{unless, or_else}
use Rattle.week.specs.Rules.{Rules, rules, bit_of, inside, in_domain, together}

pub record Week : Type 0 where
  pub numbers : Numbers
  pub domain : List ℕ
  pub loss : List ℕ
  pub give : List ℕ
  pub ties : List ℕ

abbrev pub week : Numbers → List ℕ → List ℕ → List ℕ → List ℕ → Week
week N d l g t = record { numbers = N; domain = d; loss = l; give = g; ties = t }

-- the same, as a caller lends it
abbrev pub lent : Lent → Week
lent w = week w.numbers w.domain.now w.loss.now w.give.now w.ties.now

abbrev pub lots : Week → ℕ
lots W = W.numbers.n

abbrev pub pair_rules : Week → Rules
pair_rules W = rules (lots W) W.domain W.ties

-- 1: every number within its limits; the gap is 0 where the alternative rule is 0
abbrev pub number_tests : Numbers → List Bool
number_tests N =
    leb 1 N.n
    ∷ leb N.n 24
    ∷ leb N.a 2
    ∷ leb N.b 3
    ∷ leb N.alternative 1
    ∷ leb N.gap 15
    ∷ imp (eqb N.alternative 0) (eqb N.gap 0)
    ∷ leb N.helper 1
    ∷ []

unfoldable pub numbers_ok : Numbers → Bool
numbers_ok N = all (number_tests N)

-- 2: n words in each of the three word tables, n × n × 16 in the tie table
abbrev pub length_tests : ℕ → List ℕ → List ℕ → List ℕ → List ℕ → List Bool
length_tests n d l g t = eqb (length d) n ∷ eqb (length l) n ∷ eqb (length g) n ∷ eqb (length t) (n * n * 16) ∷ []

unfoldable pub lengths_ok : ℕ → List ℕ → List ℕ → List ℕ → List ℕ → Bool
lengths_ok n d l g t = all (length_tests n d l g t)

-- 3: of one lot: the domain d is not empty, loss word l and give word g have no slot outside it
abbrev pub lot_tests : ℕ → ℕ → ℕ → List Bool
lot_tests d l g = not (eqb d 0) ∷ inside l d ∷ inside g d ∷ []

unfoldable pub lot_ok : ℕ → ℕ → ℕ → Bool
lot_ok d l g = all (lot_tests d l g)

unfoldable pub lot_ok_at : List ℕ → List ℕ → List ℕ → ℕ → Bool
lot_ok_at d l g p = lot_ok (get_or d p 0) (get_or l p 0) (get_or g p 0)

unfoldable pub words_ok : ℕ → List ℕ → List ℕ → List ℕ → Bool
words_ok n d l g = every (lot_ok_at d l g) n

-- 4: of one bit: none outside the two domains, none of a lot with itself, and (p, v, q, w) agrees with (q, w, p, v)
unfoldable pub bit_ok : Rules → ℕ → ℕ → ℕ → ℕ → Bool
bit_ok R p q v w =
    imp (together R p v q w) (in_domain R p v && (in_domain R q w && not (eqb p q)))
    && beq (together R p v q w) (together R q w p v)

unfoldable pub word_ok : Rules → ℕ → ℕ → ℕ → Bool
word_ok R p q v = every (bit_ok R p q v) 16

unfoldable pub pair_ok : Rules → ℕ → ℕ → Bool
pair_ok R p q = every (word_ok R p q) 16

unfoldable pub lot_ties_ok : Rules → ℕ → Bool
lot_ties_ok R p = every (pair_ok R p) R.lots

unfoldable pub ties_ok : Rules → Bool
ties_ok R = every (lot_ties_ok R) R.lots

-- What the code tests: whole words, each pair once (proofs/Tables.antt, `word_out`, `ties_half`).

-- the slots of lot q that the word for lot p in slot v may have
unfoldable pub may_have : List ℕ → ℕ → ℕ → ℕ → ℕ
may_have d p q v = cond (eqb p q) 0 (cond (bit_of (get_or d p 0) v) (get_or d q 0) 0)

-- lot p beside the lots before it and itself
unfoldable pub lot_ties_half : Rules → ℕ → Bool
lot_ties_half R p = every (pair_ok R p) (p + 1)

-- Refusals 1 to 4 of a service, which may have tests of its own of kind 1 (`one`) and of kind 2 (`two`)
unfoldable pub admits : Bool → Bool → Week → ℕ
admits one two W =
    or_else (unless (one && numbers_ok W.numbers) 1)
    (or_else (unless (two && lengths_ok (lots W) W.domain W.loss W.give W.ties) 2)
    (or_else (unless (words_ok (lots W) W.domain W.loss W.give) 3)
    (unless (ties_ok (pair_rules W)) 4)))

-- the refusal of a week's numbers and tables alone, 0 where they are accepted
abbrev pub refusal : Week → ℕ
refusal W = admits true true W

-- The same from a judgement `judged` of the numbers and tables: what the code does, so that the tables are judged once
-- (proofs/Tables.antt, `joined_admits`)
unfoldable pub joined : Bool → Bool → ℕ → ℕ
joined one two judged = cond one (cond (eqb judged 1) 1 (cond two judged 2)) 1
