-- The pair rules of a week: which slots a lot may take, which two placed lots may stand together, and which orders keep the rules.
-- Lots are written p, q and slots v, w throughout; an order is the list of its lots' slots.
-- Assumes nothing.
use Rattle.std.specs.Prelude.{Bool, ◌&&◌, ◌||◌, not, List, ℕ, zero, suc, ◌+◌, ◌*◌, ◌/◌, ◌%◌, ◌^◌, eqb, ltb, length, get_or}
use Rattle.week.specs.declared.Rules.{Rules as Held}
use Rattle.lex.specs.Every.{imp, every, one_if}

-- the lots of a week, their domain words and the tie table
pub record Rules : Type 0 where
  pub lots : ℕ
  pub domain : List ℕ
  pub ties : List ℕ

abbrev pub rules : ℕ → List ℕ → List ℕ → Rules
rules n d t = record { lots = n; domain = d; ties = t }

-- the same, as the code holds them
abbrev pub rules_of : Held → Rules
rules_of r = rules r.lots r.domain.now r.ties.now

-- bit v of a 16-bit word; slots over 15 are in no word
unfoldable pub bit_of : ℕ → ℕ → Bool
bit_of x v = ltb v 16 && eqb (x / 2 ^ v % 2) 1

-- the word of the slots below k that pass f
unfoldable pub word_of : (ℕ → Bool) → ℕ → ℕ
word_of f zero = 0
word_of f (suc k) = word_of f k + one_if (f k) * 2 ^ k

-- every slot of word x is in word y
unfoldable pub inside : ℕ → ℕ → Bool
inside x y = every (λ v. imp (bit_of x v) (bit_of y v)) 16

-- slot v is in the domain of lot p
unfoldable pub in_domain : Rules → ℕ → ℕ → Bool
in_domain R p v = bit_of (get_or R.domain p 0) v

-- the word of the tie table for lot p in slot v beside lot q
unfoldable pub tie_word : ℕ → List ℕ → ℕ → ℕ → ℕ → ℕ
tie_word n t p v q = get_or t ((p * n + q) * 16 + v) 0

-- lot p in slot v and lot q in slot w may stand together
unfoldable pub together : Rules → ℕ → ℕ → ℕ → ℕ → Bool
together R p v q w = bit_of (tie_word R.lots R.ties p v q) w

-- lot p in slot v, if that is in its domain, may stand together with lot q in every slot of q's domain
unfoldable pub free : Rules → ℕ → ℕ → ℕ → Bool
free R p q v = every (λ w. imp (in_domain R p v && in_domain R q w) (together R p v q w)) 16

-- two different lots are tied if some slots of their domains may not stand together
unfoldable pub tied : Rules → ℕ → ℕ → Bool
tied R p q = not (eqb p q) && not (every (free R p q) 16)

-- An order, or the beginning of one, keeps the rules if each lot's slot is in its domain and every two different lots may stand together.

unfoldable pub slot_stands : Rules → List ℕ → ℕ → Bool
slot_stands R s p = in_domain R p (get_or s p 0)

unfoldable pub pair_stands : Rules → List ℕ → ℕ → ℕ → Bool
pair_stands R s p q = eqb p q || together R p (get_or s p 0) q (get_or s q 0)

unfoldable pub lot_stands : Rules → List ℕ → ℕ → Bool
lot_stands R s p = every (pair_stands R s p) (length s)

unfoldable pub keeps : Rules → List ℕ → Bool
keeps R s = every (slot_stands R s) (length s) && every (lot_stands R s) (length s)

-- What the code tests, each pair once: it is `keeps` where the tie table is symmetric (proofs/Standing.antt, `keeps_half_lem`).

-- lot p in slot v may stand together with lot q where s has it
unfoldable pub beside : Rules → List ℕ → ℕ → ℕ → ℕ → Bool
beside R s p v q = together R p v q (get_or s q 0)

-- lot p may take slot v beside the lots before p
unfoldable pub fits : Rules → List ℕ → ℕ → ℕ → Bool
fits R s p v = in_domain R p v && every (beside R s p v) p

unfoldable pub lot_fits : Rules → List ℕ → ℕ → Bool
lot_fits R s p = fits R s p (get_or s p 0)

unfoldable pub keeps_half : Rules → List ℕ → Bool
keeps_half R s = every (lot_fits R s) (length s)
