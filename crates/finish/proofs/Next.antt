-- Forward words when one more lot is placed. Assumes nothing.
use mathlib.Core.Path.{◌≡◌, refl, sym, ◌∙◌, ap}
use mathlib.Core.List.{List}
use Prim.Native.Nat.{ℕ, ◌≤◌, ◌<◌}
use lib.ListN.{length, get_or, set}
use borrow.Author.Tests.{eq-eqb, ne_eqb}
use Rattle.lex.specs.Lists.{list_of}
use Rattle.lex.proofs.Lists.{list_at}
use Rattle.week.specs.Rules.{Rules, bit_of}
use Rattle.week.proofs.Standing.{Symmetric}
use Rattle.cuts.specs.Hopes.{is_left, Forward}
use Rattle.cuts.proofs.Words.{forward_place}
use Rattle.room.specs.Words.{met_in, met_word, Made}

-- lot x, which s does not place, gets slot v
pub made_forward : (R : Rules) (s words new : List ℕ) (x v : ℕ) → Symmetric R → x < length s → x < R.lots → 16 ≤ get_or s x 0 → v < 16 → Forward R s words → Made R.lots (met_word R.lots R.ties words x v) new → Forward R (set s x v) new
unfolding met_word met_in
made_forward R s words new x v mirror i l h g f m = forward_place R s x v i l h g mirror words new f (m.each x l ∙ rw (eq-eqb x x refl)) (λ p k d. m.each p k ∙ rw (ne_eqb p x d))

-- one lot's word then
pub met_left : (R : Rules) (s words : List ℕ) (x v : ℕ) → Symmetric R → x < length s → x < R.lots → 16 ≤ get_or s x 0 → v < 16 → Forward R s words → (q : ℕ) → q < R.lots → (w : ℕ) → bit_of (met_word R.lots R.ties words x v q) w ≡ is_left R (set s x v) q w
unfolding met_word met_in
met_left R s words x v mirror i l h g f q k w =
    ap (λ (y : ℕ). bit_of y w) (sym (at q k)) ∙ forward_place R s x v i l h g mirror words (list_of new R.lots) f (at x l ∙ rw (eq-eqb x x refl)) (λ p m d. at p m ∙ rw (ne_eqb p x d)) q k w
  where
    new : ℕ → ℕ
    new = met_word R.lots R.ties words x v

    at : (p : ℕ) → p < R.lots → get_or (list_of new R.lots) p 0 ≡ new p
    at p m = list_at new R.lots p m
