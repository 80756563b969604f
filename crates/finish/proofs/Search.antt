-- The search, way by way: the slots of one lot, each of which fails for a part of the order or leads on, and what is answered. Assumes nothing.
use mathlib.Core.Path.{◌≡◌, refl, sym, ◌∙◌, ap}
use mathlib.Core.Bool.{true, false, not}
use mathlib.Core.List.{List}
use Prim.Native.Nat.{ℕ, ◌+◌, ◌≤◌, ◌<◌}
use native.Mathlib.Decide.{dec_lt, ℕ_discrete}
use native.Mathlib.Omega.{arith}
use lib.ListN.{length, get_or, set, take, length-set}
use lib.Seq.{get_or-set_same, get_or-set_other, get_or-take}
use borrow.Author.Tests.{ne_eqb}
use Rattle.std.specs.Prelude.{Option, Some}
use Rattle.lex.specs.Every.{count}
use Rattle.lex.proofs.Every.{both, not_both}
use Rattle.week.specs.Rules.{bit_of}
use Rattle.week.specs.declared.Lot.{Lot}
use Rattle.week.specs.Tables.{Week, lots, pair_rules}
use Rattle.week.proofs.Standing.{Symmetric}
use Rattle.week.proofs.Tables.{accepted}
use Rattle.parts.specs.Part.{placed, unplaced, Extends, Full}
use Rattle.parts.proofs.Part.{extends_unset, count_place}
use Rattle.parts.proofs.Reason.{extends_trans, extends_apart, Join, merged_part, merged_more, merged_above}
use Rattle.cuts.specs.Cut.{robust_on}
use Rattle.cuts.specs.Hopes.{Forward, lives, hopes, Supers}
use Rattle.cuts.specs.Reasons.{None}
use Rattle.cuts.proofs.Hopes.{left_order, supers_under, hopes_tested}
use Rattle.cuts.proofs.Reasons.{left_part, starved_none}
use Rattle.cuts.proofs.Words.{alive_place, lives_word}
use Rattle.room.specs.Words.{met_word, Made}
use Rattle.hope.specs.Blame.{Merged, Bound, Blamed}
use Rattle.hope.specs.Safe.{Going}
use Rattle.finish.specs.Search.{Best, Chosen, Next, Held, Fed, Starves, Answers, Known}
use Rattle.finish.proofs.Next.{made_forward, met_left}

pub low_slot : {v most : ℕ} → v < most → most ≤ 16 → v < 16
low_slot l h = omega arith

module _ {W : Week} {s words : List ℕ} {x : ℕ} (c : Next W s words x) where
  mirror : Symmetric (pair_rules W)
  mirror = (accepted W c.going.fine).symmetric

  pub week_few : lots W ≤ 24
  week_few = (accepted W c.going.fine).limits.few

  pub inside : x < length s
  inside = omega (arith, c.lot, c.going.size, week_few)

  -- The slots of the lot

  -- it has no slots but those of its word
  pub bound_own : (word : ℕ) → word ≡ get_or words x 0 → Bound (pair_rules W) s x word
  bound_own word f = record { few = week_few; mirror = mirror; lot = c.lot; bound = λ v e. ap (λ (y : ℕ). bit_of y v) f ∙ c.going.forward x c.lot v ∙ e }

  module _ {v : ℕ} {r : List ℕ} (h : Held W s words x v r) where
    -- slot v is not left to it
    pub held_out : bit_of (get_or words x 0) v ≡ false → Held W s words x (v + 1) r
    held_out f = record {
      size = h.size;
      part = h.part;
      bound = h.bound;
      above = λ t q e.
          let b = h.above t q e in
          elim (dec_lt v (get_or t x 0)) [
            | yes l ↦ omega arith
            | no l ↦ absurd (not_both (h.bound (get_or t x 0) (left_order (pair_rules W) r t q.len q.good e x c.lot)) (ap (bit_of (get_or words x 0)) (omega arith) ∙ f))
          ];
    }

    -- it fails for t
    pub held_merge : (t m : List ℕ) → Extends (lots W) 16 t (set s x v) → None W t → Merged r t x m → Held W s words x (v + 1) m
    held_merge t m e f g = record {
      size = g.size;
      part = merged_part join;
      bound = λ w i. h.bound w (left_part (pair_rules W) r m (merged_more join) x w i);
      above = merged_above join (Supers W) h.above f;
    }
      where
        in_all : {p : ℕ} → p < lots W → p < 24
        in_all l = omega (arith, week_few)

        join : Join (lots W) 16 s r t x v m
        join = record { inside = inside; lot = c.lot; idle = c.idle; part = h.part; next = e; merges = record { own = λ p l. g.merges.own p (in_all l); other = λ p l. g.merges.other p (in_all l); self = λ l. g.merges.self (in_all l) } }

  -- slot v is tried
  module _ {v : ℕ} (low : v < 16) where
    -- it leaves no slot to lot q
    pub starved_bound : (q : ℕ) → Starves W words x v q → Bound (pair_rules W) (set s x v) q 0
    starved_bound q d = record {
      few = week_few;
      mirror = mirror;
      lot = d.lot;
      bound = λ u i. ap (λ (y : ℕ). bit_of y u) (sym d.none) ∙ met_left (pair_rules W) s words x v mirror inside c.lot c.idle low c.going.forward q d.lot u ∙ i;
    }

    pub starved_held : {r : List ℕ} (h : Held W s words x v r) (q : ℕ) → Starves W words x v q → (t m : List ℕ) → Blamed (pair_rules W) (set s x v) q 0 t → Merged r t x m → Held W s words x (v + 1) m
    starved_held h q d t m b g = held_merge h t m b.part (starved_none W t q d.lot b.bound) g

    -- it leaves one to each
    pub fed_going : {met : List ℕ} → bit_of (get_or words x 0) v ≡ true → Fed W s words x v (lots W) met → Going W (set s x v) met
    fed_going {met} own f = record {
      fine = c.going.fine;
      size = rw length-set c.going.size;
      forward = forward;
      narrow = f.made.narrow;
      live = alive_place (pair_rules W) s x v inside c.lot c.idle low mirror c.going.live (sym (c.going.forward x c.lot v) ∙ own) rest;
    }
      where
        forward : Forward (pair_rules W) (set s x v) met
        forward = made_forward (pair_rules W) s words met x v mirror inside c.lot c.idle low c.going.forward f.made

        rest : (p : ℕ) → p < lots W → 16 ≤ get_or (set s x v) p 0 → lives (pair_rules W) (set s x v) p ≡ true
        rest p l h = lives_word (pair_rules W) (set s x v) met forward p l (f.made.narrow p l) h ∙ ap not (ne_eqb (get_or met p 0) 0 (f.fed p l idle))
          where
            idle : 16 ≤ get_or s p 0
            idle = elim (ℕ_discrete p x) [
              | yes z ↦ absurd (let a = get_or-set_same s x v 0 inside in let b = ap (λ (y : ℕ). get_or (set s x v) y 0) z in omega arith)
              | no z ↦ rw (get_or-set_other s x p v 0 z) at h
            ]

    pub forward_next : {met : List ℕ} → Made (lots W) (met_word (lots W) W.ties words x v) met → Forward (pair_rules W) (set s x v) met
    forward_next {met} m = made_forward (pair_rules W) s words met x v mirror inside c.lot c.idle low c.going.forward m

  -- What is answered

  module _ {v : ℕ} {why : List ℕ} (held : Held W s words x v why) where
    -- lot y, or none, is next
    module _ (low : v < 16) where
      pub answer_next : (y : ℕ) (t : List ℕ) (most : ℕ) → Answers W (set s x v) y 16 true t → Answers W s x most true t
      answer_next y t most a =
          ((a.0.0, extends_unset (lots W) 16 s x v c.idle t a.0.1), λ l u q e. let b = held.above u q (extends_trans (lots W) 16 why s u held.part e) in rw (← there) b)
        where
          there : v ≡ get_or t x 0
          there = let e = get_or-set_same s x v 0 inside in sym (a.0.1 x c.lot (rw e low) ∙ e)

      -- t is why not
      module _ (y : ℕ) (t : List ℕ) (a : Answers W (set s x v) y 16 false t) where
        none : None W t
        none u q e = let b = a.1 u q e in let d = supers_under W u q y b.0 in let z = b.1 in omega arith

        -- it does not place the lot
        pub answer_jump : (most : ℕ) → 16 ≤ get_or t x 0 → Answers W s x most false t
        answer_jump most h = (extends_apart (lots W) 16 s t x v h a.0, λ u q e. absurd (none u q e))

        pub held_next : (m : List ℕ) → Merged why t x m → Held W s words x (v + 1) m
        held_next m g = held_merge held t m a.0 none g

  -- each call places one lot more
  pub next_less : (v : ℕ) → v < 16 → (t : List ℕ) → t ≡ set s x v → count (unplaced 16 t) (lots W) < count (unplaced 16 s) (lots W)
  next_less v low t e = let z = count_place (lots W) 16 s x v inside c.lot c.idle low in rw e (omega arith)

  -- a super solution is known already
  module _ {known : List ℕ} (k : Known W s known) where
    pub known_low : get_or known x 0 < 16
    known_low = rw (get_or-take (lots W) known x 0 c.lot) at (supers_under W (take (lots W) known) k.has x c.lot)

  -- it is any that is not placed
  pub best_next : Best (lots W) s (lots W) x
  best_next = record { high = (let l = c.lot in omega arith); idle = λ l. c.idle; full = λ e. absurd (let l = c.lot in omega arith) }

-- Before a lot is taken

module _ {W : Week} {s words : List ℕ} (g : Going W s words) {x : ℕ} (b : Best (lots W) s (lots W) x) where
  -- a safe one that places every lot is a super solution
  pub answer_full : (most : ℕ) → robust_on W (placed 16 s) s ≡ true → lots W ≤ x → Answers W s x most true s
  unfolding hopes
  answer_full most e h = (((hopes_tested W).exact s (let n = (accepted W g.fine).limits.few in omega (arith, g.size)) full (both g.live e), λ p l i. refl), λ l. absurd (omega arith))
    where
      full : Full (lots W) 16 s
      full p l = b.full (let z = b.high in omega arith) p l

-- the lot that is chosen is next
pub next_of : {W : Week} {s words : List ℕ} (o : Option Lot) (x : Lot) → o ≡ Some x → Going W s words → Chosen (lots W) s (lots W) o → Next W s words x.0
next_of o x e g b = let d = rw e at b in record { going = g; lot = d.0; idle = d.1.idle d.0 }
