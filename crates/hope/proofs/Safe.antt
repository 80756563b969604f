-- A loss judged: by a free slot for each lost lot, or by the search for a repair. What the code knows after each loss, and at the end; and parts of the
-- order that have the break too.
-- Assumes nothing.
use mathlib.Core.Path.{◌≡◌, refl, sym, ◌∙◌, ap}
use mathlib.Core.Bool.{Bool, true, false, ◌&&◌, ◌||◌, not, and-true, and-false, or-false, or_self, or-true}
use mathlib.Core.List.{List}
use Prim.Native.Nat.{ℕ, ◌+◌, ◌-◌, ◌*◌, ◌%◌, ◌^◌, ◌≤◌, ◌<◌}
use native.Mathlib.Decide.{dec_lt, ℕ_discrete}
use native.Mathlib.Omega.{arith}
use lib.Bits.{bit_and, bit_or, and_lt}
use lib.Dec.{eqb, ltb, leb}
use lib.ListN.{get_or, set, length-set}
use lib.Seq.{get_or-set_same, get_or-set_other}
use Rattle.std.proofs.lemmas.Nat.{and_le_r}
use borrow.Author.Tests.{ltb-true, lt-ltb, leb-true, le-leb, eqb-true, eqb-false, ne_eqb, not-true}
use Rattle.lex.specs.Every.{imp, every, every_of, some_of}
use Rattle.lex.proofs.Every.{both, and_left, and_right, not_both, imp_in, imp_out, every_at}
use Rattle.std.specs.Prelude.{Result, Ok, Err, MatchResult}
use Rattle.week.specs.declared.Numbers.{Numbers}
use Rattle.week.specs.Rules.{bit_of, tie_word, together}
use Rattle.week.specs.Tables.{Week, lots, pair_rules}
use Rattle.week.proofs.Tables.{accepted}
use Rattle.week.proofs.Words.{bit_and_lem, bit_or_lem, bit_zero, bit_below}
use Rattle.repair.specs.declared.Lost.{Lost}
use Rattle.pairs.specs.Pairs.{pair}
use Rattle.repair.specs.Break.{single, breaks}
use Rattle.repair.specs.Found.{lots_of}
use Rattle.repair.specs.Repair.{is_lost, replaces, helps}
use Rattle.robust.proofs.Rows.{lost_single, lost_pair, Row, row_single, row_pair}
use Rattle.robust.proofs.Super.{single_make, pair_make, sets_make}
use Rattle.parts.specs.Part.{placed}
use Rattle.cuts.specs.Cut.{mended_on, safe_on, robust_on}
use Rattle.cuts.specs.Hopes.{is_left}
use Rattle.cuts.specs.Reasons.{None, Why, asked, Struck, Exclusive}
use Rattle.cuts.proofs.Free.{free_mended}
use Rattle.cuts.proofs.Reasons.{safe_whole, safe_repaired, alive_part}
use Rattle.cuts.proofs.Words.{word_some}
use Rattle.room.specs.Words.{met_by, Made}
use Rattle.room.proofs.Words.{words_forward}
use Rattle.mend.specs.Mend.{Roomed}
use Rattle.hope.specs.declared.Unmended.{Unmended}
use Rattle.hope.specs.Blame.{Part, Merged, Bound, Blamed, OwnGroups}
use Rattle.hope.proofs.Own.{own_exclusive}
use Rattle.hope.specs.Safe.{leaves, Frees, Freed, Paired, risks, SafeSingles, SafePartners, SafePairs, Verdict, Going, Judging}

-- a part of the order that has the break
pub struck_part : (W : Week) (s r A : List ℕ) → Struck W s A → Part (lots W) s r → breaks W.loss r A ≡ true → Struck W r A
struck_part W s r A c m e = record { fine = c.fine; live = alive_part (pair_rules W) r s m.part c.live; row = c.row; low = c.low; set = c.set; broken = e }

-- and no repair for it, or all of the order
pub why_part : (W : Week) (s r : List ℕ) → Part (lots W) s r → None W r → Why W s r
why_part W s r m f = record { part = m.part; none = f }

-- Free slots

leaves_make : (N : Numbers) (w v : ℕ) → (eqb N.helper 1 ≡ true → w ≤ v) → (w ≡ v → ⊥) → (eqb N.alternative 1 ≡ true → w + N.gap < v) → leaves N w v ≡ true
unfolding leaves helps replaces
leaves_make N w v h d g = both (imp_in (eqb N.helper 1) (leb w v) (λ e. le-leb w v (h e))) (both (ap not (ne_eqb w v d)) (imp_in (eqb N.alternative 1) (ltb (w + N.gap) v) (λ e. lt-ltb (w + N.gap) v (g e))))

-- the words of the slots from k on, beyond k, and but k: slot by slot
from_table : every (λ k. every (λ v. imp (bit_of (65535 * 2 ^ k % 65536) v) (leb k v)) 16) 16 ≡ true
unfolding every bit_of
from_table = refl

beyond_table : every (λ k. every (λ v. imp (bit_of (65534 * 2 ^ k % 65536) v) (ltb k v)) 16) 16 ≡ true
unfolding every bit_of
beyond_table = refl

but_table : every (λ k. every (λ v. imp (bit_of (65535 - 1 * 2 ^ k % 65536) v) (not (eqb k v))) 16) 16 ≡ true
unfolding every bit_of
but_table = refl

in_table : (word : ℕ → ℕ) (f : ℕ → ℕ → Bool) → every (λ k. every (λ v. imp (bit_of (word k) v) (f k v)) 16) 16 ≡ true → (k v : ℕ) → k < 16 → bit_of (word k) v ≡ true → f k v ≡ true
in_table word f e k v l b = imp_out (bit_of (word k) v) (f k v) (every_at (λ v. imp (bit_of (word k) v) (f k v)) 16 v (every_at (λ k. every (λ v. imp (bit_of (word k) v) (f k v)) 16) 16 k e l) (bit_below (word k) v b)) b

module _ (N : Numbers) (w : ℕ) where
  pub frees_none : Frees N w 0
  frees_none v e = absurd (not_both e (bit_zero v))

  -- beyond the gap
  pub frees_gap : (k : ℕ) → k ≡ w + N.gap + 1 → k < 16 → Frees N w (65535 * 2 ^ k % 65536)
  frees_gap k is l v e =
      let h = leb-true k v (in_table (λ k. 65535 * 2 ^ k % 65536) leb from_table k v l e) in
      leaves_make N w v (λ z. omega arith) (λ z. omega arith) (λ z. omega arith)

  module _ (free : N.alternative ≡ 1 → ⊥) (low : w < 16) where
    pub frees_help : Frees N w (65534 * 2 ^ w % 65536)
    frees_help v e =
        let h = ltb-true w v (in_table (λ k. 65534 * 2 ^ k % 65536) ltb beyond_table w v low e) in
        leaves_make N w v (λ z. omega arith) (λ z. omega arith) (λ z. absurd (free (eqb-true N.alternative 1 z)))

    pub frees_else : (N.helper ≡ 1 → ⊥) → Frees N w (65535 - 1 * 2 ^ w % 65536)
    frees_else d v e =
        let h = not-true (eqb w v) (in_table (λ k. 65535 - 1 * 2 ^ k % 65536) (λ k v. not (eqb k v)) but_table w v low e) in
        leaves_make N w v (λ z. absurd (d (eqb-true N.helper 1 z))) (eqb-false w v h) (λ z. absurd (free (eqb-true N.alternative 1 z)))

-- the word of one lot more is made
module _ {N : Numbers} {s words : List ℕ} {k : ℕ} {free : List ℕ} (c : Freed N s words k free) (own word slot : ℕ) (l : k < 24) (is : own ≡ get_or words k 0) (at : slot ≡ get_or s k 0) (f : Frees N slot word) (a : own < 2 ^ 16) (b : word < 2 ^ 16) where
  abbrev new : List ℕ
  new = set free k (bit_and own word)

  here : get_or new k 0 ≡ bit_and own word
  here = get_or-set_same free k (bit_and own word) 0 (omega (arith, c.size))

  pub freed_next : Freed N s words (k + 1) new
  freed_next = record {
    size = rw length-set c.size;
    left = λ p i v e. elim (ℕ_discrete p k) [
      | yes z ↦ rw (z, ← is) (and_left (bit_of own v) (bit_of word v) (sym (bit_and_lem own word v) ∙ rw (z, here) at e))
      | no z ↦ c.left p (omega arith) v (rw (get_or-set_other free k p (bit_and own word) 0 z) at e)
    ];
    goes = λ p i v e. elim (ℕ_discrete p k) [
      | yes z ↦ rw (z, ← at) (f v (and_right (bit_of own v) (bit_of word v) (sym (bit_and_lem own word v) ∙ rw (z, here) at e)))
      | no z ↦ c.goes p (omega arith) v (rw (get_or-set_other free k p (bit_and own word) 0 z) at e)
    ];
    narrow = λ p i. elim (ℕ_discrete p k) [
      | yes z ↦ rw (z, here) (and_lt 16 own word a b)
      | no z ↦ rw (get_or-set_other free k p (bit_and own word) 0 z) (c.narrow p (omega arith))
    ];
  }

-- two words with slots that may stand together
pub paired : (n : ℕ) (ties : List ℕ) (x first y last v tie : ℕ) → bit_of first v ≡ true → tie ≡ tie_word n ties x v y → last < 2 ^ 16 → (bit_and tie last ≡ 0 → ⊥) → Paired n ties x first y last
paired n ties x first y last v tie e f b d =
    let m = word_some (bit_and tie last) (omega (arith, and_le_r tie last)) d in
    let g = sym (bit_and_lem tie last m.0) ∙ m.1 in
    record { v = v; w = m.0; one = e; other = and_right (bit_of tie m.0) (bit_of last m.0) g; beside = rw (← f) (and_left (bit_of tie m.0) (bit_of last m.0) g) }

-- Verdicts

-- what is asked of a loss answers what is asked of the lots
pub verdict_by : (W : Week) (s : List ℕ) {A B : Type 0} (r : Result Unit Unmended) → (A → B) → Verdict W s A r → Verdict W s B r
verdict_by W s (Ok u) f h = f h
verdict_by W s (Err e) f h = h

-- a loop over the lots at risk from the first one on: of each it knows P, or N of the one where it stops
abbrev pub Looked : Week → List ℕ → ℕ → (ℕ → Type 0) → (ℕ → Unmended → Type 0) → Result Unit Unmended → Type 0
Looked W s first P N r =
    MatchResult r (λ _. (p : ℕ) → first ≤ p → (p < lots W) × (risks W.loss s p ≡ true) → P p) (λ e. (p : ℕ) × N p e)

-- where it stops is a break without a repair
abbrev pub Dooms : Week → List ℕ → (ℕ → Unmended → Type 0) → Type 0
Dooms W s N = (p : ℕ) (e : Unmended) → N p e → Struck W s (lots_of e.lost) × None W s

-- the lots at risk are safe, and so is any other
module _ (W : Week) (s : List ℕ) (first : ℕ) (B : ℕ → Type 0) (calm : (p : ℕ) → risks W.loss s p ≡ false → B p) {P : ℕ → Type 0} {N : ℕ → Unmended → Type 0}
    (f : (p : ℕ) → P p → B p) (g : Dooms W s N) where
  verdict_each : (r : Result Unit Unmended) → Looked W s first P N r → Verdict W s ((p : ℕ) → first ≤ p → p < lots W → B p) r
  verdict_each (Ok u) h = λ p l m. go p l m (risks W.loss s p) refl
    where
      go : (p : ℕ) → first ≤ p → p < lots W → (b : Bool) → risks W.loss s p ≡ b → B p
      go p l m true e = f p (h p l (m, e))
      go p l m false e = calm p e
  verdict_each (Err e) h = g h.0 e h.1

-- Losses of placed lots

lost_one : (x p : ℕ) → is_lost (single x) p ≡ (eqb p x || eqb p x)
unfolding is_lost single some_of
lost_one x p = or-false (eqb p x) ∙ sym (or_self (eqb p x))

lost_two : (x y p : ℕ) → is_lost (pair x y) p ≡ (eqb p x || eqb p y)
unfolding is_lost pair some_of
lost_two x y p = ap (λ (b : Bool). eqb p x || b) (or-false (eqb p y))

risk_one : (loss s : List ℕ) (p : ℕ) → breaks loss s (single p) ≡ risks loss s p
unfolding breaks single every_of risks
risk_one loss s p = and-true (risks loss s p)

risk_two : (loss s : List ℕ) (p q : ℕ) → breaks loss s (pair p q) ≡ (risks loss s p && risks loss s q)
unfolding breaks pair every_of risks
risk_two loss s p q = ap (λ (b : Bool). risks loss s p && b) (and-true (risks loss s q))

module _ {W : Week} {s words : List ℕ} (g : Going W s words) where
  struck : (A : List ℕ) → Row (lots W) W.numbers.a A → breaks W.loss s A ≡ true → Struck W s A
  struck A r e = record { fine = g.fine; live = g.live; row = r.at; low = r.low; set = r.set; broken = e }

  pub one_struck : (p : ℕ) → p < lots W → (L : Lost) → (L.0.0 ≡ p) × (L.1.0 ≡ p) → 1 ≤ W.numbers.a → risks W.loss s p ≡ true → Struck W s (lots_of L)
  one_struck p l L is h e = rw (lost_single p L is.0 is.1) (struck (single p) (row_single (lots W) W.numbers.a p h l) (risk_one W.loss s p ∙ e))

module _ {W : Week} {s words free : List ℕ} (c : Judging W s words free) where
  abbrev safe_for : List ℕ → Type 0
  safe_for A = safe_on W (placed 16 s) s A ≡ true

  abbrev mended_for : List ℕ → Type 0
  mended_for A = mended_on (pair_rules W) (asked W s A) (placed 16 s) ≡ true

  pub judging_few : lots W ≤ 24
  judging_few = (accepted W c.going.fine).limits.few

  free_left : (p v : ℕ) → p < lots W → bit_of (get_or free p 0) v ≡ true → is_left (pair_rules W) s p v ≡ true
  free_left p v l e = sym (c.going.forward p l v) ∙ c.freed.left p l v e

  -- one lot
  module _ (p : ℕ) (l : p < lots W) (L : Lost) (is : (L.0.0 ≡ p) × (L.1.0 ≡ p)) where
    lots_one : lots_of L ≡ single p
    lots_one = lost_single p L is.0 is.1

    pub one_mended : risks W.loss s p ≡ true → mended_for (lots_of L) → safe_for (single p)
    one_mended e f = safe_repaired W s (single p) (risk_one W.loss s p ∙ e) (rw lots_one at f)

  pub one_calm : (p : ℕ) → risks W.loss s p ≡ false → safe_for (single p)
  one_calm p e = safe_whole W s (single p) (risk_one W.loss s p ∙ e)

  pub one_free : (p : ℕ) → p < lots W → risks W.loss s p ≡ true → (get_or free p 0 ≡ 0 → ⊥) → safe_for (single p)
  unfolding leaves
  one_free p l e d =
      let m = word_some (get_or free p 0) (c.freed.narrow p l) d in
      safe_repaired W s (single p) (risk_one W.loss s p ∙ e) (free_mended {x = p} {v = m.0} {y = p} {w = m.0} (record {
        mirror = (accepted W c.going.fine).symmetric;
        live = c.going.live;
        lot_x = l;
        lot_y = l;
        lost = lost_one p;
        left_x = free_left p m.0 l m.1;
        left_y = free_left p m.0 l m.1;
        go_x = c.freed.goes p l m.0 m.1;
        go_y = c.freed.goes p l m.0 m.1;
        beside = λ z. absurd (z refl);
      }))

  -- two lots
  module _ (p q : ℕ) (l : p < q) (i : q < lots W) (L : Lost) (is : (L.0.0 ≡ p) × (L.1.0 ≡ q)) where
    lots_two : lots_of L ≡ pair p q
    lots_two = lost_pair p q L is.0 is.1 l

    pub two_struck : 2 ≤ W.numbers.a → risks W.loss s p ≡ true → risks W.loss s q ≡ true → Struck W s (lots_of L)
    two_struck h e f = rw lots_two (struck c.going (pair p q) (row_pair (lots W) W.numbers.a p q h l i) (risk_two W.loss s p q ∙ both e f))

    pub two_mended : risks W.loss s p ≡ true → risks W.loss s q ≡ true → mended_for (lots_of L) → safe_for (pair p q)
    two_mended e f g = safe_repaired W s (pair p q) (risk_two W.loss s p q ∙ both e f) (rw lots_two at g)

  pub two_calm : (p q : ℕ) → risks W.loss s q ≡ false → safe_for (pair p q)
  two_calm p q e = safe_whole W s (pair p q) (risk_two W.loss s p q ∙ ap (λ (b : Bool). risks W.loss s p && b) e ∙ and-false (risks W.loss s p))

  -- lot p is not at risk
  pub partners_calm : (p : ℕ) → risks W.loss s p ≡ false → SafePartners W s p
  partners_calm p e q g l = safe_whole W s (pair p q) (risk_two W.loss s p q ∙ ap (λ (b : Bool). b && risks W.loss s q) e)

  pub two_free : (p q : ℕ) → p < lots W → q < lots W → risks W.loss s p ≡ true → risks W.loss s q ≡ true → (a b : ℕ) → a ≡ get_or free p 0 → b ≡ get_or free q 0 → Paired (lots W) W.ties p a q b → safe_for (pair p q)
  unfolding leaves together
  two_free p q l i e f a b x y m =
      let one = rw x at m.one in
      let other = rw y at m.other in
      safe_repaired W s (pair p q) (risk_two W.loss s p q ∙ both e f) (free_mended {x = p} {v = m.v} {y = q} {w = m.w} (record {
        mirror = (accepted W c.going.fine).symmetric;
        live = c.going.live;
        lot_x = l;
        lot_y = i;
        lost = lost_two p q;
        left_x = free_left p m.v l one;
        left_y = free_left q m.w i other;
        go_x = c.freed.goes p l m.v one;
        go_y = c.freed.goes q i m.w other;
        beside = λ z. m.beside;
      }))

  module _ {P : ℕ → Type 0} {N : ℕ → Unmended → Type 0} where
    pub singles_verdict : (r : Result Unit Unmended) → Looked W s 0 P N r → ((p : ℕ) → P p → safe_for (single p)) → Dooms W s N → Verdict W s (SafeSingles W s) r
    singles_verdict r h f g =
        verdict_by W s {B = SafeSingles W s} r (λ k p l. k p (omega arith) l) (verdict_each W s 0 (λ p. safe_for (single p)) one_calm f g r h)

    pub partners_verdict : (x : ℕ) (r : Result Unit Unmended) → Looked W s (x + 1) P N r → ((p : ℕ) → P p → safe_for (pair x p)) → Dooms W s N → Verdict W s (SafePartners W s x) r
    partners_verdict x r h f g =
        verdict_by W s {B = SafePartners W s x} r (λ k q l m. k q (omega arith) m) (verdict_each W s (x + 1) (λ q. safe_for (pair x q)) (two_calm x) f g r h)

    pub pairs_verdict : (r : Result Unit Unmended) → Looked W s 0 P N r → ((p : ℕ) → P p → SafePartners W s p) → Dooms W s N → Verdict W s (SafePairs W s) r
    pairs_verdict r h f g =
        verdict_by W s {B = SafePairs W s} r (λ k p l. k p (omega arith) l) (verdict_each W s 0 (SafePartners W s) partners_calm f g r h)

-- every loss is judged
module _ {W : Week} {s words : List ℕ} (g : Going W s words) where
  abbrev Robust : Type 0
  Robust = robust_on W (placed 16 s) s ≡ true

  robust_all : (0 < W.numbers.a → SafeSingles W s) → (1 < W.numbers.a → SafePairs W s) → Robust
  unfolding robust_on
  robust_all f h =
      sets_make (safe_on W (placed 16 s) s) (lots W) W.numbers.a
      (λ l. single_make (safe_on W (placed 16 s) s) (lots W) (f l))
      (λ l. pair_make (safe_on W (placed 16 s) s) (lots W) (λ p q i m. h l p (omega arith) q i m))

  pub robust_none : W.numbers.a < 1 → Robust
  robust_none l = robust_all (λ h. absurd (omega arith)) (λ h. absurd (omega arith))

  pub robust_ones : W.numbers.a < 2 → SafeSingles W s → Robust
  robust_ones l f = robust_all (λ h. f) (λ h. absurd (omega arith))

  pub verdict_all : (r : Result Unit Unmended) → SafeSingles W s → Verdict W s (SafePairs W s) r → Verdict W s Robust r
  verdict_all (Ok u) f h = robust_all (λ l. f) (λ l. h)
  verdict_all (Err e) f h = h

-- Room

pub part_fewer : {n : ℕ} {s r : List ℕ} → n ≤ 24 → Part 24 s r → Part n s r
part_fewer h m = record { size = m.size; part = λ p l. m.part p (omega arith) }

-- parts of one order merged are a part of it
pub part_merged : {n : ℕ} {s a b r : List ℕ} {x : ℕ} → n ≤ 24 → Part n s a → Part n s b → Merged a b x r → Part n s r
part_merged {n} {s} {a} {b} {r} {x} k f g m = record {
  size = m.size;
  part = λ p l h. elim (dec_lt (get_or a p 0) 16) [
    | yes i ↦ let e = m.merges.own p (omega arith) i in f.part p l i ∙ sym e
    | no i ↦ elim (ℕ_discrete p x) [
      | yes z ↦
          let u : x < 24 = omega arith in
          let w = ap (λ (q : ℕ). get_or a q 0) z in
          let t : 16 ≤ get_or a x 0 = omega arith in
          absurd (let y = m.merges.self u t in let o = ap (λ (q : ℕ). get_or r q 0) z in omega arith)
      | no z ↦ let e = m.merges.other p (omega arith) (omega arith) z in g.part p l (rw e at h) ∙ sym e
    ]
  ];
}

module _ {W : Week} {s words : List ℕ} (g : Going W s words) where
  pub going_few : lots W ≤ 24
  going_few = (accepted W g.fine).limits.few

  -- a lot's own slots are among those of its group
  pub pressed_bound : (q own word : ℕ) → q < lots W → word ≡ get_or words q 0 → Bound (pair_rules W) s q (bit_or own word)
  pressed_bound q own word l f = record {
    few = going_few;
    mirror = (accepted W g.fine).symmetric;
    lot = l;
    bound = λ v e. bit_or_lem own word v ∙ rw (ap (λ (y : ℕ). bit_of y v) f ∙ g.forward q l v ∙ e, or-true);
  }

  pub pressed_part : (q target : ℕ) (r : List ℕ) → Blamed (pair_rules W) s q target r → Part (lots W) s r
  pressed_part q target r b = record { size = b.size; part = b.part }

-- the words that a part of the order leaves, and the groups of the lots that wait beside the order, serve where room is asked
pub alone_roomed : (W : Week) (s words groups r left own : List ℕ) → Going W s words → Exclusive W groups → Made (lots W) (met_by (lots W) W.ties W.domain r (lots W)) left → OwnGroups s groups (lots W) own → Roomed W r left own
alone_roomed W s words groups r left own g x m o = record { forward = words_forward (pair_rules W) r left (accepted W g.fine).symmetric m; exclusive = own_exclusive W s groups own x o }
