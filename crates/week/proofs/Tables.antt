-- Laws of the refusals 1 to 4: what accepted numbers and tables satisfy, and what the code's half of the pairs shows.
-- Assumes nothing.
use mathlib.Core.Path.{◌≡◌, refl, sym, ◌∙◌, ap, subst₂}
use mathlib.Core.Bool.{Bool, true, false, ◌&&◌, not, cond, beq, true≢false}
use mathlib.Core.List.{List}
use Prim.Native.Nat.{ℕ, zero, suc, ◌+◌, ◌*◌, ◌≤◌, ◌<◌}
use native.Mathlib.Omega.{arith}
use native.Mathlib.Decide.{dec_lt}
use lib.Dec.{eqb}
use lib.ListN.{length, get_or}
use borrow.Author.Tests.{leb-true, le-leb, eqb-true, eqb-false, eq-eqb, ne_eqb, not-true}
use Rattle.lex.specs.Every.{imp, every}
use Rattle.lex.proofs.Every.{both, and_left, and_right, false_of, not_both, same_truth, imp_in, imp_out, each, each_all, every_true, every_at, every_cong}
use Rattle.week.specs.declared.Numbers.{Numbers}
use Rattle.week.specs.Rules.{Rules, bit_of, inside, in_domain, tie_word, together, keeps, keeps_half}
use Rattle.week.specs.Refusal.{unless, or_else}
use Rattle.week.specs.Tables.{Week, lots, pair_rules, refusal, admits, joined, number_tests, numbers_ok, length_tests, lengths_ok, words_ok, bit_ok, word_ok, may_have, pair_ok, lot_ties_ok, lot_ties_half, ties_ok}
use Rattle.week.proofs.Words.{bit_zero, inside_at}
use Rattle.week.proofs.Standing.{Symmetric, keeps_half_lem}

-- Chains of checks

-- the first check refuses
pub stops : (ok : Bool) (k b : ℕ) → ok ≡ false → (k ≡ 0 → ⊥) → k ≡ or_else (unless ok k) b
stops ok k b e h = sym (ap (λ (t : Bool). or_else (unless t k) b) e ∙ ap (λ (t : Bool). cond t b k) (ne_eqb k 0 h))

-- the first check passes
pub goes_on : {x : ℕ} (ok : Bool) (k b : ℕ) → ok ≡ true → x ≡ b → x ≡ or_else (unless ok k) b
goes_on ok k b e f = f ∙ sym (ap (λ (t : Bool). or_else (unless t k) b) e)

-- the same of the last check of a chain
pub stops_last : (ok : Bool) (k : ℕ) → ok ≡ false → k ≡ unless ok k
stops_last ok k e = rw e

pub goes_off : (ok : Bool) (k : ℕ) → ok ≡ true → 0 ≡ unless ok k
goes_off ok k e = rw e

-- the same where the first part of a chain is a chain itself
pub halts : {x : ℕ} (a b : ℕ) → x ≡ a → (x ≡ 0 → ⊥) → x ≡ or_else a b
halts a b e h = e ∙ sym (ap (λ (t : Bool). cond t b a) (ne_eqb a 0 (λ z. h (e ∙ z))))

pub runs_on : {x : ℕ} (a b : ℕ) → a ≡ 0 → x ≡ b → x ≡ or_else a b
runs_on a b e f = f ∙ sym (ap (λ (t : Bool). cond t b a) (eq-eqb a 0 e))

-- a chain that answers 0 passed its first check and the rest
pub passed_first : (ok : Bool) (k b : ℕ) → (k ≡ 0 → ⊥) → or_else (unless ok k) b ≡ 0 → ok ≡ true
passed_first true k b h e = refl
passed_first false k b h e = absurd (h (sym (ap (λ (t : Bool). cond t b k) (ne_eqb k 0 h)) ∙ e))

pub passed_rest : (ok : Bool) (k b : ℕ) → (k ≡ 0 → ⊥) → or_else (unless ok k) b ≡ 0 → b ≡ 0
passed_rest true k b h e = e
passed_rest false k b h e = absurd (h (sym (ap (λ (t : Bool). cond t b k) (ne_eqb k 0 h)) ∙ e))

-- a chain of two chains that answers 0: so does each
pub zero_first : (a b : ℕ) → or_else a b ≡ 0 → a ≡ 0
zero_first a b e = go (eqb a 0) refl e
  where
    go : (t : Bool) → eqb a 0 ≡ t → cond t b a ≡ 0 → a ≡ 0
    go true f g = eqb-true a 0 f
    go false f g = g

pub zero_rest : (a b : ℕ) → or_else a b ≡ 0 → b ≡ 0
zero_rest a b e = runs_on a b (zero_first a b e) refl ∙ e

pub passed_last : (ok : Bool) (k : ℕ) → (k ≡ 0 → ⊥) → unless ok k ≡ 0 → ok ≡ true
passed_last true k h e = refl
passed_last false k h e = absurd (h e)

pub failed_last : (ok : Bool) (k : ℕ) → (k ≡ 0 → ⊥) → unless ok k ≡ k → ok ≡ false
failed_last true k h e = absurd (h (sym e))
failed_last false k h e = refl

-- 1

pub record Limits (N : Numbers) : Type 0 where
  pub some : 1 ≤ N.n
  pub few : N.n ≤ 24
  pub breaks : N.a ≤ 2
  pub others : N.b ≤ 3
  pub alternative : N.alternative ≤ 1
  pub gap : N.gap ≤ 15
  pub gapless : imp (eqb N.alternative 0) (eqb N.gap 0) ≡ true
  pub helper : N.helper ≤ 1

pub limits : (N : Numbers) → numbers_ok N ≡ true → Limits N
unfolding numbers_ok
limits N e =
    let t = each (number_tests N) e in
    record {
      some = leb-true 1 N.n t.0;
      few = leb-true N.n 24 t.1.0;
      breaks = leb-true N.a 2 t.1.1.0;
      others = leb-true N.b 3 t.1.1.1.0;
      alternative = leb-true N.alternative 1 t.1.1.1.1.0;
      gap = leb-true N.gap 15 t.1.1.1.1.1.0;
      gapless = t.1.1.1.1.1.1.0;
      helper = leb-true N.helper 1 t.1.1.1.1.1.1.1.0;
    }

pub numbers_good : (N : Numbers) → Limits N → true ≡ numbers_ok N
unfolding numbers_ok
numbers_good N l = sym (each_all (number_tests N) (le-leb _ _ l.some, (le-leb _ _ l.few, (le-leb _ _ l.breaks, (le-leb _ _ l.others, (le-leb _ _ l.alternative, (le-leb _ _ l.gap, (l.gapless, (le-leb _ _ l.helper, tt)))))))))

-- 2

pub record Lengths (n : ℕ) (d l g t : List ℕ) : Type 0 where
  pub domain : length d ≡ n
  pub loss : length l ≡ n
  pub give : length g ≡ n
  pub ties : length t ≡ n * n * 16

pub lengths : (n : ℕ) (d l g t : List ℕ) → lengths_ok n d l g t ≡ true → Lengths n d l g t
unfolding lengths_ok
lengths n d l g t e =
    let s = each (length_tests n d l g t) e in
    record { domain = eqb-true (length d) n s.0; loss = eqb-true (length l) n s.1.0; give = eqb-true (length g) n s.1.1.0; ties = eqb-true (length t) (n * n * 16) s.1.1.1.0 }

pub lengths_good : (n : ℕ) (d l g t : List ℕ) → Lengths n d l g t → true ≡ lengths_ok n d l g t
unfolding lengths_ok
lengths_good n d l g t h = sym (each_all (length_tests n d l g t) (eq-eqb _ _ h.domain, (eq-eqb _ _ h.loss, (eq-eqb _ _ h.give, (eq-eqb _ _ h.ties, tt)))))

pub lengths_bad : (n : ℕ) (d l g t : List ℕ) → (Lengths n d l g t → ⊥) → false ≡ lengths_ok n d l g t
lengths_bad n d l g t h = sym (false_of (lengths_ok n d l g t) (λ e. h (lengths n d l g t e)))

-- 4

-- Bools that test equal are equal
pub beq_same : (a b : Bool) → beq a b ≡ true → a ≡ b
beq_same true true e = refl
beq_same true false e = absurd (true≢false (sym e))
beq_same false true e = absurd (true≢false (sym e))
beq_same false false e = refl

pub same_beq : (a b : Bool) → a ≡ b → beq a b ≡ true
same_beq true true e = refl
same_beq true false e = absurd (true≢false e)
same_beq false true e = absurd (true≢false (sym e))
same_beq false false e = refl

module _ (R : Rules) where
  -- what a right bit says
  pub record Right (p q v w : ℕ) : Type 0 where
    pub mirror : together R p v q w ≡ together R q w p v
    pub here : together R p v q w ≡ true → in_domain R p v ≡ true
    pub there : together R p v q w ≡ true → in_domain R q w ≡ true
    pub apart : together R p v q w ≡ true → p ≡ q → ⊥

  pub bit_read : (p q v w : ℕ) → bit_ok R p q v w ≡ true → Right p q v w
  unfolding bit_ok
  bit_read p q v w e = record {
    mirror = beq_same (together R p v q w) (together R q w p v) (and_right (imp (together R p v q w) in_domains) (beq (together R p v q w) (together R q w p v)) e);
    here = λ t. and_left (in_domain R p v) (in_domain R q w && not (eqb p q)) (ins t);
    there = λ t. and_left (in_domain R q w) (not (eqb p q)) (and_right (in_domain R p v) (in_domain R q w && not (eqb p q)) (ins t));
    apart = λ t. eqb-false p q (not-true (eqb p q) (and_right (in_domain R q w) (not (eqb p q)) (and_right (in_domain R p v) (in_domain R q w && not (eqb p q)) (ins t))));
  }
    where
      in_domains : Bool
      in_domains = in_domain R p v && (in_domain R q w && not (eqb p q))

      ins : together R p v q w ≡ true → in_domains ≡ true
      ins t = imp_out (together R p v q w) in_domains (and_left (imp (together R p v q w) in_domains) (beq (together R p v q w) (together R q w p v)) e) t

  pub bit_make : (p q v w : ℕ) → Right p q v w → bit_ok R p q v w ≡ true
  unfolding bit_ok
  bit_make p q v w r =
      both
      (imp_in (together R p v q w) (in_domain R p v && (in_domain R q w && not (eqb p q))) (λ t. both (r.here t) (both (r.there t) (ap not (ne_eqb p q (r.apart t))))))
      (same_beq (together R p v q w) (together R q w p v) r.mirror)

  flip : (p q v w : ℕ) → Right p q v w → Right q p w v
  flip p q v w r = record {
    mirror = sym r.mirror;
    here = λ t. r.there (r.mirror ∙ t);
    there = λ t. r.here (r.mirror ∙ t);
    apart = λ t e. r.apart (r.mirror ∙ t) (sym e);
  }

  pair_read : (p q : ℕ) → pair_ok R p q ≡ true → (v w : ℕ) → v < 16 → w < 16 → Right p q v w
  unfolding pair_ok word_ok
  pair_read p q e v w l m = bit_read p q v w (every_at (bit_ok R p q v) 16 w (every_at (word_ok R p q) 16 v e l) m)

  -- a pair that is right one way round is right the other way
  pair_flip : (p q : ℕ) → pair_ok R p q ≡ true → pair_ok R q p ≡ true
  unfolding pair_ok word_ok
  pair_flip p q e = every_true (word_ok R q p) 16 (λ w m. every_true (bit_ok R q p w) 16 (λ v l. bit_make q p w v (flip p q v w (pair_read p q e v w l m))))

  ties_read : ties_ok R ≡ true → (p q : ℕ) → p < R.lots → q < R.lots → pair_ok R p q ≡ true
  unfolding ties_ok lot_ties_ok
  ties_read e p q l m = every_at (pair_ok R p) R.lots q (every_at (lot_ties_ok R) R.lots p e l) m

  -- accepted tables are symmetric
  pub ties_symmetric : ties_ok R ≡ true → Symmetric R
  ties_symmetric e p v q w l a m b = (pair_read p q (ties_read e p q l m) v w a b).mirror

  -- each pair once is enough
  pub ties_half : every (lot_ties_half R) R.lots ≡ ties_ok R
  unfolding ties_ok lot_ties_ok lot_ties_half
  ties_half =
      same_truth (every (lot_ties_half R) R.lots) (every (lot_ties_ok R) R.lots)
      (λ e. every_true (lot_ties_ok R) R.lots (λ p l. every_true (pair_ok R p) R.lots (λ q m. other e p q l m)))
      (λ e. every_true (lot_ties_half R) R.lots (λ p l. every_true (pair_ok R p) (p + 1) (λ q m. every_at (pair_ok R p) R.lots q (every_at (lot_ties_ok R) R.lots p e l) (omega arith))))
    where
      once : every (lot_ties_half R) R.lots ≡ true → (p q : ℕ) → p < R.lots → q < p + 1 → pair_ok R p q ≡ true
      once e p q l m = every_at (pair_ok R p) (p + 1) q (every_at (lot_ties_half R) R.lots p e l) m

      other : every (lot_ties_half R) R.lots ≡ true → (p q : ℕ) → p < R.lots → q < R.lots → pair_ok R p q ≡ true
      other e p q l m = elim (dec_lt p q) [ yes h ↦ pair_flip q p (once e q p m (omega arith)) | no h ↦ once e p q l (omega arith) ]

  -- a whole word against the slots that it may have

  have_bit : (p q v w : ℕ) → bit_of (may_have R.domain p q v) w ≡ true → (p ≡ q → ⊥) × (in_domain R p v ≡ true) × (in_domain R q w ≡ true)
  unfolding may_have in_domain
  have_bit p q v w e = go (eqb p q) (bit_of (get_or R.domain p 0) v) refl refl e
    where
      go : (a b : Bool) → eqb p q ≡ a → bit_of (get_or R.domain p 0) v ≡ b → bit_of (cond a 0 (cond b (get_or R.domain q 0) 0)) w ≡ true → (p ≡ q → ⊥) × (bit_of (get_or R.domain p 0) v ≡ true) × (bit_of (get_or R.domain q 0) w ≡ true)
      go true b f g t = absurd (not_both t (bit_zero w))
      go false true f g t = (eqb-false p q f, g, t)
      go false false f g t = absurd (not_both t (bit_zero w))

  bit_have : (p q v w : ℕ) → (p ≡ q → ⊥) → in_domain R p v ≡ true → in_domain R q w ≡ true → bit_of (may_have R.domain p q v) w ≡ true
  unfolding may_have in_domain
  bit_have p q v w h e f = rw (ne_eqb p q h, e) f

  module _ (p q v : ℕ) where
    abbrev word : ℕ
    word = tie_word R.lots R.ties p v q

    -- the word has a bit outside the domains
    pub word_out : inside word (may_have R.domain p q v) ≡ false → false ≡ word_ok R p q v
    unfolding word_ok inside together
    word_out e = sym (false_of (every (bit_ok R p q v) 16) (λ t. not_both
        (every_true (λ w. imp (bit_of word w) (bit_of (may_have R.domain p q v) w)) 16 (λ w l. imp_in (bit_of word w) (bit_of (may_have R.domain p q v) w)
        (λ b. let r = bit_read p q v w (every_at (bit_ok R p q v) 16 w t l) in bit_have p q v w (r.apart b) (r.here b) (r.there b)))) e))

    -- a bit that is inside and agrees is right
    bit_right : (w : ℕ) → inside word (may_have R.domain p q v) ≡ true → together R p v q w ≡ together R q w p v → bit_ok R p q v w ≡ true
    unfolding together
    bit_right w e m = bit_make p q v w (record {
      mirror = m;
      here = λ t. (have_bit p q v w (inside_at word (may_have R.domain p q v) w e t)).1;
      there = λ t. (have_bit p q v w (inside_at word (may_have R.domain p q v) w e t)).2;
      apart = λ t. (have_bit p q v w (inside_at word (may_have R.domain p q v) w e t)).0;
    })

    -- so a word that is inside is right where each bit agrees with its mirror
    pub word_mirrors : inside word (may_have R.domain p q v) ≡ true → every (λ w. beq (together R p v q w) (together R q w p v)) 16 ≡ word_ok R p q v
    unfolding word_ok
    word_mirrors e =
        every_cong (λ w. beq (together R p v q w) (together R q w p v)) (bit_ok R p q v) 16
        (λ w l. same_truth _ _ (λ t. bit_right w e (beq_same _ _ t)) (λ t. same_beq _ _ (bit_read p q v w t).mirror))

-- What numbers and tables that are not refused satisfy

pub record Accepted (W : Week) : Type 0 where
  pub limits : Limits W.numbers
  pub lengths : Lengths (lots W) W.domain W.loss W.give W.ties
  pub words : words_ok (lots W) W.domain W.loss W.give ≡ true
  pub symmetric : Symmetric (pair_rules W)

pub accepted : (W : Week) → refusal W ≡ 0 → Accepted W
unfolding admits
accepted W e =
    let r2 = passed_rest (numbers_ok W.numbers) 1 _ (λ z. omega arith) e in
    let r3 = passed_rest (lengths_ok (lots W) W.domain W.loss W.give W.ties) 2 _ (λ z. omega arith) r2 in
    let r4 = passed_rest (words_ok (lots W) W.domain W.loss W.give) 3 _ (λ z. omega arith) r3 in
    record {
      limits = limits W.numbers (passed_first (numbers_ok W.numbers) 1 _ (λ z. omega arith) e);
      lengths = lengths (lots W) W.domain W.loss W.give W.ties (passed_first (lengths_ok (lots W) W.domain W.loss W.give W.ties) 2 _ (λ z. omega arith) r2);
      words = passed_first (words_ok (lots W) W.domain W.loss W.give) 3 _ (λ z. omega arith) r3;
      symmetric = ties_symmetric (pair_rules W) (passed_last (ties_ok (pair_rules W)) 4 (λ z. omega arith) r4);
    }

-- on them the code's half of the pairs decides what `keeps` says
pub accepted_keeps : (W : Week) → Accepted W → (s : List ℕ) → length s ≤ lots W → keeps (pair_rules W) s ≡ keeps_half (pair_rules W) s
accepted_keeps W a s l = keeps_half_lem (pair_rules W) a.symmetric s l

-- A judgement of the tables, joined with a service's own tests, is the service's refusal

module _ (one two : Bool) (W : Week) where
  pub joined_admits : joined one two (refusal W) ≡ admits one two W
  unfolding joined admits
  joined_admits = go one two (numbers_ok W.numbers) (lengths_ok (lots W) W.domain W.loss W.give W.ties) (words_ok (lots W) W.domain W.loss W.give) (ties_ok (pair_rules W))
    where
      keep : (j : ℕ) → cond (eqb j 1) 1 j ≡ j
      keep zero = refl
      keep (suc zero) = refl
      keep (suc (suc j)) = rw (ne_eqb (suc (suc j)) 1 (λ e. omega arith))

      go : (one two a b c d : Bool) → joined one two (or_else (unless a 1) (or_else (unless b 2) (or_else (unless c 3) (unless d 4)))) ≡ or_else (unless (one && a) 1) (or_else (unless (two && b) 2) (or_else (unless c 3) (unless d 4)))
      go false two a b c d = refl
      go true true a b c d = keep (or_else (unless a 1) (or_else (unless b 2) (or_else (unless c 3) (unless d 4))))
      go true false false b c d = refl
      go true false true false c d = refl
      go true false true true false d = refl
      go true false true true true false = refl
      go true false true true true true = refl

  -- its numbers are 1 to 4
  pub admits_most : admits one two W ≤ 4
  unfolding admits
  admits_most = go (one && numbers_ok W.numbers) (two && lengths_ok (lots W) W.domain W.loss W.give W.ties) (words_ok (lots W) W.domain W.loss W.give) (ties_ok (pair_rules W))
    where
      go : (a b c d : Bool) → or_else (unless a 1) (or_else (unless b 2) (or_else (unless c 3) (unless d 4))) ≤ 4
      go false b c d = omega arith
      go true false c d = omega arith
      go true true false d = omega arith
      go true true true false = omega arith
      go true true true true = omega arith

  -- a service that is not refused passed its own tests, and its tables are accepted
  pub admits_one : admits one two W ≡ 0 → one ≡ true
  unfolding admits
  admits_one e = and_left one (numbers_ok W.numbers) (passed_first (one && numbers_ok W.numbers) 1 _ (λ z. omega arith) e)

  pub admits_two : admits one two W ≡ 0 → two ≡ true
  unfolding admits
  admits_two e =
      let l = lengths_ok (lots W) W.domain W.loss W.give W.ties in
      and_left two l (passed_first (two && l) 2 _ (λ z. omega arith) (passed_rest (one && numbers_ok W.numbers) 1 _ (λ z. omega arith) e))

  pub admits_tables : admits one two W ≡ 0 → refusal W ≡ 0
  admits_tables e = subst₂ (λ (a b : Bool). admits a b W ≡ 0) (admits_one e) (admits_two e) e
