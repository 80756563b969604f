-- What a file that is not refused satisfies, and what read gives.
-- Assumes nothing.
use mathlib.Core.Path.{◌≡◌, sym, subst⁻¹}
use mathlib.Core.Bool.{true, false}
use mathlib.Core.List.{List}
use Prim.Native.Nat.{ℕ, ◌*◌, ◌/◌}
use native.Mathlib.Omega.{arith}
use lib.Dec.{eqb}
use lib.ListN.{length}
use borrow.Author.Tests.{eqb-true, eq-eqb, ne_eqb}
use Rattle.lex.specs.Lists.{padded}
use Rattle.lex.proofs.Lists.{length_list}
use Rattle.week.specs.declared.Numbers.{Numbers}
use Rattle.week.specs.Tables.{Week, lots, pair_rules, refusal, admits, numbers_ok, lengths_ok, words_ok, ties_ok}
use Rattle.week.proofs.Tables.{Limits, limits, Lengths, stops, goes_on, goes_off, passed_first, passed_rest, passed_last, numbers_good, lengths_good, runs_on, zero_first, zero_rest}
use Rattle.block.specs.File.{blocks}
use Rattle.block.specs.Reading.{numbers_in, words_at, words_in, ties_at, ties_in, week_of, week_in, buffers_ok, whole_blocks, blocks_refusal, filling_ok, held_refusal, file_refusal, read_refusal, given, no_numbers, given_week, read_of}
use Rattle.block.proofs.Checks.{Whole, whole, whole_good}

pub record Held (F : List ℕ) : Type 0 where
  pub whole : Whole F
  pub checked : blocks_refusal F (length F / 512) ≡ 0
  pub limits : Limits (numbers_in F)
  pub needed : length F ≡ blocks (numbers_in F).n * 512
  pub filling : filling_ok F (numbers_in F).n ≡ true
  pub words : words_ok (numbers_in F).n (words_in F (numbers_in F).n 0) (words_in F (numbers_in F).n 1) (words_in F (numbers_in F).n 2) ≡ true
  pub ties : ties_ok (pair_rules (week_in F)) ≡ true

pub held : (F : List ℕ) → file_refusal F ≡ 0 → Held F
unfolding file_refusal held_refusal week_of
held F e =
    let r1 = passed_rest (whole_blocks F) 15 _ (λ z. omega arith) e in
    let r2 = zero_rest (blocks_refusal F (length F / 512)) _ r1 in
    let W : Week = week_in F in
    let r3 = passed_rest (numbers_ok (numbers_in F)) 1 _ (λ z. omega arith) r2 in
    let r4 = passed_rest (eqb (length F) (blocks (lots W) * 512)) 15 _ (λ z. omega arith) r3 in
    let r5 = passed_rest (filling_ok F (lots W)) 18 _ (λ z. omega arith) r4 in
    let r6 = passed_rest (words_ok (lots W) W.domain W.loss W.give) 3 _ (λ z. omega arith) r5 in
    record {
      whole = whole F (passed_first (whole_blocks F) 15 _ (λ z. omega arith) e);
      checked = zero_first (blocks_refusal F (length F / 512)) _ r1;
      limits = limits (numbers_in F) (passed_first (numbers_ok (numbers_in F)) 1 _ (λ z. omega arith) r2);
      needed = eqb-true (length F) (blocks (lots W) * 512) (passed_first (eqb (length F) (blocks (lots W) * 512)) 15 _ (λ z. omega arith) r3);
      filling = passed_first (filling_ok F (lots W)) 18 _ (λ z. omega arith) r4;
      words = passed_first (words_ok (lots W) W.domain W.loss W.give) 3 _ (λ z. omega arith) r5;
      ties = passed_last (ties_ok (pair_rules W)) 4 (λ z. omega arith) r6;
    }

-- and the other way
pub not_refused : (F : List ℕ) → Held F → file_refusal F ≡ 0
unfolding file_refusal held_refusal week_of
not_refused F h =
    sym (goes_on (whole_blocks F) 15 _ (whole_good F h.whole)
    (runs_on (blocks_refusal F (length F / 512)) _ h.checked
    (goes_on (numbers_ok (numbers_in F)) 1 _ (sym (numbers_good (numbers_in F) h.limits))
    (goes_on (eqb (length F) (blocks (numbers_in F).n * 512)) 15 _ (eq-eqb _ _ h.needed)
    (goes_on (filling_ok F (numbers_in F).n) 18 _ h.filling
    (goes_on (words_ok (numbers_in F).n (words_in F (numbers_in F).n 0) (words_in F (numbers_in F).n 1) (words_in F (numbers_in F).n 2)) 3 _ h.words
    (goes_off (ties_ok (pair_rules (week_in F))) 4 h.ties)))))))

pub held_limits : (F : List ℕ) {N : Numbers} → 0 ≡ file_refusal F → N ≡ numbers_in F → Limits N
held_limits F e f = subst⁻¹ Limits f (held F (sym e)).limits

-- the week of a file that is not refused is accepted
pub week_fine : (F : List ℕ) → file_refusal F ≡ 0 → refusal (week_in F) ≡ 0
unfolding admits week_of words_in ties_in
week_fine F e =
    let h = held F e in
    let n = (numbers_in F).n in
    sym (goes_on (numbers_ok (numbers_in F)) 1 _ (sym (numbers_good (numbers_in F) h.limits))
    (goes_on (lengths_ok n (words_in F n 0) (words_in F n 1) (words_in F n 2) (ties_in F n)) 2 _ (sym (lengths_good n (words_in F n 0) (words_in F n 1) (words_in F n 2) (ties_in F n) (sizes n)))
    (goes_on (words_ok n (words_in F n 0) (words_in F n 1) (words_in F n 2)) 3 _ h.words
    (goes_off (ties_ok (pair_rules (week_in F))) 4 h.ties))))
  where
    sizes : (n : ℕ) → Lengths n (words_in F n 0) (words_in F n 1) (words_in F n 2) (ties_in F n)
    sizes n = record { domain = length_list (words_at F n 0) n; loss = length_list (words_at F n 1) n; give = length_list (words_at F n 2) n; ties = length_list (ties_at F n) (n * n * 16) }

module _ (F d l g t : List ℕ) where
  pub read_two : buffers_ok (length d) (length l) (length g) (length t) ≡ false → 2 ≡ read_refusal F d l g t
  unfolding read_refusal
  read_two e = stops (buffers_ok (length d) (length l) (length g) (length t)) 2 _ e (λ z. omega arith)

  pub read_file : {k : ℕ} → buffers_ok (length d) (length l) (length g) (length t) ≡ true → k ≡ file_refusal F → k ≡ read_refusal F d l g t
  unfolding read_refusal
  read_file e f = goes_on (buffers_ok (length d) (length l) (length g) (length t)) 2 _ e f

  pub read_refused : {a k : ℕ} {N : Numbers} → k ≡ read_refusal F d l g t → (k ≡ 0 → ⊥) → a ≡ k → N ≡ no_numbers → given a N d l g t ≡ read_of F d l g t
  unfolding read_of
  read_refused {a} {k} e h f j = rw (f, j, ← e, ne_eqb k 0 h)

  pub read_done : {N : Numbers} {d' l' g' t' : List ℕ} → 0 ≡ read_refusal F d l g t → N ≡ numbers_in F → d' ≡ padded 24 (words_in F N.n 0) → l' ≡ padded 24 (words_in F N.n 1) → g' ≡ padded 24 (words_in F N.n 2) → t' ≡ padded 9216 (ties_in F N.n) → given 0 N d' l' g' t' ≡ read_of F d l g t
  unfolding read_of given_week week_of
  read_done e f a b c i = rw (a, b, c, i, f, ← e)
