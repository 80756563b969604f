-- What read and write are to each other, of the services themselves: both round trips, one file for a week, and a changed byte.
-- Words are 16 bits and bytes 8, as the code's are. Assumes nothing.
use mathlib.Core.Path.{◌≡◌, refl, sym, ◌∙◌, ap}
use mathlib.Core.Bool.{Bool, true, cond}
use mathlib.Core.List.{List}
use Prim.Native.Nat.{ℕ, zero, suc, ◌*◌, ◌<◌}
use native.Mathlib.Omega.{arith}
use lib.Dec.{eqb}
use lib.ListN.{length, get_or, set, take}
use borrow.Author.Tests.{eq-eqb, ne_eqb}
use Rattle.lex.specs.Lists.{padded}
use Rattle.lex.proofs.Lists.{padded_take}
use Rattle.week.specs.Tables.{Week, lots, refusal, admits}
use Rattle.week.proofs.Tables.{passed_rest}
use Rattle.block.specs.File.{blocks, file_of, Written, written, write_refusal, write_of}
use Rattle.block.specs.Reading.{week_of, week_in, buffers_ok, file_refusal, read_refusal, given, no_numbers, given_week, read_of}
use Rattle.block.proofs.Writing.{write_length, write_done}
use Rattle.block.proofs.Given.{Held, held, read_file}
use Rattle.block.proofs.RoundTrip.{Words16, week_written, held_written}
use Rattle.block.proofs.WriteBack.{Bytes, write_back, week_back, one_file}
use Rattle.block.proofs.Change.{changed}

-- Answers are refusals

pub write_answer : (W : Week) (F : List ℕ) → (write_of W F).answer ≡ write_refusal W F
unfolding write_of
write_answer W F = go (write_refusal W F)
  where
    go : (k : ℕ) → (cond (eqb k 0) (written 0 (file_of W)) (written k F)).answer ≡ k
    go zero = refl
    go (suc k) = rw (ne_eqb (suc k) 0 (λ z. omega arith))

pub read_answer : (F d l g t : List ℕ) → (read_of F d l g t).answer ≡ read_refusal F d l g t
unfolding read_of given_week
read_answer F d l g t = go (read_refusal F d l g t)
  where
    go : (k : ℕ) → (cond (eqb k 0) (given_week (week_in F)) (given k no_numbers d l g t)).answer ≡ k
    go zero = refl
    go (suc k) = rw (ne_eqb (suc k) 0 (λ z. omega arith))

held_length : (F : List ℕ) → Held F → length F ≡ blocks (lots (week_in F)) * 512
unfolding week_of
held_length F h = h.needed

-- a buffer of the needed length leaves the judgement of the week
write_is : (W : Week) (F : List ℕ) → length F ≡ blocks (lots W) * 512 → write_refusal W F ≡ refusal W
unfolding write_refusal
write_is W F e = ap (λ (t : Bool). admits true t W) (eq-eqb (length F) (blocks (lots W) * 512) e)

write_ok : (W : Week) (F : List ℕ) → refusal W ≡ 0 → length F ≡ blocks (lots W) * 512 → write_refusal W F ≡ 0
write_ok W F r e = write_is W F e ∙ r

module _ (F d l g t : List ℕ) (e : (read_of F d l g t).answer ≡ 0) where
  read_ok : read_refusal F d l g t ≡ 0
  read_ok = sym (read_answer F d l g t) ∙ e

  file_ok : file_refusal F ≡ 0
  unfolding read_refusal
  file_ok = passed_rest (buffers_ok (length d) (length l) (length g) (length t)) 2 _ (λ z. omega arith) read_ok

  -- an accepted file gives its week
  pub read_gives : read_of F d l g t ≡ given_week (week_in F)
  unfolding read_of
  read_gives = rw read_ok

  -- a file in which any one byte is changed is never accepted
  pub read_changed : (i x : ℕ) → Bytes F → i < length F → x < 256 → (x ≡ get_or F i 0 → ⊥) → (d' l' g' t' : List ℕ) → (read_of (set F i x) d' l' g' t').answer ≡ 0 → ⊥
  unfolding read_refusal
  read_changed i x s m xl h d' l' g' t' f =
      changed F i x s m xl h file_ok
      (passed_rest (buffers_ok (length d') (length l') (length g') (length t')) 2 _ (λ z. omega arith) (sym (read_answer (set F i x) d' l' g' t') ∙ f))

  -- writing what was read gives back the bytes
  pub write_of_read : (G : List ℕ) → Bytes F → length G ≡ length F → write_of (week_in F) G ≡ written 0 F
  write_of_read G s n =
      let h = held F file_ok in
      sym (write_done (week_in F) G (write_ok (week_in F) G (week_back F s file_ok) (n ∙ held_length F h)) (sym (write_back F s file_ok)))

  -- so a week has exactly one file
  pub read_one : (W : Week) → Bytes F → week_in F ≡ W → F ≡ file_of W
  read_one W s w = one_file W F s file_ok w

-- reading what was written gives back numbers and tables
module _ (W : Week) (F : List ℕ) (small : Words16 W) (e : (write_of W F).answer ≡ 0) where
  wrote : write_refusal W F ≡ 0
  wrote = sym (write_answer W F) ∙ e

  week_ok : refusal W ≡ 0
  week_ok = sym (write_is W F (write_length W F wrote)) ∙ wrote

  pub read_of_write : (d l g t : List ℕ) → buffers_ok (length d) (length l) (length g) (length t) ≡ true → read_of (write_of W F).file d l g t ≡ given_week W
  read_of_write d l g t b =
      let f : (write_of W F).file ≡ file_of W = ap (λ (x : Written). x.file) (sym (write_done W F wrote refl)) in
      let r : read_refusal (file_of W) d l g t ≡ 0 = sym (read_file (file_of W) d l g t b (sym (held_written W small week_ok))) in
      ap (λ (x : List ℕ). read_of x d l g t) f
      ∙ (read_gives (file_of W) d l g t (read_answer (file_of W) d l g t ∙ r) ∙ ap given_week (week_written W small week_ok))

-- and a table comes back from its buffer whole
pub table_back : (m : ℕ) (s : List ℕ) → take (length s) (padded m s) ≡ s
table_back m s = padded_take m s (length s) refl
