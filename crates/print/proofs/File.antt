-- From what read answered to the text of a file: its refusal, or the week that its buffers hold.
-- Assumes nothing.
use mathlib.Core.Path.{◌≡◌, refl, sym, ◌∙◌, ap, subst}
use mathlib.Core.Bool.{Bool, true, false, cond}
use mathlib.Core.List.{List, [], ◌++◌}
use mathlib.Core.Option.{Option, none, some}
use Prim.Native.Nat.{ℕ, zero, suc, ◌-◌, ◌*◌, ◌≤◌}
use native.Mathlib.Omega.{arith}
use native.Mathlib.Nat.{mul-le-mul}
use lib.Dec.{eqb}
use lib.ListN.{length, take, replicate}
use lib.Seq.{take_all}
use borrow.Author.Tests.{eq-eqb, ne_eqb}
use Rattle.lex.specs.First.{is_found, or_old}
use Rattle.lex.specs.Lists.{padded}
use Rattle.lex.proofs.Lists.{padded_length, padded_take}
use Rattle.week.specs.declared.Numbers.{Numbers}
use Rattle.std.specs.Prelude.{Result, Ok}
use Rattle.week.specs.declared.Refusal.{Refusal}
use Rattle.week.specs.Refusal.{unless, answer}
use Rattle.week.specs.Tables.{Week, week, lots, refusal}
use Rattle.week.proofs.Tables.{accepted, runs_on, halts}
use Rattle.robust.specs.Super.{first_super, table_of}
use Rattle.solve.proofs.Service.{super_long}
use Rattle.block.specs.Reading.{week_in, file_refusal, Given, given, given_week, read_of, numbers_of}
use Rattle.block.proofs.Checks.{Buffers, buffers_good}
use Rattle.block.proofs.Given.{week_fine, read_file}
use Rattle.block.proofs.Services.{read_answer, read_gives}
use Rattle.print.specs.Text.{plan_answer, plan_text, plan_lines, refused_line, room, printed_answer, printed_length, printed_buffer, text_length, Printed}
use Rattle.print.specs.Put.{Put, week_text}
use Rattle.print.proofs.Put.{put_more}
use Rattle.print.proofs.Sizes.{refused_most, table_most}
use Rattle.print.proofs.Plan.{plan_lines_lem}

-- n × n × 16 words at most
pub words_most : (n : ℕ) → n ≤ 24 → n * n * 16 ≤ 9216
words_most n h = let m = mul-le-mul {n₁ = n} {m₁ = n} {n₂ = 24} {m₂ = 24} h h in omega arith

-- What the buffers hold after a week was read into them, and how they are cut to it

pub record Cut (W : Week) (N : Numbers) (d l g t : List ℕ) : Type 0 where
  pub few : N.n ≤ 24
  pub domain : length d ≡ 24
  pub loss : length l ≡ 24
  pub give : length g ≡ 24
  pub ties : length t ≡ 9216
  pub is : week N (take N.n d) (take N.n l) (take N.n g) (take (N.n * N.n * 16) t) ≡ W

-- a table in its buffer, and cut out of it
padded_size : (m k : ℕ) (s b : List ℕ) → b ≡ padded m s → length s ≡ k → k ≤ m → length b ≡ m
padded_size m k s b e f h = ap length e ∙ padded_length m s (omega arith)

cut_table : (m k : ℕ) (s b : List ℕ) → b ≡ padded m s → length s ≡ k → take k b ≡ s
cut_table m k s b e f = ap (take k) e ∙ padded_take m s k f

same_week : {N M : Numbers} {d e l m g h t u : List ℕ} → N ≡ M → d ≡ e → l ≡ m → g ≡ h → t ≡ u → week N d l g t ≡ week M e m h u
same_week a b c i j = rw (a, b, c, i, j)

cut_week : (W : Week) (k : ℕ) (N : Numbers) (d l g t : List ℕ) → refusal W ≡ 0 → given k N d l g t ≡ given_week W → Cut W N d l g t
unfolding given_week
cut_week W k N d l g t fine h =
    let a = accepted W fine in
    let e : N ≡ W.numbers = ap (λ (x : Given). x.numbers) h in
    let n : N.n ≡ lots W = ap (λ (x : Numbers). x.n) e in
    let m : N.n ≤ 24 = let f = a.limits.few in omega arith in
    let q : lots W * lots W * 16 ≡ N.n * N.n * 16 = ap (λ (x : ℕ). x * x * 16) (sym n) in
    let eD : d ≡ padded 24 W.domain = ap (λ (x : Given). x.domain) h in
    let eL : l ≡ padded 24 W.loss = ap (λ (x : Given). x.loss) h in
    let eG : g ≡ padded 24 W.give = ap (λ (x : Given). x.give) h in
    let eT : t ≡ padded 9216 W.ties = ap (λ (x : Given). x.ties) h in
    record {
      few = m;
      domain = padded_size 24 N.n W.domain d eD (a.lengths.domain ∙ sym n) m;
      loss = padded_size 24 N.n W.loss l eL (a.lengths.loss ∙ sym n) m;
      give = padded_size 24 N.n W.give g eG (a.lengths.give ∙ sym n) m;
      ties = padded_size 9216 (N.n * N.n * 16) W.ties t eT (a.lengths.ties ∙ q) (words_most N.n m);
      is =
          same_week e
          (cut_table 24 N.n W.domain d eD (a.lengths.domain ∙ sym n))
          (cut_table 24 N.n W.loss l eL (a.lengths.loss ∙ sym n))
          (cut_table 24 N.n W.give g eG (a.lengths.give ∙ sym n))
          (cut_table 9216 (N.n * N.n * 16) W.ties t eT (a.lengths.ties ∙ q));
    }

-- The text of a file that is not refused

answer_week : (F : List ℕ) → file_refusal F ≡ 0 → plan_answer F ≡ unless (is_found (first_super (week_in F))) 5
unfolding plan_answer
answer_week F e = sym (runs_on (file_refusal F) _ e refl)

text_week : (F : List ℕ) → file_refusal F ≡ 0 → plan_text F ≡ week_text (week_in F)
unfolding plan_text week_text
text_week F e = rw (answer_week F e) (go (is_found (first_super (week_in F))))
  where
    go : (b : Bool) → cond (eqb (unless b 5) 0) (plan_lines (week_in F) (or_old (first_super (week_in F)) [])) (refused_line (unless b 5)) ≡ cond b (plan_lines (week_in F) (or_old (first_super (week_in F)) [])) (refused_line 5)
    go true = refl
    go false = refl

-- The text of a file that is refused
text_refused : (F : List ℕ) (k : ℕ) → k ≡ file_refusal F → (k ≡ 0 → ⊥) → plan_text F ≡ refused_line k
unfolding plan_text plan_answer
text_refused F k e h =
    let a : k ≡ plan_answer F = halts (file_refusal F) _ e h in
    rw (← a, ne_eqb k 0 h)

-- What read answered, of buffers of the right lengths

module _ (F d l g t : List ℕ) (lent : Buffers (length d) (length l) (length g) (length t)) {k : ℕ} {N : Numbers} {d' l' g' t' : List ℕ} (read : given k N d' l' g' t' ≡ read_of F d l g t) where
  refusal_is : k ≡ file_refusal F
  refusal_is = ap (λ (x : Given). x.answer) read ∙ (read_answer F d l g t ∙ sym (read_file F d l g t (sym (buffers_good _ _ _ _ lent)) refl))

  pub read_refused : (k ≡ 0 → ⊥) → plan_text F ≡ refused_line k
  read_refused h = text_refused F k refusal_is h

  module _ (done : k ≡ 0) where
    pub accepted_file : refusal (week_in F) ≡ 0
    accepted_file = week_fine F (sym refusal_is ∙ done)

    pub cut : Cut (week_in F) N d' l' g' t'
    cut = cut_week (week_in F) k N d' l' g' t' accepted_file (read ∙ read_gives F d l g t (sym (ap (λ (x : Given). x.answer) read) ∙ done))

    pub text_read : plan_text F ≡ week_text (week N (take N.n d') (take N.n l') (take N.n g') (take (N.n * N.n * 16) t'))
    text_read = text_week F (sym refusal_is ∙ done) ∙ ap week_text (sym cut.is)

    pub fine_read : refusal (week N (take N.n d') (take N.n l') (take N.n g') (take (N.n * N.n * 16) t')) ≡ 0
    fine_read = ap refusal cut.is ∙ accepted_file

-- Read answered with the numbers N, from buffers of the right lengths

module _ (F d l g t : List ℕ) {r : Result Numbers Refusal} {N : Numbers} {d' l' g' t' : List ℕ} (is : r ≡ Ok N) (read : given (answer r) (numbers_of r) d' l' g' t' ≡ read_of F d l g t) (lent : Buffers (length d) (length l) (length g) (length t)) where
  done : given 0 N d' l' g' t' ≡ read_of F d l g t
  done = rw is at read

  pub taken : Cut (week_in F) N d' l' g' t'
  taken = cut F d l g t lent done refl

  pub fine_taken : refusal (week N (take N.n d') (take N.n l') (take N.n g') (take (N.n * N.n * 16) t')) ≡ 0
  fine_taken = fine_read F d l g t lent done refl

  pub text_taken : plan_text F ≡ week_text (week N (take N.n d') (take N.n l') (take N.n g') (take (N.n * N.n * 16) t'))
  text_taken = text_read F d l g t lent done refl

-- each part that is cut off lies within its buffer
module _ {W : Week} {N : Numbers} {d l g t : List ℕ} (k : Cut W N d l g t) where
  pub domain_within : N.n ≤ length d
  domain_within = omega (arith, k.few, k.domain)

  pub loss_within : N.n ≤ length l
  loss_within = omega (arith, k.few, k.loss)

  pub give_within : N.n ≤ length g
  give_within = omega (arith, k.few, k.give)

  pub ties_within : N.n * N.n * 16 ≤ length t
  ties_within = omega (arith, words_most N.n k.few, k.ties)

-- No text is longer than its buffer

week_most : (W : Week) → refusal W ≡ 0 → length (week_text W) ≤ room
unfolding week_text
week_most W fine = go (first_super W) refl
  where
    go : (a : Option (List ℕ)) → first_super W ≡ a → length (cond (is_found a) (plan_lines W (or_old a [])) (refused_line 5)) ≤ room
    go none e = refused_most 5
    go (some s) e =
        let l = (accepted W fine).limits in
        let size = super_long W s e in
        rw (← plan_lines_lem W s fine size) (table_most (lots W) W.numbers.a s (table_of W s) l.few l.breaks size)

pub text_most : (F : List ℕ) → length (plan_text F) ≤ room
text_most F = go (file_refusal F) refl
  where
    go : (k : ℕ) → file_refusal F ≡ k → length (plan_text F) ≤ room
    go zero e = rw (text_week F e) (week_most (week_in F) (week_fine F e))
    go (suc k) e = rw (text_refused F (suc k) (sym e) (λ z. omega arith)) (refused_most (suc k))

-- The buffer: the text, and zeros behind it

module _ (F out : List ℕ) where
  -- a buffer of another length
  pub printed_none : (length out ≡ room → ⊥) → Printed F out 2 0 out
  unfolding printed_answer printed_length printed_buffer
  printed_none h = record { answer = rw (ne_eqb (length out) room h); count = rw (ne_eqb (length out) room h); buffer = rw (ne_eqb (length out) room h) }

  pub printed_text : {m o : List ℕ} {e : ℕ} → length out ≡ room → Put (plan_text F) 0 out e m → Put (replicate (length m - e) 0) e m (length m) o → Printed F out 0 e o
  unfolding printed_answer printed_length printed_buffer padded
  printed_text {m} {o} {e} h a b =
      let n : e ≡ length (plan_text F) = let x = a.ends in omega arith in
      let both = put_more a b in
      let all : o ≡ plan_text F ++ replicate (length m - e) 0 = sym (take_all (length m) o (let x = b.size in omega arith)) ∙ both.stands in
      let r : length m ≡ room = a.size ∙ h in
      record {
        answer = rw (eq-eqb (length out) room h);
        count = rw (eq-eqb (length out) room h) n;
        buffer = rw (eq-eqb (length out) room h) (all ∙ rw (r, n));
      }

  -- the text lies within the buffer, whatever the buffer
  pub printed_within : {k r : ℕ} {o : List ℕ} → Printed F out k r o → r ≤ length o
  unfolding printed_length printed_buffer
  printed_within p = rw (p.count, p.buffer) (go (eqb (length out) room))
    where
      go : (b : Bool) → cond b (length (plan_text F)) 0 ≤ length (cond b (padded room (plan_text F)) out)
      go true = rw (padded_length room (plan_text F) (text_most F)) (text_most F)
      go false = omega arith

  -- so it does where printing answers how long it is
  pub text_within : {r : Result ℕ Refusal} {n k : ℕ} {o : List ℕ} → r ≡ Ok n → Printed F out k (text_length r) o → n ≤ length o
  text_within {o = o} is p = subst (λ (m : ℕ). m ≤ length o) (ap text_length is) (printed_within p)
