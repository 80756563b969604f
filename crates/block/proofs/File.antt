-- Laws of blocks and files: a block put together, a file block by block, and what stands at each place.
-- Assumes nothing.
use mathlib.Core.Path.{◌≡◌, sym, ◌∙◌, ap, ap₂}
use mathlib.Core.List.{List, ◌++◌, append_assoc}
use Prim.Native.Nat.{ℕ, ◌+◌, ◌*◌, ◌-◌, ◌/◌, ◌%◌, ◌<◌}
use native.Mathlib.Omega.{arith}
use lib.ListN.{length, get_or, take, drop, length-append}
use lib.Seq.{take_at, drop-drop, drop_at}
use Rattle.std.specs.Int.{w32, to_le_bytes}
use Rattle.lex.specs.Lists.{list_of}
use Rattle.lex.proofs.Lists.{length_list, list_cong, list_join}
use Rattle.week.specs.Tables.{Week}
use Rattle.block.specs.Fnv.{fnv}
use Rattle.block.specs.Parts.{or_zero, byte_of}
use Rattle.block.specs.File.{body_byte, body, block_of, file_byte}
use Rattle.block.proofs.Parts.{list_self, or_zero_lem}
use Rattle.block.proofs.Bytes.{bytes_list}

pub length_body : (W : Week) (b : ℕ) → length (body W b) ≡ 508
unfolding body
length_body W b = length_list (body_byte W b) 508

pub length_block : (W : Week) (b : ℕ) → length (block_of W b) ≡ 512
unfolding block_of
length_block W b = length-append (body W b) (list_of (byte_of (fnv (body W b))) 4) ∙ (let h = length_body W b in let k = length_list (byte_of (fnv (body W b))) 4 in omega arith)

-- a block from its body and the bytes of its check
pub block_put : (W : Week) (b : ℕ) {h : ℕ} {l c s : List ℕ} → l ≡ body W b → h ≡ fnv l → s ≡ to_le_bytes w32 h → c ≡ s → l ++ c ≡ block_of W b
unfolding block_of
block_put W b {h} e f g k = ap₂ ◌++◌ e (k ∙ (g ∙ (bytes_list h ∙ ap (λ (h : ℕ). list_of (byte_of h) 4) (f ∙ ap fnv e))))

-- A file is filled block by block

-- the bytes of block b are those of the file from 512 b on
file_block : (W : Week) (b : ℕ) → list_of (λ i. file_byte W (b * 512 + i)) 512 ≡ block_of W b
unfolding file_byte
file_block W b =
    list_cong (λ i. file_byte W (b * 512 + i)) (or_zero (block_of W b)) 512 (λ i l. place i l ∙ sym (or_zero_lem (block_of W b) i))
    ∙ (ap (list_of (or_zero (block_of W b))) (sym (length_block W b)) ∙ list_self (block_of W b))
  where
    place : (i : ℕ) → i < 512 → get_or (block_of W ((b * 512 + i) / 512)) ((b * 512 + i) % 512) 0 ≡ get_or (block_of W b) i 0
    place i l =
        let q : (b * 512 + i) / 512 ≡ b = omega arith in
        let r : (b * 512 + i) % 512 ≡ i = omega arith in
        rw (q, r)

-- block b is put back into its part of the file
pub blocks_more : (W : Week) (b : ℕ) {s y : List ℕ} (d : List ℕ) → s ≡ list_of (file_byte W) (b * 512) ++ drop (b * 512) d → y ≡ block_of W b
    → take (b * 512) s ++ (y ++ drop (b * 512 + 512 - b * 512) (drop (b * 512) s)) ≡ list_of (file_byte W) ((b + 1) * 512) ++ drop ((b + 1) * 512) d
blocks_more W b {s} {y} d e f =
    let m : (b + 1) * 512 ≡ b * 512 + 512 = omega arith in
    let five : b * 512 + 512 - b * 512 ≡ 512 = omega arith in
    let k : length (list_of (file_byte W) (b * 512)) ≡ b * 512 = length_list (file_byte W) (b * 512) in
    let first : take (b * 512) s ≡ list_of (file_byte W) (b * 512) = ap (take (b * 512)) e ∙ take_at (list_of (file_byte W) (b * 512)) (drop (b * 512) d) (b * 512) k in
    let last : drop (b * 512) s ≡ drop (b * 512) d = ap (drop (b * 512)) e ∙ drop_at (list_of (file_byte W) (b * 512)) (drop (b * 512) d) (b * 512) k in
    rw (first, last, f, five, m, drop-drop 512 (b * 512) d, list_join (file_byte W) (b * 512) 512, file_block W b)
    (sym (append_assoc (list_of (file_byte W) (b * 512)) (block_of W b) (drop (b * 512 + 512) d)))
