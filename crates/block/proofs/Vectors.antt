-- FNV-1a's published vectors hold of the definition, by computation: one table, one proof.
-- Assumes nothing.
use mathlib.Core.Path.{◌≡◌, refl}
use mathlib.Core.Bool.{Bool, true}
use mathlib.Core.List.{List, [], ◌∷◌}
use Prim.Native.Nat.{ℕ}
use lib.Dec.{eqb}
use Rattle.lex.specs.Every.{every_of}
use Rattle.block.specs.Fnv.{fnv_step, fnv_from, fnv}

-- bytes, and their hash
pub record Vector : Type 0 where
  pub bytes : List ℕ
  pub hash : ℕ

pub holds : Vector → Bool
holds x = eqb (fnv x.bytes) x.hash

-- "", "a", "b", "c", "fo", "foo", "foob", "fooba", "foobar"
pub vectors : List Vector
vectors =
    record { bytes = []; hash = 0x811c9dc5 }
    ∷ record { bytes = 0x61 ∷ []; hash = 0xe40c292c }
    ∷ record { bytes = 0x62 ∷ []; hash = 0xe70c2de5 }
    ∷ record { bytes = 0x63 ∷ []; hash = 0xe60c2c52 }
    ∷ record { bytes = 0x66 ∷ 0x6f ∷ []; hash = 0x6222e842 }
    ∷ record { bytes = 0x66 ∷ 0x6f ∷ 0x6f ∷ []; hash = 0xa9f37ed7 }
    ∷ record { bytes = 0x66 ∷ 0x6f ∷ 0x6f ∷ 0x62 ∷ []; hash = 0x3f5076ef }
    ∷ record { bytes = 0x66 ∷ 0x6f ∷ 0x6f ∷ 0x62 ∷ 0x61 ∷ []; hash = 0x39aaa18a }
    ∷ record { bytes = 0x66 ∷ 0x6f ∷ 0x6f ∷ 0x62 ∷ 0x61 ∷ 0x72 ∷ []; hash = 0xbf9cf968 }
    ∷ []

pub vectors_hold : every_of holds vectors ≡ true
unfolding every_of holds vectors fnv fnv_from fnv_step
vectors_hold = refl
