-- Columns kept as words of 32 bits, the top byte the lowest: for the contracts of the functions inside the crate. Assumes
-- nothing.
use Rattle.std.specs.Prelude.{ℕ, ◌/◌, ◌%◌, List, [], ◌∷◌, ◌++◌, slice_index_or}
use Rattle.cipher.specs.Bytes.{little}
use Rattle.aes.specs.Field.{S}
use Rattle.aes.specs.Aes.{mixed_byte}
use Rattle.aes.specs.declared.columns.Columns.{Columns}

-- the state of four columns
abbrev pub state_of : Columns → List ℕ
state_of s = little 4 s.a ++ (little 4 s.b ++ (little 4 s.c ++ little 4 s.d))

-- a column after sub_bytes and shift_rows: each row comes from another of the four columns
abbrev pub shifted_column : ℕ → ℕ → ℕ → ℕ → List ℕ
shifted_column a b c d = S (a % 256) ∷ S (b / 256 % 256) ∷ S (c / 65536 % 256) ∷ S (d / 16777216 % 256) ∷ []

-- a column after mix_columns
abbrev pub mixed_column : List ℕ → List ℕ
mixed_column w =
    let a = slice_index_or w 0 0 in
    let b = slice_index_or w 1 0 in
    let c = slice_index_or w 2 0 in
    let d = slice_index_or w 3 0 in
    mixed_byte a b c d ∷ mixed_byte b c d a ∷ mixed_byte c d a b ∷ mixed_byte d a b c ∷ []
