-- The steps of a round, column by column, and one round more. Assumes nothing.
use Rattle.std.proofs.Common.{◌≡◌, ℕ, suc, ◌-◌, ◌≤◌, List, [], ◌∷◌, ◌++◌, sym, refl, ap, ◌∙◌, arith}
use lib.Bits.{bit_xor, xor_assoc}
use Rattle.std.proofs.lemmas.Nat.{xor_comm}
use Rattle.cipher.specs.Bytes.{little, xors}
use Rattle.aes.specs.Field.{times}
use Rattle.aes.specs.Aes.{sub_bytes, shift_rows, mixed_byte, mix_columns, round_key, rounds}
use Rattle.aes.specs.Columns.{shifted_column, mixed_column}
use Rattle.aes.specs.Fours.{fours}

pub shifted_state : (a b c d : ℕ) →
    shifted_column a b c d ++ (shifted_column b c d a ++ (shifted_column c d a b ++ shifted_column d a b c))
    ≡ shift_rows (sub_bytes (little 4 a ++ (little 4 b ++ (little 4 c ++ little 4 d))))
unfolding shift_rows
shifted_state a b c d = rw (fours a, fours b, fours c, fours d) refl

pub mixed_state : (a b c d : ℕ) →
    mixed_column (shifted_column a b c d) ++ (mixed_column (shifted_column b c d a) ++ (mixed_column (shifted_column c d a b) ++ mixed_column (shifted_column d a b c)))
    ≡ mix_columns (shift_rows (sub_bytes (little 4 a ++ (little 4 b ++ (little 4 c ++ little 4 d)))))
unfolding mix_columns
mixed_state a b c d = rw (sym (shifted_state a b c d)) refl

-- the first of four goes to the end
cycle : (a b c d : ℕ) → bit_xor (bit_xor (bit_xor a b) c) d ≡ bit_xor (bit_xor (bit_xor b c) d) a
cycle a b c d = ap (λ n. bit_xor n d) (xor_assoc a b c) ∙ xor_assoc a (bit_xor b c) d ∙ xor_comm a (bit_xor (bit_xor b c) d)

-- what four bytes give to a column, xored
pub mixes : (a b c d : ℕ) →
    xors (xors (xors (times 2 a ∷ a ∷ a ∷ times 3 a ∷ []) (times 3 b ∷ times 2 b ∷ b ∷ b ∷ [])) (c ∷ times 3 c ∷ times 2 c ∷ c ∷ [])) (d ∷ d ∷ times 3 d ∷ times 2 d ∷ [])
    ≡ mixed_column (a ∷ b ∷ c ∷ d ∷ [])
unfolding mixed_byte
mixes a b c d =
    let r₁ = cycle a (times 2 b) (times 3 c) d in
    let r₂ = cycle a b (times 2 c) (times 3 d) ∙ cycle b (times 2 c) (times 3 d) a in
    let r₃ = sym (cycle (times 2 d) (times 3 a) b c) in
    cc

pub rounds_none : (ws s : List ℕ) → rounds ws s 0 ≡ s
unfolding rounds
rounds_none ws s = refl

pub rounds_more : (ws s : List ℕ) (j : ℕ) → 1 ≤ j → rounds ws s j ≡ xors (mix_columns (shift_rows (sub_bytes (rounds ws s (j - 1))))) (round_key ws j)
unfolding rounds
rounds_more ws s j h =
    let e : j ≡ suc (j - 1) = omega arith in
    ap (rounds ws s) e ∙ ap (λ (k : ℕ). xors (mix_columns (shift_rows (sub_bytes (rounds ws s (j - 1))))) (round_key ws k)) (sym e)
