-- A tag and what follows it, written at the front of a buffer. Assumes nothing.
use Rattle.std.proofs.Common.{◌≡◌, ℕ, suc, ◌+◌, ◌<◌, List, [], ◌∷◌, ◌++◌, length, drop, set, sym, ap, ◌∙◌, arith}
use Rattle.cipher.specs.Bytes.{written}

pub tag_written : (b : ℕ) (m xs : List ℕ) → 0 < length xs → written 1 m (set xs 0 b) ≡ written 0 (b ∷ m) xs
tag_written b m [] h = absurd (omega arith)
tag_written b m (x ∷ xs) h =
    let p : 1 + length m ≡ suc (length m) = omega arith in
    let q : 0 + suc (length m) ≡ suc (length m) = omega arith in
    ap (λ (k : ℕ). b ∷ (m ++ drop k (b ∷ xs))) p ∙ sym (ap (λ (k : ℕ). b ∷ (m ++ drop k (x ∷ xs))) q)
