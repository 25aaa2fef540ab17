-- Bytes that are repeated. Assumes nothing.
use Rattle.std.proofs.Common.{◌≡◌, zero, suc, ◌+◌, ◌++◌, List, ℕ, ap, sym, ◌∙◌, append_assoc, append-nil, add-one}
use Rattle.std.specs.List.{repeat}

-- once more before is once more after
around : (n : ℕ) (xs : List ℕ) → xs ++ repeat n xs ≡ repeat n xs ++ xs
around zero xs = append-nil xs
around (suc n) xs = ap (λ (l : List ℕ). xs ++ l) (around n xs) ∙ sym (append_assoc xs (repeat n xs) xs)

-- one more at the end
pub once_more : (n : ℕ) (xs front was now : List ℕ) → now ≡ was ++ xs → was ≡ front ++ repeat n xs → now ≡ front ++ repeat (n + 1) xs
once_more n xs front was now added so_far =
    added
    ∙ ap (λ (l : List ℕ). l ++ xs) so_far
    ∙ append_assoc front (repeat n xs) xs
    ∙ ap (λ (l : List ℕ). front ++ l) (sym (around n xs) ∙ ap (λ (k : ℕ). repeat k xs) (sym (add-one n)))
