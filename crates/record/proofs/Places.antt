-- What stands at a place of some bytes, element by element. Assumes nothing.
use Rattle.std.proofs.Common.{◌≡◌, ℕ, suc, ◌+◌, ◌<◌, ◌≤◌, List, [], ◌∷◌, length, get_or, take, drop, refl, ap, ◌∙◌, arith}
use Rattle.std.proofs.lemmas.List.{drop_more}

-- four elements, and what follows them
pub four_and_more : (xs : List ℕ) (i : ℕ) → i + 4 ≤ length xs →
    drop i xs ≡ get_or xs i 0 ∷ get_or xs (i + 1) 0 ∷ get_or xs (i + 2) 0 ∷ get_or xs (i + 3) 0 ∷ drop (i + 4) xs
four_and_more xs i h =
    let s : (k : ℕ) → k < 4 → drop (i + k) xs ≡ get_or xs (i + k) 0 ∷ drop (i + suc k) xs =
    λ k l. let lt : i + k < length xs = omega arith in drop_more xs (i + k) 0 lt ∙ ap (λ n. get_or xs (i + k) 0 ∷ drop n xs) (omega arith) in
    let z : drop i xs ≡ drop (i + 0) xs = ap (λ n. drop n xs) (omega arith) in
    let y : get_or xs (i + 0) 0 ≡ get_or xs i 0 = ap (λ n. get_or xs n 0) (omega arith) in
    rw (z, s 0 (omega arith), s 1 (omega arith), s 2 (omega arith), s 3 (omega arith), y) refl

pub four_at : (xs : List ℕ) (i : ℕ) → i + 4 ≤ length xs →
    take 4 (drop i xs) ≡ get_or xs i 0 ∷ get_or xs (i + 1) 0 ∷ get_or xs (i + 2) 0 ∷ get_or xs (i + 3) 0 ∷ []
four_at xs i h = ap (take 4) (four_and_more xs i h)
