use Rattle.std.proofs.Common.{◌≡◌, ℕ, ◌-◌, ◌*◌, ◌/◌, ◌%◌, List, ◌∷◌, ◌++◌, length, drop, set, replicate, ap, ◌∙◌, arith, length-drop}
use Rattle.std.proofs.lemmas.List.{take_rest, drop-replicate}
use Rattle.hash.proofs.Padded.{mark_set}
use Rattle.hash.proofs.padding.marked.Goals as goal

pub returns : goal.returns
returns c =
    let xs : List ℕ = c.args.message.now in
    let n : ℕ = length xs % 16 in
    let i : ℕ = length xs - n in
    let e : i ≡ 16 * (length xs / 16) = omega arith in
    let z : n - 0 ≡ n = omega arith in
    let l : length (drop i xs) ≡ n = omega (arith, length-drop i xs) in
    let rest : drop (n - 0) (replicate 16 0) ≡ replicate (16 - n) 0 = ap (λ k. drop k (replicate 16 0)) z ∙ drop-replicate n 16 0 in
    ap (λ l. set (l ++ drop (n - 0) (replicate 16 0)) n 128) (c.copy_from_slice.ensures.after ∙ take_rest xs i)
    ∙ ap (λ l. set (drop i xs ++ l) n 128) rest
    ∙ mark_set (drop i xs) n l (omega arith)
    ∙ ap (λ k. drop k xs ++ (128 ∷ replicate (15 - n) 0)) e
