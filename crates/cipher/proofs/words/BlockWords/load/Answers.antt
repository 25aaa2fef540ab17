use Rattle.std.proofs.Common.{◌≡◌, ℕ, ◌+◌, ◌-◌, ◌<◌, List, length, get_or, drop, Some, sym, ap, subst, ◌∙◌, arith, length-drop}
use Rattle.std.proofs.lemmas.List.{get_or-take, get_or-drop, length-take-le}
use Rattle.cipher.proofs.Littles.{little_of_halves}
use Rattle.cipher.proofs.Pieces.{piece_is}
use Rattle.cipher.proofs.words.BlockWords.load.Goals as goal

pub returns : goal.returns
returns c =
    let xs = c.args.from.now in
    let i = c.args.at in
    let bs = c.in_ok-bytes.bytes in
    let there = piece_is i 16 xs bs c.in_ok-bytes.ensures in
    let long : length bs ≡ 16 = ap length there.1 ∙ length-take-le 16 (drop i xs) (omega (arith, there.0, length-drop i xs)) in
    let small : (k : ℕ) → k < 16 → get_or bs k 0 < 256 =
    λ k h. subst (λ b. b < 256) (sym (ap (λ ys. get_or ys k 0) there.1 ∙ get_or-take 16 (drop i xs) k 0 h ∙ get_or-drop i xs k 0)) (c.type_inv.from (i + k)).fits in
    ap (λ (l : List ℕ). Some l)
    (little_of_halves bs c.in_ok-first_chunk.field-0.now c.in_ok-last_chunk.field-0.now c.from_le_bytes.result c.from_le_bytes-2.result long small
    c.in_ok-first_chunk.ensures.cases.same
    (let at : length bs - 8 ≡ 8 = omega (arith, long) in c.in_ok-last_chunk.ensures.cases.1.same ∙ ap (λ n. drop n bs) at)
    c.from_le_bytes.ensures c.from_le_bytes-2.ensures)
    ∙ c.in_ok-bytes.ensures
