use Rattle.std.proofs.Common.{◌≡◌, ℕ, ◌+◌, ◌-◌, ◌≤◌, List, ◌∷◌, ◌++◌, length, take, replicate, ap, ◌∙◌, arith, length-append}
use Rattle.cipher.proofs.Pieces.{stored_there, written_front}
use Rattle.hash.specs.Hash.{hash_of, from_zeros}
use Rattle.tree.proofs.digests.node.Goals as goal

pub returns : goal.returns
returns g c =
    let d = g.C.Value.Words in
    let F = from_zeros d.width g.C.Compression.f in
    let w : ℕ = c.size-width.result in
    let l : List ℕ = d.bytes c.args.left in
    let r : List ℕ = d.bytes c.args.right in
    let m : List ℕ = 1 ∷ (l ++ r) in
    let ll : length l ≡ w = omega (arith, g.met.C.Value.Words.sized c.args.left, c.size-width.ensures) in
    let lr : length r ≡ w = omega (arith, g.met.C.Value.Words.sized c.args.right, c.size-width.ensures) in
    let small : w ≤ 32 = omega (arith, g.met.C.Value.Words.most, c.size-width.ensures) in
    let full : length m ≡ 1 + w + w - 0 = omega (arith, length-append l r) in
    c.digest.ensures
    ∙ ap (hash_of F) (ap (take (1 + w + w - 0)) (c.node_message.ensures ∙ stored_there 0 m (replicate 65 0) (omega arith)) ∙ written_front m (replicate 65 0) (1 + w + w - 0) full)
