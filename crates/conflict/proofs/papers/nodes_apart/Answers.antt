use Rattle.std.proofs.Common.{◌≡◌, ℕ, ◌+◌, ◌-◌, List, ◌∷◌, ◌++◌, length, take, replicate, ap, ◌∙◌, ap₂, arith, length-append}
use Rattle.cipher.proofs.Pieces.{stored_there, written_front}
use Rattle.hash.specs.Hash.{from_zeros}
use Rattle.hash.specs.Collisions.{inputs_apart}
use Rattle.conflict.proofs.papers.nodes_apart.Goals as goal

pub returns : goal.returns
returns g c =
    let b = g.C.Value.Words.bytes in
    let F = from_zeros g.C.Value.Words.width g.C.Compression.f in
    let w : ℕ = c.size-width.result in
    let is = c.size-width.ensures in
    let most = g.met.C.Value.Words.most in
    let z : List ℕ = replicate 65 0 in
    let x = c.args.apart.first in
    let y = c.args.apart.second in
    let m : List ℕ = 1 ∷ (b x.left ++ b x.right) in
    let m' : List ℕ = 1 ∷ (b y.left ++ b y.right) in
    let l : length m ≡ 1 + w + w - 0 = omega (arith, length-append (b x.left) (b x.right), g.met.C.Value.Words.sized x.left, g.met.C.Value.Words.sized x.right) in
    let l' : length m' ≡ 1 + w + w - 0 = omega (arith, length-append (b y.left) (b y.right), g.met.C.Value.Words.sized y.left, g.met.C.Value.Words.sized y.right) in
    c.inputs_apart.ensures
    ∙ ap₂ (inputs_apart F)
    (ap (take (1 + w + w - 0)) (c.node_message.ensures ∙ stored_there 0 m z (omega arith)) ∙ written_front m z (1 + w + w - 0) l)
    (ap (take (1 + w + w - 0)) (c.node_message-2.ensures ∙ stored_there 0 m' z (omega arith)) ∙ written_front m' z (1 + w + w - 0) l')
