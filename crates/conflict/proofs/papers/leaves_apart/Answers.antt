use Rattle.std.proofs.Common.{ℕ, ◌+◌, ◌-◌, List, ◌∷◌, length, take, replicate, ap, ◌∙◌, ap₂, arith}
use Rattle.cipher.proofs.Pieces.{stored_there, written_front}
use Rattle.hash.specs.Hash.{from_zeros}
use Rattle.hash.specs.Collisions.{inputs_apart}
use Rattle.conflict.proofs.papers.leaves_apart.Goals as goal

pub returns : goal.returns
returns g c =
    let F = from_zeros g.C.Value.Words.width g.C.Compression.f in
    let e : List ℕ = c.args.entry.now in
    let d : List ℕ = c.args.other.now in
    let z : List ℕ = replicate 4097 0 in
    let fits = c.requires.first in
    let fits' = c.requires.second in
    c.inputs_apart.ensures
    ∙ ap₂ (inputs_apart F)
    (ap (take (1 + length e - 0)) (c.leaf_message.ensures ∙ stored_there 0 (0 ∷ e) z (omega arith)) ∙ written_front (0 ∷ e) z (1 + length e - 0) (omega arith))
    (ap (take (1 + length d - 0)) (c.leaf_message-2.ensures ∙ stored_there 0 (0 ∷ d) z (omega arith)) ∙ written_front (0 ∷ d) z (1 + length d - 0) (omega arith))
