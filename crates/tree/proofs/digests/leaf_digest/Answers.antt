use Rattle.std.proofs.Common.{ℕ, ◌+◌, ◌-◌, List, ◌∷◌, length, take, ap, ◌∙◌, arith}
use Rattle.cipher.proofs.Pieces.{stored_there, written_front}
use Rattle.hash.specs.Hash.{hash_of, from_zeros}
use Rattle.tree.proofs.digests.leaf_digest.Goals as goal

pub returns : goal.returns
returns g c =
    let m : List ℕ = c.args.message.now in
    let e : List ℕ = c.args.entry.now in
    let n : ℕ = 1 + length e - 0 in
    let F = from_zeros g.C.Value.Words.width g.C.Compression.f in
    c.digest.ensures
    ∙ ap (hash_of F) (ap (take n) (c.leaf_message.ensures ∙ stored_there 0 (0 ∷ e) m (omega (arith, c.requires))) ∙ written_front (0 ∷ e) m n (omega arith))
