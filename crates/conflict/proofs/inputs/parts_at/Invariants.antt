use Rattle.std.proofs.Common.{◌≡◌, ◌≤◌, length}
use Rattle.hash.specs.Hash.{blocks, from_zeros}
use Rattle.hash.specs.Collisions.{inputs_apart}
use Rattle.conflict.proofs.Positions.{fronts_part}
use Rattle.conflict.proofs.inputs.parts_at.Given as goal

abbrev pub invariant-loop-k : goal.invariant-loop-k
invariant-loop-k g l =
    let F = from_zeros g.C.Value.Words.width g.C.Compression.f in
    (l.k ≤ length (blocks l.x))
    × (l.from ≤ l.k)
    × (fronts_part F l.x l.y l.k l.k ≡ inputs_apart F l.x l.y)

abbrev pub decreases-loop-k : goal.decreases-loop-k
decreases-loop-k g l = l.k
