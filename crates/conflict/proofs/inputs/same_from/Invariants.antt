use Rattle.std.proofs.Common.{◌≡◌, ℕ, ◌+◌, ◌<◌, ◌≤◌}
use Rattle.hash.specs.Hash.{from_zeros, value_before}
use Rattle.conflict.proofs.inputs.same_from.Given as goal

abbrev pub invariant-loop-k : goal.invariant-loop-k
invariant-loop-k g l =
    let F = from_zeros g.C.Value.Words.width g.C.Compression.f in
    (g.C.Value.Words.bytes l.first ≡ value_before F l.x l.k)
    × (g.C.Value.Words.bytes l.second ≡ value_before F l.y l.k)
    × (l.from ≤ l.k)
    × ((j : ℕ) → l.from ≤ j → j < l.k → value_before F l.x j ≡ value_before F l.y j)
    × ((j : ℕ) → l.from ≡ j + 1 → value_before F l.x j ≡ value_before F l.y j → ⊥)
