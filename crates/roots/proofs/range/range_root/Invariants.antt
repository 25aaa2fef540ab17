use Rattle.std.proofs.Common.{◌-◌, ◌≤◌, length, take, drop}
use Rattle.stack.specs.Held.{held}
use Rattle.hash.specs.Hash.{from_zeros}
use Rattle.tree.specs.Digests.{node_digest}
use Rattle.roots.specs.Rows.{Rows, Pending}
use Rattle.roots.proofs.range.range_root.Given as goal

abbrev pub invariant-loop-i : goal.invariant-loop-i
invariant-loop-i g l =
    (21 ≤ length l.stack.cells.now)
    × Rows (node_digest (from_zeros g.C.Value.Words.width g.C.Compression.f)) g.C.Value.Words.bytes 1 (held l.stack) (take (l.i - l.a) (drop l.a (g.L.Leaves.items l.leaves)))

abbrev pub invariant-loop-below : goal.invariant-loop-below
invariant-loop-below g l =
    Pending (node_digest (from_zeros g.C.Value.Words.width g.C.Compression.f)) g.C.Value.Words.bytes (held l.stack) (g.C.Value.Words.bytes l.root) (take (l.b - l.a) (drop l.a (g.L.Leaves.items l.leaves)))

abbrev pub decreases-loop-below : goal.decreases-loop-below
decreases-loop-below g l = l.stack.len
