use Rattle.std.proofs.Common.{◌≡◌, ℕ, ◌≤◌, List, [], ◌∷◌, ◌++◌, length}
use Rattle.stack.specs.Held.{held}
use Rattle.hash.specs.Hash.{from_zeros}
use Rattle.tree.specs.Digests.{node_digest}
use Rattle.roots.specs.Rows.{Rows}
use Rattle.roots.proofs.range.settle.Given as goal

abbrev pub invariant-loop-stack : goal.invariant-loop-stack
invariant-loop-stack g l =
    (length l.stack.cells.now ≡ length l.initial.stack.cells.now)
    × (l.stack.len ≤ l.initial.stack.len)
    × ((xs : List (List ℕ)) → Rows (node_digest (from_zeros g.C.Value.Words.width g.C.Compression.f)) g.C.Value.Words.bytes 1 (held l.initial.stack) xs
    → Rows (node_digest (from_zeros g.C.Value.Words.width g.C.Compression.f)) g.C.Value.Words.bytes 0 (held l.stack ++ l.top ∷ []) (xs ++ g.C.Value.Words.bytes l.initial.top.digest ∷ []))

abbrev pub decreases-loop-stack : goal.decreases-loop-stack
decreases-loop-stack g l = l.stack.len
