use Rattle.std.proofs.Common.{◌≡◌, ◌*◌, List, ◌++◌, length}
use Rattle.std.specs.Iterator.Adapters.{enumerate_source, enumerate_count}
use Rattle.std.specs.List.{flat_map}
use Rattle.cipher.specs.Bytes.{written}
use Rattle.stack.specs.Held.{popped}
use Rattle.hash.specs.Collisions.{Bytes}
use Rattle.hash.specs.Hash.{from_zeros}
use Rattle.tree.specs.declared.spans.Span.{Span}
use Rattle.tree.specs.Ways.{way_leaves}
use Rattle.paths.specs.Ranges.{Within, span_digest}
use Rattle.paths.proofs.write.way_into.Given as goal

abbrev pub invariant-loop-k : goal.invariant-loop-k
invariant-loop-k g l =
    let digest : Span → Bytes = span_digest (from_zeros g.C.Value.Words.width g.C.Compression.f) (g.L.Leaves.items l.leaves) in
    let left = popped (enumerate_source l.k-iterator) in
    Within (way_leaves l.fn.way) left
    × ((ds : List Span) × (ds ++ left ≡ popped (enumerate_source l.initial.k-iterator)) × (length ds ≡ enumerate_count l.k-iterator)
    × (length (flat_map digest ds) ≡ g.C.Value.Words.width * length ds)
    × (l.out ≡ written 8 (flat_map digest ds) l.initial.out))
