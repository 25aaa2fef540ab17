use Rattle.std.proofs.Common.{◌≡◌, map}
use Rattle.stack.specs.Held.{popped}
use Rattle.hash.specs.Hash.{from_zeros}
use Rattle.tree.specs.Ways.{side_of}
use Rattle.paths.specs.Climbs.{climbed, joined}
use Rattle.paths.specs.Ranges.{digests_in}
use Rattle.paths.proofs.rebuild.rebuild_path.Given as goal

abbrev pub invariant-loop-span : goal.invariant-loop-span
invariant-loop-span g l =
    let w = g.C.Value.Words.width in
    let b = g.C.Value.Words.bytes in
    let up = climbed (joined (from_zeros w g.C.Compression.f)) in
    up (b l.root) (map (side_of l.way) (popped l.span-iterator.a)) (digests_in w l.span-iterator.b.bytes.now)
    ≡ up (b l.fn.digest) (map (side_of l.way) (popped l.initial.span-iterator.a)) (digests_in w l.initial.span-iterator.b.bytes.now)
