use Rattle.std.proofs.Common.{◌≡◌, map, Option}
use Rattle.std.specs.List.{zip}
use Rattle.stack.specs.Held.{popped}
use Rattle.hash.specs.Collisions.{Bytes}
use Rattle.hash.specs.Hash.{from_zeros}
use Rattle.tree.specs.Ways.{side_of}
use Rattle.paths.specs.Climbs.{climbed, both_joined}
use Rattle.paths.specs.Parts.{apart_of}
use Rattle.paths.specs.Ranges.{digests_in}
use Rattle.paths.proofs.apart.ways_apart.Given as goal

abbrev pub invariant-loop-span : goal.invariant-loop-span
invariant-loop-span g l =
    let w = g.C.Value.Words.width in
    let b = g.C.Value.Words.bytes in
    let up = climbed (both_joined (from_zeros w g.C.Compression.f)) in
    let ss = map (side_of l.way) (popped l.span-iterator.a) in
    let ds = zip (digests_in w l.span-iterator.b.a.bytes.now) (digests_in w l.span-iterator.b.b.bytes.now) in
    let all-ss = map (side_of l.way) (popped l.initial.span-iterator.a) in
    let all-ds = zip (digests_in w l.initial.span-iterator.b.a.bytes.now) (digests_in w l.initial.span-iterator.b.b.bytes.now) in
    (o : Option (Bytes × Bytes)) →
    up (b l.ways.first, b l.ways.second, apart_of b o l.ways.apart) ss ds ≡ up (b l.fn.first, b l.fn.second, o) all-ss all-ds
