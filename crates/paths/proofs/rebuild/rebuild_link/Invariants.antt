use Rattle.std.proofs.Common.{◌≡◌, map}
use Rattle.stack.specs.Held.{popped}
use Rattle.hash.specs.Hash.{from_zeros}
use Rattle.tree.specs.Ways.{side_of}
use Rattle.paths.specs.Climbs.{climbed, joined, joined_old}
use Rattle.paths.specs.Ranges.{digests_in}
use Rattle.paths.proofs.rebuild.rebuild_link.Given as goal

abbrev pub invariant-loop-span : goal.invariant-loop-span
invariant-loop-span g l =
    let w = g.C.Value.Words.width in
    let b = g.C.Value.Words.bytes in
    let F = from_zeros w g.C.Compression.f in
    let ss = map (side_of l.way) (popped l.span-iterator.a) in
    let ds = digests_in w l.span-iterator.b.bytes.now in
    let all-ss = map (side_of l.way) (popped l.initial.span-iterator.a) in
    let all-ds = digests_in w l.initial.span-iterator.b.bytes.now in
    (climbed (joined_old F) (b l.roots.old) ss ds ≡ climbed (joined_old F) (b l.fn.old) all-ss all-ds)
    × (climbed (joined F) (b l.roots.new) ss ds ≡ climbed (joined F) (b l.fn.old) all-ss all-ds)
