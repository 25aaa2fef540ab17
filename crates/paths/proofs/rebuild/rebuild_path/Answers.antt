use Rattle.std.proofs.Common.{◌≡◌, Bool, cond, map, length, Some, None, sym, ap, ◌∙◌, ap₂, rules}
use Rattle.stack.specs.declared.Stack.{Stack}
use Rattle.stack.specs.Held.{popped}
use Rattle.stack.proofs.Lengths.{length_popped}
use Rattle.hash.specs.Hash.{from_zeros, cut}
use Rattle.paths.specs.declared.digests.Digests.{Digests}
use Rattle.tree.specs.declared.spans.Span.{Span}
use Rattle.tree.specs.declared.ways.Way.TheVariants.{ToLeaf}
use Rattle.tree.specs.Digests.{rebuilt}
use Rattle.tree.specs.Spans.{path_spans}
use Rattle.tree.specs.Ways.{side_of}
use Rattle.paths.specs.Climbs.{climbed, joined}
use Rattle.paths.specs.Ranges.{digests_in}
use Rattle.paths.proofs.Climbs.{climbed_done, zip_done, reads, new_told}
use Rattle.paths.proofs.rebuild.rebuild_path.Goals as goal

pub returns : goal.returns
returns g c =
    let b = g.C.Value.Words.bytes in
    let w = g.C.Value.Words.width in
    let F = from_zeros w g.C.Compression.f in
    let p = c.args.path.now in
    let cells = length c.args.cells.now in
    let way = ToLeaf c.args.i c.args.n in
    let l = c.loop-span in
    let ss = popped c.in_ok-spans.spans in
    let ds = digests_in w c.in_ok-digests.digests.bytes.now in
    let is = c.in_ok-spans.ensures in
    let e = c.in_ok-digests.ensures in
    let many = c.len.ensures ∙ sym (length_popped c.in_ok-spans.spans) in
    let end = climbed_done (joined F) (b l.root) (map (side_of way) (popped l.span-iterator.a)) (digests_in w l.span-iterator.b.bytes.now)
    (zip_done (side_of way) b popped (λ d. digests_in w d.bytes.now) l.span-iterator.a l.span-iterator.b c.in-None.ensures.steps) in
    let it = c.into_iter-span-iterator.result in
    let same-a : it.a ≡ c.in_ok-spans.spans = search rules in
    let same-b : it.b ≡ c.in_ok-digests.digests = search rules in
    let start = ap₂ (λ (x : Stack Span) (y : Digests _). climbed (joined F) (b c.args.digest) (map (side_of way) (popped x)) (digests_in w y.bytes.now)) same-a same-b in
    let up = new_told F way cells c.len.result ss is many (b c.args.digest) p ds e in
    ap Some (sym end ∙ l.invariant ∙ start ∙ up)
    ∙ sym (ap (λ (t : Bool). cond t (Some (rebuilt F c.args.i c.args.n (b c.args.digest) (cut w (length (path_spans c.args.i c.args.n)) p))) None) (reads F way cells c.len.result ss is many p ds e))
