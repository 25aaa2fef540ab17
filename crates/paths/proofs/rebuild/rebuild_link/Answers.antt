use Rattle.std.proofs.Common.{◌≡◌, Bool, cond, map, length, Some, None, sym, ap, ◌∙◌, ap₂, rules}
use Rattle.stack.specs.declared.Stack.{Stack}
use Rattle.stack.specs.Held.{popped}
use Rattle.stack.proofs.Lengths.{length_popped}
use Rattle.hash.specs.Collisions.{Bytes}
use Rattle.hash.specs.Hash.{from_zeros, cut}
use Rattle.paths.specs.declared.digests.Digests.{Digests}
use Rattle.tree.specs.declared.spans.Span.{Span}
use Rattle.tree.specs.declared.ways.Way.TheVariants.{ToEnd}
use Rattle.tree.specs.Digests.{rebuilt_old, rebuilt_new}
use Rattle.tree.specs.Spans.{link_spans}
use Rattle.tree.specs.Ways.{side_of}
use Rattle.paths.specs.Climbs.{climbed, joined, joined_old}
use Rattle.paths.specs.Ranges.{digests_in}
use Rattle.paths.proofs.Climbs.{climbed_done, zip_done, reads, new_told, old_told}
use Rattle.paths.proofs.rebuild.rebuild_link.Goals as goal

pub returns : goal.returns
returns g c =
    let b = g.C.Value.Words.bytes in
    let w = g.C.Value.Words.width in
    let F = from_zeros w g.C.Compression.f in
    let m = c.args.m in
    let n = c.args.n in
    let d = b c.args.old in
    let p = c.args.link.now in
    let given = cut w (length (link_spans m n)) p in
    let cells = length c.args.cells.now in
    let way = ToEnd m n in
    let l = c.loop-span in
    let ss = popped c.in_ok-spans.spans in
    let ds = digests_in w c.in_ok-digests.digests.bytes.now in
    let is = c.in_ok-spans.ensures in
    let e = c.in_ok-digests.ensures in
    let many = c.len.ensures ∙ sym (length_popped c.in_ok-spans.spans) in
    let it = c.into_iter-span-iterator.result in
    let same-a : it.a ≡ c.in_ok-spans.spans = search rules in
    let same-b : it.b ≡ c.in_ok-digests.digests = search rules in
    let over = zip_done (side_of way) b popped (λ d. digests_in w d.bytes.now) l.span-iterator.a l.span-iterator.b c.in-None.ensures.steps in
    let sides = map (side_of way) (popped l.span-iterator.a) in
    let left = digests_in w l.span-iterator.b.bytes.now in
    let old : b l.roots.old ≡ rebuilt_old F m n d given =
    sym (climbed_done (joined_old F) (b l.roots.old) sides left over) ∙ l.invariant.0
    ∙ ap₂ (λ (x : Stack Span) (y : Digests _). climbed (joined_old F) d (map (side_of way) (popped x)) (digests_in w y.bytes.now)) same-a same-b
    ∙ old_told F way cells c.len.result ss is many d p ds e in
    let new : b l.roots.new ≡ rebuilt_new F m n d given =
    sym (climbed_done (joined F) (b l.roots.new) sides left over) ∙ l.invariant.1
    ∙ ap₂ (λ (x : Stack Span) (y : Digests _). climbed (joined F) d (map (side_of way) (popped x)) (digests_in w y.bytes.now)) same-a same-b
    ∙ new_told F way cells c.len.result ss is many d p ds e in
    ap₂ (λ (x y : Bytes). Some (x, y)) old new
    ∙ sym (ap (λ (t : Bool). cond t (Some (rebuilt_old F m n d given, rebuilt_new F m n d given)) None) (reads F way cells c.len.result ss is many p ds e))
