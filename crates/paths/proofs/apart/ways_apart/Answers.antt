use Rattle.std.proofs.Common.{◌≡◌, ℕ, ◌*◌, cond, eqb, [], ◌⊎◌, map, length, Some, None, Option, sym, ap, ◌∙◌, subst, rules}
use Rattle.std.specs.List.{zip}
use Rattle.stack.specs.Held.{popped}
use Rattle.stack.proofs.Lengths.{length_popped}
use Rattle.hash.specs.Collisions.{Bytes}
use Rattle.hash.specs.Hash.{from_zeros, cut}
use Rattle.tree.specs.Ways.{side_of}
use Rattle.paths.specs.Climbs.{climbed, both_joined}
use Rattle.paths.specs.Parts.{apart_of}
use Rattle.paths.specs.Ranges.{digests_in}
use Rattle.paths.proofs.Climbs.{climbed_done, both_done, part_told}
use Rattle.paths.proofs.apart.ways_apart.Goals as goal

pub returns : goal.returns
returns g c =
    let b = g.C.Value.Words.bytes in
    let w = g.C.Value.Words.width in
    let F = from_zeros w g.C.Compression.f in
    let way = c.args.way in
    let d = b c.args.first in
    let d' = b c.args.second in
    let l = c.loop-span in
    let a = l.span-iterator.a in
    let x = l.span-iterator.b.a in
    let y = l.span-iterator.b.b in
    let it = c.into_iter-span-iterator.result in
    let same-a : it.a ≡ c.in_ok-spans.spans = search rules in
    let same-x : it.b.a ≡ c.in_ok-digests.digests = search rules in
    let same-y : it.b.b ≡ c.in_ok-others.others = search rules in
    let many = c.len.ensures ∙ sym (length_popped c.in_ok-spans.spans) in
    let e = c.in_ok-digests.ensures in
    let h = subst (λ (j : ℕ). Some (digests_in w c.in_ok-others.others.bytes.now) ≡ cond (eqb (length c.args.other.now) (w * j)) (Some (cut w j c.args.other.now)) None)
    (c.len-2.ensures ∙ sym c.len.ensures) c.in_ok-others.ensures in
    let over : (map (side_of way) (popped a) ≡ []) ⊎ (zip (digests_in w x.bytes.now) (digests_in w y.bytes.now) ≡ []) =
    both_done (side_of way) b popped (λ d. digests_in w d.bytes.now) a x y c.in-None.ensures.steps in
    λ o.
    let state : Bytes × Bytes × Option (Bytes × Bytes) = (b l.ways.first, b l.ways.second, apart_of b o l.ways.apart) in
    ap (λ (t : Bytes × Bytes × Option (Bytes × Bytes)). Some t.2)
    (sym (climbed_done (both_joined F) state (map (side_of way) (popped a)) (zip (digests_in w x.bytes.now) (digests_in w y.bytes.now)) over)
    ∙ l.invariant o
    ∙ (λ i. climbed (both_joined F) (d, d', o) (map (side_of way) (popped (same-a i))) (zip (digests_in w (same-x i).bytes.now) (digests_in w (same-y i).bytes.now))))
    ∙ part_told F way (length c.args.cells.now) c.len.result (popped c.in_ok-spans.spans) c.in_ok-spans.ensures many d c.args.paper.now d' c.args.other.now
    (digests_in w c.in_ok-digests.digests.bytes.now) (digests_in w c.in_ok-others.others.bytes.now) o e h
