use Rattle.std.proofs.Common.{◌≡◌, ℕ, ◌+◌, ◌*◌, ◌≤◌, Bool, cond, List, [], ◌∷◌, ◌++◌, length, Some, sym, refl, ap, ◌∙◌, subst, ap₂, append_assoc, append-nil, mul-zero, arith, rules, length-append}
use Rattle.std.specs.Iterator.Adapters.{enumerate_source, enumerate_count}
use Rattle.std.specs.List.{flat_map}
use Rattle.cipher.specs.Bytes.{little, written}
use Rattle.cipher.proofs.Pieces.{stored_there}
use Rattle.stack.specs.Held.{popped}
use Rattle.stack.proofs.Lengths.{length_popped}
use Rattle.hash.specs.Collisions.{Bytes}
use Rattle.hash.specs.Hash.{from_zeros}
use Rattle.tree.specs.declared.spans.Span.{Span}
use Rattle.tree.specs.Ways.{way_leaves}
use Rattle.roots.proofs.Ranges.{root_there}
use Rattle.paths.specs.Payloads.{way_payload, way_size, wrote}
use Rattle.paths.specs.Ranges.{Within, span_digest}
use Rattle.paths.proofs.Ranged.{all_there}
use Rattle.paths.proofs.Writing.{written_none, write_more, long_more, payload_written, way_within, way_most, place, sized, fits_all, digests_all}
use Rattle.paths.proofs.write.way_into.Goals as goal

pub loop-k-init : goal.loop-k-init
loop-k-init g c =
    let w = g.C.Value.Words.width in
    let way = c.args.way in
    let it = c.into_iter-k-iterator.result in
    let src : enumerate_source it ≡ c.in_ok-ranges.ranges = search rules in
    let none : 0 ≡ enumerate_count it = search rules in
    let all = all_there w (length c.args.spans.now) 0 way (popped c.in_ok-ranges.ranges) c.in_ok-ranges.ensures in (
      subst (Within (way_leaves way)) (sym (ap popped src ∙ all.1)) (way_within way all.0),
      ([], refl, none, sym (mul-zero w), written_none c.store_number-2.new.into 8),
    )

pub overflow_mul-k : goal.overflow_mul-k
overflow_mul-k g c =
    let w = g.C.Value.Words.width in
    let ranges = c.in_ok-ranges.ranges in
    let q = c.in-Some.ensures.steps in
    let left = popped (enumerate_source c.next.new.self) in
    let d = c.loop-k.invariant.1 in
    let src : enumerate_source c.into_iter-k-iterator.result ≡ ranges = search rules in
    let all : d.0 ++ (c.in-Some.range ∷ left) ≡ popped ranges = ap (λ (x : List Span). d.0 ++ x) (sym q.0) ∙ d.1 ∙ ap popped src in
    let fit : 8 + c.in-Some.k * c.size-width.result + w ≤ length c.args.out.now =
    place d.0 (popped ranges) c.in-Some.range left c.in-Some.k c.size-width.result w c.len.result (length c.args.out.now) all (d.2 ∙ sym q.1) c.size-width.ensures
    (c.len.ensures ∙ sym (length_popped ranges)) c.if-out-size.false in
    search rules

pub overflow_add-k : goal.overflow_add-k
overflow_add-k g c =
    let w = g.C.Value.Words.width in
    let ranges = c.in_ok-ranges.ranges in
    let q = c.in-Some.ensures.steps in
    let left = popped (enumerate_source c.next.new.self) in
    let d = c.loop-k.invariant.1 in
    let src : enumerate_source c.into_iter-k-iterator.result ≡ ranges = search rules in
    let all : d.0 ++ (c.in-Some.range ∷ left) ≡ popped ranges = ap (λ (x : List Span). d.0 ++ x) (sym q.0) ∙ d.1 ∙ ap popped src in
    let fit : 8 + c.in-Some.k * c.size-width.result + w ≤ length c.args.out.now =
    place d.0 (popped ranges) c.in-Some.range left c.in-Some.k c.size-width.result w c.len.result (length c.args.out.now) all (d.2 ∙ sym q.1) c.size-width.ensures
    (c.len.ensures ∙ sym (length_popped ranges)) c.if-out-size.false in
    search rules

pub loop-k-preserved : goal.loop-k-preserved
loop-k-preserved g c =
    let w = g.C.Value.Words.width in
    let ranges = c.in_ok-ranges.ranges in
    let q = c.in-Some.ensures.steps in
    let left = popped (enumerate_source c.next.new.self) in
    let d = c.loop-k.invariant.1 in
    let src : enumerate_source c.into_iter-k-iterator.result ≡ ranges = search rules in
    let all : d.0 ++ (c.in-Some.range ∷ left) ≡ popped ranges = ap (λ (x : List Span). d.0 ++ x) (sym q.0) ∙ d.1 ∙ ap popped src in
    let fit : 8 + c.in-Some.k * c.size-width.result + w ≤ length c.args.out.now =
    place d.0 (popped ranges) c.in-Some.range left c.in-Some.k c.size-width.result w c.len.result (length c.args.out.now) all (d.2 ∙ sym q.1) c.size-width.ensures
    (c.len.ensures ∙ sym (length_popped ranges)) c.if-out-size.false in
    let b = g.C.Value.Words.bytes in
    let xs = g.L.Leaves.items c.args.leaves.now in
    let F = from_zeros w g.C.Compression.f in
    let s = c.in-Some.range in
    let way = c.args.way in
    let there = (all_there w (length c.args.spans.now) 0 way (popped ranges) c.in_ok-ranges.ensures).0 in
    let t : Within (way_leaves way) (s ∷ left) = subst (Within (way_leaves way)) q.0 c.loop-k.invariant.0 in
    let most = way_most way there in
    let top : way_leaves way ≤ length xs = omega (arith, c.leaves.ensures, c.count.ensures.value) in
    let new : Bytes = b c.in_ok-digest.digest in
    let long : length new ≡ w = g.met.C.Value.Words.sized c.in_ok-digest.digest in
    let at : ℕ = 8 + c.in-Some.k * c.size-width.result in
    let there-at : at ≡ 8 + length d.0 * w = ap₂ (λ (x y : ℕ). 8 + x * y) (q.1 ∙ sym d.2) c.size-width.ensures in
    let o = c.loop-k.auto.out in
    let p = c.store_number-2.auto.into in
    let r = c.store_number.auto.into in
    let k = c.loop-k.auto.cells in
    let low = t.0 in
    let high = t.1 in
    let is : new ≡ span_digest F xs s = root_there b F xs s.from s.to (length c.loop-k.cells) c.in_ok-digest.digest t.0 (omega arith) (omega arith) (omega arith) c.in_ok-digest.ensures in (
      t.2,
      (
        d.0 ++ (s ∷ []),
        append_assoc d.0 (s ∷ []) left ∙ ap (λ (x : List Span). d.0 ++ x) (sym q.0) ∙ d.1,
        omega (arith, length-append d.0 (s ∷ []), d.2, q.2),
        long_more (span_digest F xs) d.0 s new w d.3 is long,
        c.store.ensures ∙ stored_there at new c.loop-k.out (omega arith)
            ∙ write_more (span_digest F xs) d.0 s c.store_number-2.new.into c.loop-k.out new 8 w at d.4 d.3 there-at is (omega arith),
      ),
    )

pub returns-clause-size : goal.returns-clause-size
returns-clause-size g c =
    let w = g.C.Value.Words.width in
    let F = from_zeros w g.C.Compression.f in
    let way = c.args.way in
    let xs = g.L.Leaves.items c.args.leaves.now in
    let ranges = c.in_ok-ranges.ranges in
    let cells = length c.args.cells.now in
    let room = length c.args.out.now in
    let top : way_leaves way ≤ length xs = omega (arith, c.leaves.ensures, c.count.ensures.value) in
    let many = c.len.ensures ∙ sym (length_popped ranges) in
    let same : 8 + c.size-width.result * c.len.result ≡ 8 + w * c.len.result = ap (λ (x : ℕ). 8 + x * c.len.result) c.size-width.ensures in
    let fit : 8 + w * c.len.result ≤ room = omega (arith, same, c.if-out-size.false) in
    let is = c.in_ok-ranges.ensures in
    ap Some (same ∙ sized F xs way (length c.args.spans.now) cells c.len.result room (popped ranges) is many top (omega arith) fit)
    ∙ sym (ap (λ (t : Bool). wrote t (way_size w way)) (fits_all F xs way (length c.args.spans.now) cells c.len.result room (popped ranges) is many top (omega arith) fit))

pub returns-clause-bytes : goal.returns-clause-bytes
returns-clause-bytes g c =
    let w = g.C.Value.Words.width in
    let F = from_zeros w g.C.Compression.f in
    let way = c.args.way in
    let xs = g.L.Leaves.items c.args.leaves.now in
    let ranges = c.in_ok-ranges.ranges in
    let cells = length c.args.cells.now in
    let out = c.args.out.now in
    let room = length out in
    let top : way_leaves way ≤ length xs = omega (arith, c.leaves.ensures, c.count.ensures.value) in
    let many = c.len.ensures ∙ sym (length_popped ranges) in
    let same : 8 + c.size-width.result * c.len.result ≡ 8 + w * c.len.result = ap (λ (x : ℕ). 8 + x * c.len.result) c.size-width.ensures in
    let fit : 8 + w * c.len.result ≤ room = omega (arith, same, c.if-out-size.false) in
    let is = c.in_ok-ranges.ensures in
    let d = c.loop-k.invariant.1 in
    let src : enumerate_source c.into_iter-k-iterator.result ≡ ranges = search rules in
    let none : popped (enumerate_source c.loop-k.k-iterator) ≡ [] = c.in-None.ensures.steps.0.0 in
    let all : d.0 ≡ popped ranges = sym (append-nil d.0) ∙ ap (λ (x : List Span). d.0 ++ x) (sym none) ∙ d.1 ∙ ap popped src in
    let J : Bytes = flat_map (span_digest F xs) (popped ranges) in
    let long : length J ≡ w * c.len.result = ap (λ (x : List Span). length (flat_map (span_digest F xs) x)) (sym all) ∙ d.3 ∙ ap (λ (k : ℕ). w * k) (ap length all ∙ sym many) in
    let x = c.numbers-first.result.0 in
    let y = c.numbers-first.result.1 in
    let whole = digests_all F xs way (length c.args.spans.now) cells c.len.result room (popped ranges) is many top (omega arith) fit in
    payload_written out J c.loop-k.out c.store_number.new.into c.store_number-2.new.into x y c.store_number.ensures c.store_number-2.ensures
    (d.4 ∙ ap (λ (z : List Span). written 8 (flat_map (span_digest F xs) z) c.store_number-2.new.into) all) (omega arith)
    ∙ ap₂ (λ (n : ℕ × ℕ) (z : Bytes). written 0 (little 4 n.0 ++ (little 4 n.1 ++ z)) out) c.numbers-first.ensures whole
    ∙ sym (ap (λ (t : Bool). cond t (written 0 (way_payload F xs way) out) out) (fits_all F xs way (length c.args.spans.now) cells c.len.result room (popped ranges) is many top (omega arith) fit))
