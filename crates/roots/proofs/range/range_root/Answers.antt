use Rattle.std.proofs.Common.{◌≡◌, ℕ, ◌-◌, ◌<◌, ◌≤◌, List, length, take, drop, Some, Result, Ok, Err, MatchResult, sym, ap, ◌∙◌, subst, arith, length-drop}
use borrow.Author.Tests.{false-ltb}
use Rattle.std.proofs.lemmas.List.{length-take-le}
use Rattle.stack.specs.Held.{held}
use Rattle.stack.proofs.Lengths.{held_none}
use Rattle.hash.specs.Hash.{from_zeros}
use Rattle.tree.specs.Digests.{node_digest}
use Rattle.roots.specs.Rows.{Rows}
use Rattle.roots.proofs.Passing.{started, folded, ended, no_row}
use Rattle.roots.proofs.Ranges.{is_leaf, no_leaf, range_more, ranged_root, root_is_met}
use Rattle.roots.proofs.range.range_root.Goals as goal

-- a result that is never an error
took : {P E : Type 0} (r : Result (Unit {0}) E) → MatchResult r (λ _. P) (λ _. ⊥) → P
took (Ok u) p = p
took (Err e) n = absurd n

pub returns-in_err-leaf : goal.returns-in_err-leaf
returns-in_err-leaf g c =
    let n = c.count.ensures.value in
    let h : c.loop-i.i < length (g.L.Leaves.items c.args.leaves.now) = omega arith in
    absurd (no_leaf g.C.Value.Words.bytes (g.L.Leaves.items c.args.leaves.now) c.loop-i.i h c.in_err-leaf.ensures)

pub settle-requires : goal.settle-requires
settle-requires g c =
    let xs = g.L.Leaves.items c.args.leaves.now in
    let a = c.args.a in
    let n = c.count.ensures.value in
    let d = length-drop a xs in
    let l = length-take-le (c.loop-i.i - a) (drop a xs) (omega arith) in
    record { cells = c.loop-i.invariant.0; rows = (take (c.loop-i.i - a) (drop a xs), omega arith, c.loop-i.invariant.1) }

pub loop-i-preserved : goal.loop-i-preserved
loop-i-preserved g c =
    let b = g.C.Value.Words.bytes in
    let node = node_digest (from_zeros g.C.Value.Words.width g.C.Compression.f) in
    let xs = g.L.Leaves.items c.args.leaves.now in
    let a = c.args.a in
    let i = c.loop-i.i in
    let n = c.count.ensures.value in
    let z = c.settle.ensures.size in
    let m = c.loop-i.invariant.0 in
    let h : i < length xs = omega arith in (
      omega arith,
      subst (λ (ys : List (List ℕ)). Rows node b 1 (held c.settle.new.stack) ys)
          (sym (range_more xs a i (b c.in_ok-leaf.field-0) (omega arith) h (is_leaf b xs i c.in_ok-leaf.field-0 h c.in_ok-leaf.ensures)))
          (took c.settle.result c.settle.ensures.rows (take (i - a) (drop a xs)) c.loop-i.invariant.1),
    )

pub returns-in_err-root : goal.returns-in_err-root
returns-in_err-root g c =
    let b = g.C.Value.Words.bytes in
    let node = node_digest (from_zeros g.C.Value.Words.width g.C.Compression.f) in
    let xs = g.L.Leaves.items c.args.leaves.now in
    let a = c.args.a in
    let i = c.loop-i.i in
    let n = c.count.ensures.value in
    let s = c.loop-i.stack in
    let t = false-ltb 0 s.len c.in_err-root.ensures.some in
    let e : s.len ≡ 0 = omega arith in
    let up : i ≤ c.args.b = c.loop-i.auto.i-end (omega arith) in
    let z = no_row node b (held s) (take (i - a) (drop a xs)) (held_none s e) c.loop-i.invariant.1 in
    let d = length-drop a xs in
    let l = length-take-le (i - a) (drop a xs) (omega arith) in
    absurd (omega arith)

pub loop-below-init : goal.loop-below-init
loop-below-init g c =
    let b = g.C.Value.Words.bytes in
    let node = node_digest (from_zeros g.C.Value.Words.width g.C.Compression.f) in
    let xs = g.L.Leaves.items c.args.leaves.now in
    let a = c.args.a in
    let up : c.loop-i.i ≤ c.args.b = c.loop-i.auto.i-end (omega arith) in
    let e : c.loop-i.i ≡ c.args.b = omega arith in
    started node b (held c.loop-i.stack) (held c.pop.new.self) c.in_ok-root.field-0 (take (c.args.b - a) (drop a xs)) c.in_ok-root.ensures.used
    (subst (λ (k : ℕ). Rows node b 1 (held c.loop-i.stack) (take (k - a) (drop a xs))) e c.loop-i.invariant.1)

pub loop-below-preserved : goal.loop-below-preserved
loop-below-preserved g c =
    let b = g.C.Value.Words.bytes in
    let node = node_digest (from_zeros g.C.Value.Words.width g.C.Compression.f) in
    let xs = g.L.Leaves.items c.args.leaves.now in
    folded node b (held c.loop-below.stack) (held c.pop-in-loop-below.new.self) c.in-Some.below (b c.loop-below.root) (b c.node-root.result)
    (take (c.args.b - c.args.a) (drop c.args.a xs)) c.in-Some.ensures.used c.node-root.ensures c.loop-below.invariant

pub returns : goal.returns
returns g c =
    let b = g.C.Value.Words.bytes in
    let F = from_zeros g.C.Value.Words.width g.C.Compression.f in
    let xs = g.L.Leaves.items c.args.leaves.now in
    let s = c.loop-below.stack in
    let n = c.count.ensures.value in
    let t = false-ltb 0 s.len c.in_default.ensures.some in
    let e : s.len ≡ 0 = omega arith in
    let low : c.args.a < c.args.b = omega arith in
    let top : c.args.b ≤ length xs = omega arith in
    ap Some (root_is_met F xs c.args.a c.args.b (b c.loop-below.root) low top
    (ended (node_digest F) b (held s) (b c.loop-below.root) (take (c.args.b - c.args.a) (drop c.args.a xs)) (held_none s e) c.loop-below.invariant))
    ∙ sym (ranged_root F xs c.args.a c.args.b (length c.args.cells.now) low top (omega arith) (omega arith))
