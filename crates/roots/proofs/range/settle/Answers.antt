use Rattle.std.proofs.Common.{◌≡◌, [], ◌∷◌, ◌++◌, refl, ◌∙◌, le_refl, arith, rules}
use borrow.Author.Tests.{false-ltb, true-ltb}
use Rattle.std.proofs.lemmas.List.{length_push}
use Rattle.stack.specs.Held.{held}
use Rattle.stack.proofs.Lengths.{held_none}
use Rattle.hash.specs.Hash.{from_zeros}
use Rattle.tree.specs.Digests.{node_digest}
use Rattle.roots.proofs.Passing.{from_push, pushed, alone, both, merged, few_cells, height_most}
use Rattle.roots.proofs.range.settle.Goals as goal

pub loop-stack-init : goal.loop-stack-init
loop-stack-init g c =
    (refl, le_refl _, λ xs r. pushed (node_digest (from_zeros g.C.Value.Words.width g.C.Compression.f)) g.C.Value.Words.bytes (held c.args.stack.now) xs _ refl r)

pub returns-in-None : goal.returns-in-None
returns-in-None g c =
    let b = g.C.Value.Words.bytes in
    let node = node_digest (from_zeros g.C.Value.Words.width g.C.Compression.f) in
    let s = c.loop-stack.stack in
    let p = c.in-None.ensures.places in
    let k = c.loop-stack.invariant.0 in
    let room = c.requires.cells in
    let t = false-ltb 0 s.len c.in-None.ensures.some in
    let z : s.len ≡ 0 = omega arith in
    let size = c.in-None.ensures.size in
    record {
      size = c.push.ensures.size ∙ size ∙ k;
      rows = from_push _ _ c.push.result _ _ _ _ c.push.ensures.used c.push.ensures.left (omega arith)
          (λ e xs r. alone node b (held s) (held c.pop.new.self) _ c.loop-stack.top (xs ++ b c.args.leaf ∷ []) (held_none s z)
          c.in-None.ensures.used e (c.loop-stack.invariant.2 xs r));
    }

pub returns-then-below-top : goal.returns-then-below-top
returns-then-below-top g c =
    let b = g.C.Value.Words.bytes in
    let node = node_digest (from_zeros g.C.Value.Words.width g.C.Compression.f) in
    let s = c.loop-stack.stack in
    let w = c.requires.rows in
    let room = c.requires.cells in
    let k = c.loop-stack.invariant.0 in
    let j = c.loop-stack.invariant.1 in
    let f = few_cells node b c.args.stack.now.cells.now c.args.stack.now.len w.0 c.args.stack.now.ok w.1 w.2 in
    let p = c.in-Some.ensures.places in
    let size = c.in-Some.ensures.size in
    let o = true-ltb 0 s.len c.in-Some.ensures.some in
    let q = c.in_ok-push-in-Some.ensures.places in
    let z = c.in_ok-push-in-Some.ensures.size in
    record {
      size = c.push-then-below-top-2.ensures.size ∙ z ∙ size ∙ k;
      rows = from_push _ _ c.push-then-below-top-2.result _ _ _ _ c.push-then-below-top-2.ensures.used c.push-then-below-top-2.ensures.left (omega arith)
          (λ e xs r. both node b (held s) (held c.pop.new.self) _ _ c.in-Some.below c.loop-stack.top (xs ++ b c.args.leaf ∷ []) c.if-below-top.true
          c.in-Some.ensures.used c.in_ok-push-in-Some.ensures.used e (c.loop-stack.invariant.2 xs r));
    }

pub overflow_add-top : goal.overflow_add-top
overflow_add-top g c =
    let b = g.C.Value.Words.bytes in
    let node = node_digest (from_zeros g.C.Value.Words.width g.C.Compression.f) in
    let w = c.requires.rows in
    let l = length_push w.0 (b c.args.leaf) in
    let h = height_most node b (held c.loop-stack.stack) c.loop-stack.top (w.0 ++ b c.args.leaf ∷ []) (omega arith) (c.loop-stack.invariant.2 w.0 w.2) in
    search rules

pub loop-stack-preserved : goal.loop-stack-preserved
loop-stack-preserved g c =
    let b = g.C.Value.Words.bytes in
    let node = node_digest (from_zeros g.C.Value.Words.width g.C.Compression.f) in
    let s = c.loop-stack.stack in
    let p = c.in-Some.ensures.places in
    let k = c.loop-stack.invariant.0 in
    let j = c.loop-stack.invariant.1 in (
      c.in-Some.ensures.size ∙ k,
      omega arith,
      λ xs r. merged node b (held s) (held c.pop.new.self) c.in-Some.below c.loop-stack.top _ (xs ++ b c.args.leaf ∷ [])
          c.if-below-top.false c.in-Some.ensures.used refl c.node.ensures (c.loop-stack.invariant.2 xs r),
    )
