use Rattle.std.proofs.Common.{◌≡◌, ℕ, ◌+◌, ◌-◌, List, length, sym, ap, ◌∙◌, arith}
use Rattle.hash.specs.Hash.{blocks, from_zeros}
use Rattle.hash.proofs.Padded.{length_blocks}
use Rattle.conflict.proofs.Positions.{fronts_part, all_part, blocks_even, back_from, back_here, back_below}
use Rattle.conflict.proofs.inputs.parts_at.Goals as goal

pub overflow_add-k : goal.overflow_add-k
overflow_add-k g c = record { fits = omega (arith, c.last_block-k.ensures, length_blocks c.args.x.now) }

pub loop-k-init : goal.loop-k-init
loop-k-init g c =
    let F = from_zeros g.C.Value.Words.width g.C.Compression.f in
    let x : List ℕ = c.args.x.now in
    let y : List ℕ = c.args.y.now in
    let e = c.last_block-k.ensures in
    let e' : c.last_block-k.result + 1 ≡ length (blocks y) = e ∙ blocks_even x y c.requires in
    let few = c.same_from-from.ensures.few in
    (omega arith, omega arith, (λ i. fronts_part F x y (e i) (e' i)) ∙ all_part F x y)

pub loop-k-preserved : goal.loop-k-preserved
loop-k-preserved g c =
    let F = from_zeros g.C.Value.Words.width g.C.Compression.f in
    let x : List ℕ = c.args.x.now in
    let y : List ℕ = c.args.y.now in
    let k : ℕ = c.loop-k.k - 1 in
    let up : k + 1 ≡ c.loop-k.k = omega arith in
    let even = blocks_even x y c.requires in
    let s = c.same_from-from.ensures in
    let from = c.same_from-from.result in
    let in-x = c.loop-k.invariant.0 in
    let few = c.loop-k.invariant.1 in
    let t = c.same_at.result in (
      omega arith,
      back_from F x y from k (omega arith) (omega arith) (omega arith) (λ l. s.same k l (omega arith)) (s.apart k) t c.same_at.ensures c.if-not-same_at.false,
      sym (back_below F x y from k (omega arith) (omega arith) (omega arith) (λ l. s.same k l (omega arith)) (s.apart k) t c.same_at.ensures c.if-not-same_at.false)
          ∙ ap (λ (j : ℕ). fronts_part F x y j j) up ∙ c.loop-k.invariant.2,
    )

pub returns : goal.returns
returns g c =
    let F = from_zeros g.C.Value.Words.width g.C.Compression.f in
    let x : List ℕ = c.args.x.now in
    let y : List ℕ = c.args.y.now in
    let k : ℕ = c.loop-k.k - 1 in
    let up : k + 1 ≡ c.loop-k.k = omega arith in
    let even = blocks_even x y c.requires in
    let s = c.same_from-from.ensures in
    let in-x = c.loop-k.invariant.0 in
    let few = c.loop-k.invariant.1 in
    sym c.loop-k.invariant.2 ∙ sym (ap (λ (j : ℕ). fronts_part F x y j j) up)
    ∙ back_here F x y c.same_from-from.result k (omega arith) (omega arith) (omega arith) (λ l. s.same k l (omega arith)) (s.apart k) c.same_at.result c.same_at.ensures c.if-not-same_at.true
