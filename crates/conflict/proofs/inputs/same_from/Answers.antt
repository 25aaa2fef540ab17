use Rattle.std.proofs.Common.{◌≡◌, ℕ, ◌+◌, Bool, true, false, not, List, refl, sym, ap, ◌∙◌, subst, arith}
use Rattle.std.proofs.lemmas.Slice.Eq.{bytes_eq-Decides}
use Rattle.std.proofs.lemmas.Bool.{both_ways}
use Rattle.std.specs.Str.{bytes_eq}
use Rattle.cipher.specs.Blocks.{block_bytes}
use Rattle.hash.specs.Hash.{blocks, from_zeros, value_before}
use Rattle.hash.proofs.Padded.{length_blocks}
use Rattle.hash.proofs.Values.{past, value_more}
use Rattle.conflict.proofs.Positions.{one_more, blocks_even}
use Rattle.conflict.proofs.inputs.same_from.Goals as goal
use Rattle.conflict.proofs.inputs.same_from.Goals.{then-ne, else-ne}

unequal : (t : Bool) → not t ≡ true → t ≡ false
unequal false e = refl
unequal true e = sym e

equal : (t : Bool) → not t ≡ false → t ≡ true
equal true e = refl
equal false e = sym e

pub overflow_add-k-end : goal.overflow_add-k-end
overflow_add-k-end g c = record { fits = omega (arith, c.last_block-k-end.ensures, length_blocks c.args.x.now) }

pub returns-in_default : goal.returns-in_default
returns-in_default g c =
    let x : List ℕ = c.args.x.now in
    absurd (omega (arith, past (blocks x) c.loop-k.k (sym c.in_default.ensures), c.last_block-k-end.ensures))

pub returns-in_default-padded_block : goal.returns-in_default-padded_block
returns-in_default-padded_block g c =
    let x : List ℕ = c.args.x.now in
    let y : List ℕ = c.args.y.now in
    absurd (omega (arith, past (blocks y) c.loop-k.k (sym c.in_default-padded_block.ensures), c.last_block-k-end.ensures, blocks_even x y c.requires))

pub loop-k-preserved : goal.loop-k-preserved
loop-k-preserved g c =
    let b = g.C.Value.Words.bytes in
    let f = g.C.Compression.f in
    let F = from_zeros g.C.Value.Words.width f in
    let x : List ℕ = c.args.x.now in
    let y : List ℕ = c.args.y.now in
    let k : ℕ = c.loop-k.k in
    let i = c.loop-k.invariant in
    let eq = g.met.C.Value.Words.equals in
    let u : List ℕ = block_bytes c.in-Some.a in
    let v : List ℕ = block_bytes c.in-Some-padded_block.b in
    let V : ℕ → Type 0 = λ j. value_before F x j ≡ value_before F y j in
    let few = i.2 in
    let one : b c.compress-first.result ≡ value_before F x (k + 1) =
    c.compress-first.ensures ∙ ap (λ (h : List ℕ). f h u) i.0 ∙ sym (value_more F x k u (sym c.in-Some.ensures)) in
    let two : b c.compress-second.result ≡ value_before F y (k + 1) =
    c.compress-second.ensures ∙ ap (λ (h : List ℕ). f h v) i.1 ∙ sym (value_more F y k v (sym c.in-Some-padded_block.ensures)) in
    elim c.if-ne.branch [
      | then-ne w ↦ (
          let at = w.from-is in
          let not : V k → ⊥ = λ e. both_ways (bytes_eq (b c.loop-k.first) (b c.loop-k.second)) (sym (eq _ _) ∙ unequal _ (sym c.ne.ensures ∙ w.if-ne.true)) ((bytes_eq-Decides _ _).1 (i.0 ∙ e ∙ sym i.1)) in
          (one, two, omega arith, (λ j p q. absurd (omega arith)), (λ j e q. let z : j ≡ k = omega arith in not (subst V z q))))
      | else-ne w ↦ (
          let at = w.from-is in
          let same : V k = sym i.0 ∙ (bytes_eq-Decides _ _).0 (sym (eq _ _) ∙ equal _ (sym c.ne.ensures ∙ w.if-ne.false)) ∙ i.1 in
          (one, two, omega arith, (λ j p q. one_more V c.loop-k.from k i.3 same j (omega arith) q), (λ j e q. i.4 j (omega arith) q)))
    ]
