use Rattle.std.proofs.Common.{◌≡◌, ℕ, ◌+◌, ◌*◌, ◌/◌, ◌≤◌, List, ◌++◌, length, Some, sym, ap, ◌∙◌, arith}
use Rattle.std.proofs.lemmas.List.{take_all}
use Rattle.cipher.specs.Bytes.{little}
use Rattle.cipher.proofs.Littles.{little_zero}
use Rattle.cipher.proofs.Pieces.{piece_there}
use Rattle.hash.specs.Hash.{padded}
use Rattle.hash.proofs.Padded.{block, length_block_at, nth_block, no_block, block_inside, block_past}
use Rattle.hash.proofs.padding.padded_block.Goals as goal
use Rattle.hash.proofs.padding.padded_block.Goals.{else-k-whole-3-via-then-k-whole-3+else-n-ge8, else-k-whole-3-via-else-k-whole-3}

-- a block of the message
pub returns-then-k-whole : goal.returns-then-k-whole
returns-then-k-whole c =
    let m : List ℕ = c.args.message.now in
    let k : ℕ = c.args.k in
    c.load.ensures
    ∙ piece_there (16 * k) 16 m (omega (arith, c.if-k-whole.true))
    ∙ ap (λ (l : List ℕ). Some l) (sym (block_inside m k (omega (arith, c.if-k-whole.true))))
    ∙ sym (nth_block m k (omega (arith, c.if-k-whole.true)))

-- the block in which it ends
pub returns-then-k-whole-2 : goal.returns-then-k-whole-2
returns-then-k-whole-2 c =
    let m : List ℕ = c.args.message.now in
    let k : ℕ = c.args.k in
    let b : List ℕ = c.ending.result in
    let at : k ≡ length m / 16 = c.if-k-whole-2.true in
    let is : b ≡ block (padded m) k = c.ending.ensures ∙ ap (block (padded m)) (sym at) in
    let long : length b ≡ 16 = ap length is ∙ length_block_at m k (omega arith) in
    c.load-then-k-whole-2.ensures
    ∙ piece_there 0 16 b (omega arith)
    ∙ ap (λ (l : List ℕ). Some l) (take_all 16 b (omega arith) ∙ is)
    ∙ sym (nth_block m k (omega arith))

-- zeros and the length
pub returns-then-n-ge8 : goal.returns-then-n-ge8
returns-then-n-ge8 c =
    let m : List ℕ = c.args.message.now in
    let k : ℕ = c.args.k in
    ap (λ (l : List ℕ). Some (l ++ little 8 (length m))) (little_zero 8)
    ∙ ap (λ (l : List ℕ). Some l) (sym (block_past m k (omega arith) (omega arith)))
    ∙ sym (nth_block m k (omega arith))

-- no block is left
pub returns-else-k-whole-3 : goal.returns-else-k-whole-3
returns-else-k-whole-3 c =
    let m : List ℕ = c.args.message.now in
    let k : ℕ = c.args.k in
    let past : (length m + 24) / 16 ≤ k =
    elim c.else-k-whole-3.branch [
      | else-k-whole-3-via-then-k-whole-3+else-n-ge8 w ↦ omega (arith, w.if-k-whole-3, w.if-n-ge8)
      | else-k-whole-3-via-else-k-whole-3 w ↦ omega (arith, w.if-k-whole-3)
    ] in
    sym (no_block m k past)
