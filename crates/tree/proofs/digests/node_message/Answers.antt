use Rattle.std.proofs.Common.{◌≡◌, ℕ, ◌+◌, List, ◌∷◌, ◌++◌, length, set, sym, ap, ◌∙◌, arith, length-append, length-set}
use Rattle.cipher.specs.Bytes.{written}
use Rattle.cipher.proofs.Pieces.{stored_there, stored_short, written_written}
use Rattle.tree.proofs.Tagged.{tag_written}
use Rattle.tree.proofs.digests.node_message.Goals as goal

pub returns-then-into-width : goal.returns-then-into-width
returns-then-into-width g c =
    let w : ℕ = c.size-width.result in
    let l : List ℕ = g.D.Words.bytes c.args.left in
    let r : List ℕ = g.D.Words.bytes c.args.right in
    let ll = g.met.D.Words.sized c.args.left in
    let lr = g.met.D.Words.sized c.args.right in
    sym (stored_short 0 (1 ∷ (l ++ r)) c.args.into.now (omega (arith, length-append l r, c.size-width.ensures)))

pub returns : goal.returns
returns g c =
    let w : ℕ = c.size-width.result in
    let l : List ℕ = g.D.Words.bytes c.args.left in
    let r : List ℕ = g.D.Words.bytes c.args.right in
    let xs : List ℕ = c.args.into.now in
    let z : List ℕ = set xs 0 1 in
    let ll : length l ≡ w = omega (arith, g.met.D.Words.sized c.args.left, c.size-width.ensures) in
    let lr : length r ≡ w = omega (arith, g.met.D.Words.sized c.args.right, c.size-width.ensures) in
    let lz : length z ≡ length xs = length-set xs 0 1 in
    let first : c.store.new.into ≡ written 1 l z = c.store.ensures ∙ stored_there 1 l z (omega arith) in
    let long : length c.store.new.into ≡ length xs = omega arith in
    let second : c.store-2.new.into ≡ written (1 + w) r c.store.new.into = c.store-2.ensures ∙ stored_there (1 + w) r c.store.new.into (omega arith) in
    second ∙ ap (λ b. written (1 + w) r b) first ∙ written_written z 1 l r w ll (omega arith)
    ∙ tag_written 1 (l ++ r) xs (omega arith) ∙ sym (stored_there 0 (1 ∷ (l ++ r)) xs (omega (arith, length-append l r)))
