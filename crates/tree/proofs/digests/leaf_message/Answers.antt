use Rattle.std.proofs.Common.{◌≡◌, ℕ, ◌+◌, ◌-◌, List, ◌∷◌, ◌++◌, length, take, drop, set, sym, ap, ◌∙◌, arith, length-set}
use borrow.Rule.Slice.PartMut.{put_mid}
use Rattle.std.proofs.lemmas.List.{drop-drop}
use Rattle.cipher.proofs.Pieces.{stored_there, stored_short}
use Rattle.tree.proofs.Tagged.{tag_written}
use Rattle.tree.proofs.digests.leaf_message.Goals as goal

pub returns-then-into-entry : goal.returns-then-into-entry
returns-then-into-entry c = sym (stored_short 0 (0 ∷ c.args.entry.now) c.args.into.now (omega arith))

pub returns : goal.returns
returns c =
    let xs : List ℕ = c.args.into.now in
    let e : List ℕ = c.args.entry.now in
    let k : 1 + length e - 1 ≡ length e = omega arith in
    let lz : length (set xs 0 0) ≡ length xs = length-set xs 0 0 in
    let z : List ℕ = set xs 0 0 in
    ap (put_mid 1 (1 + length e - 1) z) c.copy_from_slice.ensures.after
    ∙ ap (λ (t : List ℕ). take 1 z ++ (e ++ t)) (ap (λ (n : ℕ). drop n (drop 1 z)) k ∙ drop-drop (length e) 1 z)
    ∙ tag_written 0 e xs (omega arith) ∙ sym (stored_there 0 (0 ∷ e) xs (omega arith))
