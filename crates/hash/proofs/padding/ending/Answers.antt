use Rattle.std.proofs.Common.{◌≡◌, ℕ, ◌-◌, ◌*◌, ◌/◌, ◌%◌, List, [], ◌∷◌, ◌++◌, length, take, drop, replicate, sym, ap, ◌∙◌, append-nil, arith, length-drop}
use Rattle.std.proofs.lemmas.List.{drop_all}
use Rattle.cipher.specs.Bytes.{little}
use Rattle.cipher.proofs.Littles.{little_eight}
use Rattle.hash.proofs.Padded.{block_short, block_long, mark_front, mark_length}
use Rattle.hash.proofs.padding.ending.Goals as goal

pub returns-then-n-lt8 : goal.returns-then-n-lt8
returns-then-n-lt8 c =
    let m : List ℕ = c.args.message.now in
    let k : ℕ = length m / 16 in
    let n : ℕ = length m % 16 in
    let t : List ℕ = drop (16 * k) m in
    let e : length m - 16 * k ≡ n = omega arith in
    let long : length t ≡ n = length-drop (16 * k) m ∙ e in
    let b : List ℕ = c.marked-block.result in
    let full : length b ≡ 16 = ap length c.marked-block.ensures ∙ mark_length t n long (omega arith) in
    let front : take 8 b ≡ t ++ (128 ∷ replicate (7 - n) 0) = ap (take 8) c.marked-block.ensures ∙ mark_front t n long c.if-n-lt8.true in
    let written : c.copy_from_slice.new.self ≡ little 8 (length m) = c.copy_from_slice.ensures.after ∙ c.to_le_bytes.ensures ∙ sym (little_eight (length m)) in
    let past : drop 8 (drop 8 b) ≡ [] = drop_all 8 (drop 8 b) (omega (arith, length-drop 8 b)) in
    ap (λ l. l ++ (c.copy_from_slice.new.self ++ drop 8 (drop 8 b))) front
    ∙ ap (λ l. (t ++ (128 ∷ replicate (7 - n) 0)) ++ (l ++ drop 8 (drop 8 b))) written
    ∙ ap (λ l. (t ++ (128 ∷ replicate (7 - n) 0)) ++ (little 8 (length m) ++ l)) past
    ∙ ap (λ l. (t ++ (128 ∷ replicate (7 - n) 0)) ++ l) (append-nil (little 8 (length m)))
    ∙ ap (λ j. (t ++ (128 ∷ replicate (7 - j) 0)) ++ little 8 (length m)) (sym e)
    ∙ sym (block_short m k (omega arith) (omega (arith, c.if-n-lt8.true)))

pub returns-else-n-lt8 : goal.returns-else-n-lt8
returns-else-n-lt8 c =
    let m : List ℕ = c.args.message.now in
    let k : ℕ = length m / 16 in
    let e : length m - 16 * k ≡ length m % 16 = omega arith in
    c.marked-block.ensures
    ∙ ap (λ j. drop (16 * k) m ++ (128 ∷ replicate (15 - j) 0)) (sym e)
    ∙ sym (block_long m k (omega arith) (omega (arith, c.if-n-lt8.false)) (omega arith))
