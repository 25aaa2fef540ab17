use Rattle.std.proofs.Common.{◌≡◌, ℕ, ◌+◌, ◌<◌, length, get_or, take, drop, sym, ap, subst, ◌∙◌, arith, length-drop}
use Rattle.std.proofs.lemmas.List.{get_or-take, get_or-drop, length-take-le}
use Rattle.cipher.proofs.Pieces.{piece_is}
use Rattle.aes.specs.Fours.{four_whole}
use Rattle.aes.proofs.words.load_word.Goals as goal

pub returns : goal.returns
returns c =
    let xs = c.args.from.now in
    let i = c.args.at in
    let ys = c.unwrap.result in
    let is : ys ≡ take 4 (drop i xs) = (piece_is i 4 xs ys (sym c.unwrap.ensures ∙ c.bytes_at.ensures)).1 in
    let small : (k : ℕ) → k < 4 → get_or ys k 0 < 256 =
    λ k h. subst (λ b. b < 256) (sym (ap (λ l. get_or l k 0) is ∙ get_or-take 4 (drop i xs) k 0 h ∙ get_or-drop i xs k 0)) (c.type_inv.from (i + k)).fits in
    four_whole ys c.from_le_bytes.result (ap length is ∙ length-take-le 4 (drop i xs) (omega (arith, length-drop i xs))) small c.from_le_bytes.ensures ∙ is
