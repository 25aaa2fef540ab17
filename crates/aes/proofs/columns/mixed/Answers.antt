use Rattle.std.proofs.Common.{◌≡◌, ℕ, ◌/◌, ◌%◌, List, [], ◌∷◌, ◌++◌, get_or, take, drop, ap, ◌∙◌}
use Rattle.cipher.specs.Bytes.{little}
use Rattle.aes.specs.Field.{S, times}
use Rattle.aes.specs.Fours.{left_8, left_16, left_24, xors_words}
use Rattle.aes.proofs.Rounds.{mixes}
use Rattle.aes.proofs.columns.mixed.Goals as goal

-- the words rotated by one, two and three bytes, and then all four xored
pub returns : goal.returns
returns c =
    let spread_is : (v w x : ℕ) → little 4 x ≡ times 2 (S v) ∷ S v ∷ S v ∷ times 3 (S v) ∷ [] → v ≡ w → little 4 x ≡ times 2 (S w) ∷ S w ∷ S w ∷ times 3 (S w) ∷ [] =
    λ v w x e q. e ∙ ap (λ u. times 2 (S u) ∷ S u ∷ S u ∷ times 3 (S u) ∷ []) q in
    let s₀ = spread_is _ (c.args.a % 256) _ c.spread.ensures (ap (λ l. get_or l 0 0) c.to_le_bytes.ensures) in
    let s₁ = spread_is _ (c.args.b / 256 % 256) _ c.spread-2.ensures (ap (λ l. get_or l 1 0) c.to_le_bytes-2.ensures) in
    let s₂ = spread_is _ (c.args.c / 65536 % 256) _ c.spread-3.ensures (ap (λ l. get_or l 2 0) c.to_le_bytes-3.ensures) in
    let s₃ = spread_is _ (c.args.d / 16777216 % 256) _ c.spread-4.ensures (ap (λ l. get_or l 3 0) c.to_le_bytes-4.ensures) in
    let r₁ = ap (little 4) c.rotate_left.ensures ∙ left_8 c.spread-2.result c.spread-2.type_inv ∙ ap (λ (l : List ℕ). drop 3 l ++ take 3 l) s₁ in
    let r₂ = ap (little 4) c.rotate_left-2.ensures ∙ left_16 c.spread-3.result c.spread-3.type_inv ∙ ap (λ (l : List ℕ). drop 2 l ++ take 2 l) s₂ in
    let r₃ = ap (little 4) c.rotate_left-3.ensures ∙ left_24 c.spread-4.result c.spread-4.type_inv ∙ ap (λ (l : List ℕ). drop 1 l ++ take 1 l) s₃ in
    xors_words c.spread.result c.rotate_left.result c.rotate_left-2.result c.rotate_left-3.result _ _ _ _ s₀ r₁ r₂ r₃
    ∙ mixes (S (c.args.a % 256)) (S (c.args.b / 256 % 256)) (S (c.args.c / 65536 % 256)) (S (c.args.d / 16777216 % 256))
