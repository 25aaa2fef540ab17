-- Numbers and digests as bytes, both ways. Assumes nothing.
use Rattle.std.proofs.Common.{◌≡◌, ℕ, zero, suc, ◌*◌, ◌≤◌, List, [], ◌∷◌, ◌++◌, length, take, drop, sym, refl, ap, ◌∙◌, arith, length-append, length-drop, take-append-drop}
use Rattle.std.proofs.lemmas.List.{nil_from_length, take_at, drop_at, drop-drop, length-take-le}
use Rattle.cipher.specs.Bytes.{little, number}
use Rattle.cipher.proofs.Littles.{Small, little_number}
use Rattle.hash.specs.Hash.{cut}
use Rattle.hash.specs.Collisions.{Bytes}
use Rattle.record.specs.Frames.{AllBytes}
use Rattle.tree.specs.Digests.{Digests}
use Rattle.record.specs.Records.{flat}

small : (bs : Bytes) → AllBytes bs → Small bs
small [] h = tt
small (b ∷ bs) h = (h.0, small bs h.1)

pub all_take : (n : ℕ) (bs : Bytes) → AllBytes bs → AllBytes (take n bs)
all_take zero bs h = tt
all_take (suc n) [] h = tt
all_take (suc n) (b ∷ bs) h = (h.0, all_take n bs h.1)

pub all_drop : (n : ℕ) (bs : Bytes) → AllBytes bs → AllBytes (drop n bs)
all_drop zero bs h = h
all_drop (suc n) [] h = tt
all_drop (suc n) (b ∷ bs) h = all_drop n bs h.1

pub all_left : (xs ys : Bytes) → AllBytes (xs ++ ys) → AllBytes xs
all_left [] ys h = tt
all_left (x ∷ xs) ys h = (h.0, all_left xs ys h.1)

-- a number of four bytes at the front, spelled again
pub four : (bs : Bytes) → 4 ≤ length bs → AllBytes bs → little 4 (number (take 4 bs)) ++ drop 4 bs ≡ bs
four bs l h =
    let e : length (take 4 bs) ≡ 4 = length-take-le 4 bs l in
    ap (λ (z : Bytes). z ++ drop 4 bs) (ap (λ k. little k (number (take 4 bs))) (sym e) ∙ little_number (take 4 bs) (small (take 4 bs) (all_take 4 bs h))) ∙ take-append-drop 4 bs

pub eight : (bs : Bytes) → 8 ≤ length bs → AllBytes bs → little 4 (number (take 4 bs)) ++ (little 4 (number (take 4 (drop 4 bs))) ++ drop 8 bs) ≡ bs
eight bs l h =
    let k : 4 ≤ length (drop 4 bs) = omega (arith, length-drop 4 bs) in
    let rest : little 4 (number (take 4 (drop 4 bs))) ++ drop 8 bs ≡ drop 4 bs =
    ap (λ (z : Bytes). little 4 (number (take 4 (drop 4 bs))) ++ z) (sym (drop-drop 4 4 bs)) ∙ four (drop 4 bs) k (all_drop 4 bs h) in
    let few : 4 ≤ length bs = omega (arith, l) in
    ap (λ (z : Bytes). little 4 (number (take 4 bs)) ++ z) rest ∙ four bs few h

-- digests one after the other
pub length_flat : (w : ℕ) (ps : List Bytes) → Digests w ps → length (flat ps) ≡ w * length ps
length_flat w [] d = omega arith
length_flat w (p ∷ ps) d = length-append p (flat ps) ∙ (let r = length_flat w ps d.1 in omega (arith, d.0))

pub cut_flat : (w : ℕ) (ps : List Bytes) → Digests w ps → cut w (length ps) (flat ps) ≡ ps
cut_flat w [] d = refl
cut_flat w (p ∷ ps) d =
    λ i. take_at p (flat ps) w d.0 i ∷ (ap (cut w (length ps)) (drop_at p (flat ps) w d.0) ∙ cut_flat w ps d.1) i

pub digests_cut : (w c : ℕ) (xs : Bytes) → length xs ≡ w * c → Digests w (cut w c xs)
digests_cut w zero xs e = tt
digests_cut w (suc c) xs e = (length-take-le w xs (omega (arith, e)), digests_cut w c (drop w xs) (length-drop w xs ∙ omega (arith, e)))

pub flat_cut : (w c : ℕ) (xs : Bytes) → length xs ≡ w * c → flat (cut w c xs) ≡ xs
flat_cut w zero xs e = sym (nil_from_length xs (omega (arith, e)))
flat_cut w (suc c) xs e =
    ap (λ (z : Bytes). take w xs ++ z) (flat_cut w c (drop w xs) (length-drop w xs ∙ omega (arith, e))) ∙ take-append-drop w xs
