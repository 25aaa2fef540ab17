-- Two messages of one digest: the last inputs of the compression that differ collide. Assumes nothing.
use Rattle.std.proofs.Common.{◌≡◌, ℕ, zero, suc, ◌+◌, ◌*◌, ◌/◌, ◌^◌, ◌<◌, ◌≤◌, List, [], ◌∷◌, ◌++◌, reverse, length, take, drop, replicate, Some, sym, refl, ap, ◌∙◌, ap₂, append_assoc, arith, length-append, length-drop, take-append-drop, MatchOption}
use mathlib.Core.List.{reverse-append, reverse-reverse, head-eq_of_cons-eq}
use lib.ListN.{length-replicate}
use Rattle.std.proofs.lemmas.List.{take_all, nil_from_length, take-append-le, drop-append-le, length-reverse, length-take-le}
use Rattle.std.specs.List.{flat_map, slice_get}
use Rattle.hash.specs.Hash.{Hashing, gap, padded, cut, blocks, hash_of}
use Rattle.hash.specs.Collisions.{Bytes, same_input, inputs, inputs_apart, parting, Collides}
use Rattle.cipher.specs.Bytes.{little}
use Rattle.cipher.proofs.Littles.{length_little, little_apart}
use Rattle.cipher.proofs.Pieces.{fronts, backs}
use Rattle.hash.proofs.Padded.{length_cut}
use Rattle.hash.proofs.Chains.{cases_none, back, back_inputs, chain_back, inputs_back, ends_apart}

-- what stands before the length
abbrev body : Bytes → Bytes
body m = m ++ (128 ∷ replicate (gap (length m)) 0)

-- the blocks before the last one
abbrev early : Bytes → ℕ
early m = length (body m) / 16

length_body : (m : Bytes) → length (body m) ≡ length m + 1 + gap (length m)
length_body m = length-append m (128 ∷ replicate (gap (length m)) 0) ∙ omega (arith, length-replicate {A = ℕ} (gap (length m)) 0)

body_mod : (m : Bytes) → length (body m) ≡ 16 * early m + 8
body_mod m = let e = length_body m in omega arith

padded_body : (m : Bytes) → padded m ≡ body m ++ little 8 (length m)
padded_body m = sym (append_assoc m (128 ∷ replicate (gap (length m)) 0) (little 8 (length m)))

length_padded : (m : Bytes) → length (padded m) ≡ 16 * early m + 16
length_padded m =
    ap length (padded_body m) ∙ length-append (body m) (little 8 (length m)) ∙ omega (arith, body_mod m, length_little 8 (length m))

-- the last block: eight bytes of the body, and the length
abbrev last : Bytes → Bytes
last m = drop (16 * early m) (body m) ++ little 8 (length m)

abbrev front : Bytes → Bytes
front m = take (16 * early m) (body m)

padded_parts : (m : Bytes) → padded m ≡ front m ++ last m
padded_parts m =
    padded_body m
    ∙ ap (λ (z : Bytes). z ++ little 8 (length m)) (sym (take-append-drop (16 * early m) (body m)))
    ∙ append_assoc (front m) (drop (16 * early m) (body m)) (little 8 (length m))

length_front : (m : Bytes) → length (front m) ≡ 16 * early m
length_front m = length-take-le (16 * early m) (body m) (omega (arith, body_mod m))

length_tail : (m : Bytes) → length (drop (16 * early m) (body m)) ≡ 8
length_tail m = length-drop (16 * early m) (body m) ∙ omega (arith, body_mod m)

length_last : (m : Bytes) → length (last m) ≡ 16
length_last m = length-append (drop (16 * early m) (body m)) (little 8 (length m)) ∙ omega (arith, length_tail m, length_little 8 (length m))

-- blocks off a list of whole blocks and one more
cut_last : (c : ℕ) (xs t : Bytes) → length xs ≡ 16 * c → length t ≡ 16 → cut 16 (suc c) (xs ++ t) ≡ cut 16 c xs ++ (t ∷ [])
cut_last zero xs t e l =
    ap (λ (z : Bytes). z ∷ []) (ap (λ (z : Bytes). take 16 (z ++ t)) (nil_from_length xs (omega (arith, e))) ∙ take_all 16 t (omega (arith, l)))
cut_last (suc c) xs t e l =
    let h : 16 ≤ length xs = omega (arith, e) in
    let r = cut_last c (drop 16 xs) t (length-drop 16 xs ∙ omega (arith, e)) l in
    λ i. take-append-le 16 xs t h i ∷ (ap (cut 16 (suc c)) (drop-append-le 16 xs t h) ∙ r) i

-- pieces put together again
abbrev flat : List Bytes → Bytes
flat = flat_map (λ b. b)

flat_cut : (w c : ℕ) (xs : Bytes) → length xs ≡ w * c → flat (cut w c xs) ≡ xs
flat_cut w zero xs e = sym (nil_from_length xs (omega (arith, e)))
flat_cut w (suc c) xs e =
    ap (λ (z : Bytes). take w xs ++ z) (flat_cut w c (drop w xs) (length-drop w xs ∙ omega (arith, e))) ∙ take-append-drop w xs

count_is : (m : Bytes) → length (padded m) / 16 ≡ suc (early m)
count_is m = omega (arith, length_padded m)

flat_blocks : (m : Bytes) → flat (blocks m) ≡ padded m
flat_blocks m = flat_cut 16 (length (padded m) / 16) (padded m) (omega (arith, length_padded m))

blocks_parts : (m : Bytes) → blocks m ≡ cut 16 (early m) (front m) ++ (last m ∷ [])
blocks_parts m =
    ap (λ c. cut 16 c (padded m)) (count_is m)
    ∙ ap (cut 16 (suc (early m))) (padded_parts m)
    ∙ cut_last (early m) (front m) (last m) (length_front m) (length_last m)

reverse_blocks : (m : Bytes) → reverse (blocks m) ≡ last m ∷ reverse (cut 16 (early m) (front m))
reverse_blocks m = ap reverse (blocks_parts m) ∙ reverse-append (cut 16 (early m) (front m)) (last m ∷ [])

-- the last block tells the message's length
last_length : (m m' : Bytes) → length m < 2 ^ 64 → length m' < 2 ^ 64 → last m ≡ last m' → length m ≡ length m'
last_length m m' h h' e =
    little_apart 8 (length m) (length m') h h'
    (backs 8 (drop (16 * early m) (body m)) (little 8 (length m)) (drop (16 * early m') (body m')) (little 8 (length m')) (length_tail m) (length_tail m') e)

-- so the last blocks of two messages are the same only where the messages have one length
nth_last : (xs : List Bytes) (t : Bytes) → slice_get (xs ++ (t ∷ [])) (length xs) ≡ Some t
nth_last [] t = refl
nth_last (x ∷ xs) t = nth_last xs t

last_block : (m : Bytes) (j : ℕ) → j + 1 ≡ length (blocks m) → slice_get (blocks m) j ≡ Some (last m)
last_block m j e =
    let c : length (cut 16 (early m) (front m)) ≡ early m = length_cut 16 (early m) (front m) in
    let n : length (blocks m) ≡ early m + 1 = ap length (blocks_parts m) ∙ length-append (cut 16 (early m) (front m)) (last m ∷ []) ∙ omega arith in
    let k : j ≡ length (cut 16 (early m) (front m)) = omega arith in
    ap₂ (λ (bs : List Bytes) (i : ℕ). slice_get bs i) (blocks_parts m) k ∙ nth_last (cut 16 (early m) (front m)) (last m)

pub ending_length : (m m' : Bytes) (j k : ℕ) (b : Bytes) → length m < 2 ^ 64 → length m' < 2 ^ 64 → j + 1 ≡ length (blocks m) → k + 1 ≡ length (blocks m') →
    slice_get (blocks m) j ≡ Some b → slice_get (blocks m') k ≡ Some b → length m ≡ length m'
ending_length m m' j k b h h' p p' q q' =
    let e : Some (last m) ≡ Some (last m') = sym (last_block m j p) ∙ q ∙ sym q' ∙ last_block m' k p' in
    let s : last m ≡ last m' = cc in
    last_length m m' h h' s

early_is : (m m' : Bytes) → length m ≡ length m' → early m ≡ early m'
early_is m m' e = ap (λ n. n / 16) (length_body m ∙ ap (λ n. n + 1 + gap n) e ∙ sym (length_body m'))

-- two messages of one digest
pub hash_apart : (f : Hashing) (m m' : Bytes) → length m < 2 ^ 64 → length m' < 2 ^ 64 → hash_of f m ≡ hash_of f m' →
    MatchOption (inputs_apart f m m') (m ≡ m') (λ p. Collides f p.0 p.1)
hash_apart f m m' h h' e =
    let rest = reverse (cut 16 (early m) (front m)) in
    let rest' = reverse (cut 16 (early m') (front m')) in
    let long : (c : Bytes) → length (reverse (cut 16 (early c) (front c))) ≡ early c = λ c. length-reverse (cut 16 (early c) (front c)) ∙ length_cut 16 (early c) (front c) in
    let at : (c : Bytes) → hash_of f c ≡ back f f.start (last c ∷ reverse (cut 16 (early c) (front c))) =
    λ c. chain_back f f.start (blocks c) [] ∙ ap (back f f.start) (reverse_blocks c) in
    let ins : (c : Bytes) → reverse (inputs f f.start (blocks c)) ≡ back_inputs f f.start (last c ∷ reverse (cut 16 (early c) (front c))) =
    λ c. inputs_back f f.start (blocks c) [] ∙ ap (back_inputs f f.start) (reverse_blocks c) in
    let found = ends_apart f f.start (last m) (last m') rest rest' (λ q. long m ∙ early_is m m' (last_length m m' h h' q) ∙ sym (long m')) (sym (at m) ∙ e ∙ at m') in
    let equal : (last m ∷ rest) ≡ (last m' ∷ rest') → m ≡ m' = λ q.
    let bs : blocks m ≡ blocks m' =
    sym (reverse-reverse (blocks m)) ∙ ap reverse (reverse_blocks m ∙ q ∙ sym (reverse_blocks m')) ∙ reverse-reverse (blocks m') in
    let ps : padded m ≡ padded m' = sym (flat_blocks m) ∙ ap flat bs ∙ flat_blocks m' in
    fronts (length m') m _ m' _ (last_length m m' h h' (head-eq_of_cons-eq q)) refl ps in
    rw (ins m, ins m')
    (cases_none (parting same_input (back_inputs f f.start (last m ∷ rest)) (back_inputs f f.start (last m' ∷ rest'))) _ _ (λ p. Collides f p.0 p.1) equal found)
