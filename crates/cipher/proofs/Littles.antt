-- Numbers as little-endian bytes, at any width. Assumes nothing.
use Rattle.std.proofs.Common.{◌≡◌, ℕ, zero, suc, ◌+◌, ◌*◌, ◌/◌, ◌%◌, ◌^◌, ◌<◌, ◌≤◌, List, [], ◌∷◌, ◌++◌, length, get_or, take, drop, replicate, sym, refl, ap, subst, ◌∙◌, arith, rules, length-drop}
use lib.Bits.{bit_xor}
use Rattle.std.proofs.lemmas.Nat.{xor_shr, xor_mod}
use Rattle.std.proofs.Math.Seq.{take-length}
use Rattle.std.proofs.lemmas.List.{drop_more, get_or-take, get_or-drop, length-take-le, take-append-drop}
use Rattle.cipher.specs.Bytes.{little, number, xors}
use Rattle.cipher.specs.Blocks.{block_bytes}
use Rattle.cipher.specs.declared.words.Block.{Block}

pub length_little : (k n : ℕ) → length (little k n) ≡ k
unfolding little
length_little zero n = refl
length_little (suc k) n = ap suc (length_little k (n / 256))

pub little_zero : (k : ℕ) → little k 0 ≡ replicate k 0
unfolding little
little_zero zero = refl
little_zero (suc k) = ap (λ (l : List ℕ). 0 ∷ l) (little_zero k)

pub xors_little : (k a b : ℕ) → xors (little k a) (little k b) ≡ little k (bit_xor a b)
unfolding little
xors_little zero a b = refl
xors_little (suc k) a b =
    let low : bit_xor (a % 256) (b % 256) ≡ bit_xor a b % 256 = sym (xor_mod a b 8) in
    let high : bit_xor (a / 256) (b / 256) ≡ bit_xor a b / 256 = sym (xor_shr a b 8) in
    let rest = xors_little k (a / 256) (b / 256) in
    cc

pub number_little : (k n : ℕ) → n < 256 ^ k → number (little k n) ≡ n
unfolding little
number_little zero n h = omega arith
number_little (suc k) n h =
    let b : n / 256 < 256 ^ k = omega arith in
    let rest = number_little k (n / 256) b in
    omega arith

-- numbers of k bytes are told apart by their bytes
pub little_apart : (k a b : ℕ) → a < 256 ^ k → b < 256 ^ k → little k a ≡ little k b → a ≡ b
little_apart k a b h i e = sym (number_little k a h) ∙ ap number e ∙ number_little k b i

-- bytes, all below 256
abbrev pub Small : List ℕ → Type 0
Small [] = Unit {0}
Small (b ∷ bs) = (b < 256) × Small bs

pub little_number : (bs : List ℕ) → Small bs → little (length bs) (number bs) ≡ bs
unfolding little
little_number [] s = refl
little_number (b ∷ bs) s =
    let l = s.0 in
    let low : (b + 256 * number bs) % 256 ≡ b = omega arith in
    let high : (b + 256 * number bs) / 256 ≡ number bs = omega arith in
    let rest = little_number bs s.1 in
    cc

-- eight bytes of a list, from place i on
pub eight_at : (xs : List ℕ) (i : ℕ) → i + 8 ≤ length xs →
    take 8 (drop i xs) ≡ get_or xs i 0 ∷ get_or xs (i + 1) 0 ∷ get_or xs (i + 2) 0 ∷ get_or xs (i + 3) 0 ∷ get_or xs (i + 4) 0 ∷ get_or xs (i + 5) 0 ∷ get_or xs (i + 6) 0 ∷ get_or xs (i + 7) 0 ∷ []
eight_at xs i h =
    let s : (k : ℕ) → k < 8 → drop (i + k) xs ≡ get_or xs (i + k) 0 ∷ drop (i + suc k) xs =
    λ k l. let lt : i + k < length xs = omega arith in drop_more xs (i + k) 0 lt ∙ ap (λ n. get_or xs (i + k) 0 ∷ drop n xs) (omega arith) in
    let z : drop i xs ≡ drop (i + 0) xs = ap (λ n. drop n xs) (omega arith) in
    let y : get_or xs (i + 0) 0 ≡ get_or xs i 0 = ap (λ n. get_or xs n 0) (omega arith) in
    rw (z, s 0 (omega arith), s 1 (omega arith), s 2 (omega arith), s 3 (omega arith), s 4 (omega arith), s 5 (omega arith), s 6 (omega arith), s 7 (omega arith), y) refl

-- eight bytes are those of their number, which is made as `from_le_bytes` makes it
pub little_of_eight : (xs : List ℕ) (n : ℕ) → length xs ≡ 8 → ((i : ℕ) → i < 8 → get_or xs i 0 < 256) →
    n ≡ get_or xs 0 0 + get_or xs 1 0 * 256 + get_or xs 2 0 * 65536 + get_or xs 3 0 * 16777216 + get_or xs 4 0 * 4294967296 + get_or xs 5 0 * 1099511627776 + get_or xs 6 0 * 281474976710656 + get_or xs 7 0 * 72057594037927936 →
    little 8 n ≡ xs
little_of_eight xs n l small e =
    let eight : List ℕ = get_or xs 0 0 ∷ get_or xs 1 0 ∷ get_or xs 2 0 ∷ get_or xs 3 0 ∷ get_or xs 4 0 ∷ get_or xs 5 0 ∷ get_or xs 6 0 ∷ get_or xs 7 0 ∷ [] in
    let is : n ≡ number eight = omega (arith, e) in
    let fits : Small eight = (small 0 (omega arith), (small 1 (omega arith), (small 2 (omega arith), (small 3 (omega arith), (small 4 (omega arith), (small 5 (omega arith), (small 6 (omega arith), (small 7 (omega arith), tt)))))))) in
    ap (little 8) is ∙ little_number eight fits ∙ sym (eight_at xs 0 (omega arith)) ∙ subst (λ k. take k xs ≡ xs) l (take-length xs)

-- sixteen bytes are those of the numbers of their halves
pub little_of_halves : (xs first last : List ℕ) (lo hi : ℕ) → length xs ≡ 16 → ((i : ℕ) → i < 16 → get_or xs i 0 < 256) → first ≡ take 8 xs → last ≡ drop 8 xs →
    lo ≡ get_or first 0 0 + get_or first 1 0 * 256 + get_or first 2 0 * 65536 + get_or first 3 0 * 16777216 + get_or first 4 0 * 4294967296 + get_or first 5 0 * 1099511627776 + get_or first 6 0 * 281474976710656 + get_or first 7 0 * 72057594037927936 →
    hi ≡ get_or last 0 0 + get_or last 1 0 * 256 + get_or last 2 0 * 65536 + get_or last 3 0 * 16777216 + get_or last 4 0 * 4294967296 + get_or last 5 0 * 1099511627776 + get_or last 6 0 * 281474976710656 + get_or last 7 0 * 72057594037927936 →
    little 8 lo ++ little 8 hi ≡ xs
little_of_halves xs first last lo hi l small p q e f =
    let low : little 8 lo ≡ first =
    little_of_eight first lo (ap length p ∙ length-take-le 8 xs (omega arith)) (λ i h. subst (λ b. b < 256) (sym (ap (λ ys. get_or ys i 0) p ∙ get_or-take 8 xs i 0 h)) (small i (omega arith))) e in
    let high : little 8 hi ≡ last =
    little_of_eight last hi (ap length q ∙ omega (arith, length-drop 8 xs)) (λ i h. subst (λ b. b < 256) (sym (ap (λ ys. get_or ys i 0) q ∙ get_or-drop 8 xs i 0)) (small (8 + i) (omega arith))) f in
    rw (low, high, p, q) (take-append-drop 8 xs)

pub xors_append : (xs ys us vs : List ℕ) → length xs ≡ length us → xors (xs ++ ys) (us ++ vs) ≡ xors xs us ++ xors ys vs
xors_append [] ys [] vs e = refl
xors_append [] ys (u ∷ us) vs e = let z : ◌≡◌ {A = ℕ} 0 1 = omega arith in absurd (omega arith)
xors_append (x ∷ xs) ys [] vs e = let z : ◌≡◌ {A = ℕ} 0 1 = omega arith in absurd (omega arith)
xors_append (x ∷ xs) ys (u ∷ us) vs e = ap (λ l. bit_xor x u ∷ l) (xors_append xs ys us vs (omega arith))

pub length_xors : (xs ys : List ℕ) (n : ℕ) → length xs ≡ n → length ys ≡ n → length (xors xs ys) ≡ n
length_xors [] ys n e f = e
length_xors (x ∷ xs) [] n e f = absurd (omega arith)
length_xors (x ∷ xs) (y ∷ ys) zero e f = absurd (omega arith)
length_xors (x ∷ xs) (y ∷ ys) (suc n) e f = ap suc (length_xors xs ys n (omega arith) (omega arith))

pub length_block : (b : Block) → length (block_bytes b) ≡ 16
unfolding little
length_block b = refl

-- eight bytes, as `to_le_bytes` gives them
pub little_eight : (w : ℕ) → little 8 w ≡ (w % 256) ∷ (w / 256 % 256) ∷ (w / 65536 % 256) ∷ (w / 16777216 % 256) ∷ (w / 4294967296 % 256) ∷ (w / 1099511627776 % 256) ∷ (w / 281474976710656 % 256) ∷ (w / 72057594037927936 % 256) ∷ []
unfolding little
little_eight w = search rules
