-- Words of 32 bits and their four bytes. Assumes nothing.
use Rattle.std.specs.Prelude.{◌≡◌, ℕ, zero, suc, ◌+◌, ◌*◌, ◌/◌, ◌%◌, ◌^◌, ◌<◌, ◌≤◌, List, [], ◌∷◌, ◌++◌, length, take, drop, bit_or, bit_xor, slice_index, slice_index_or, refl}
use Rattle.std.proofs.Common.{sym, ap, subst, ◌∙◌, append_assoc, zero-add, suc-add, mul_assoc, mul_comm, add-mul, div-add-mod', mod-lt, mul-lt-mul_of_pos_right, arith, shr-shr, take-add}
use Rattle.std.proofs.Math.Nat.{pow-succ', one-le-pow}
use Rattle.std.proofs.Math.Arith.{digits_mod}
use Rattle.std.proofs.lemmas.Nat.{div_below, or_shifted}
use Rattle.std.proofs.Math.Seq.{take-length}
use Rattle.std.proofs.lemmas.List.{drop_more, drop-drop, take_at, drop_at}
use Rattle.cipher.specs.Bytes.{little, number, xors}
use Rattle.cipher.proofs.Littles.{length_little, little_number, xors_little, xors_append}

-- the bytes of a word by their places
pub fours : (w : ℕ) → little 4 w ≡ (w % 256) ∷ (w / 256 % 256) ∷ (w / 65536 % 256) ∷ (w / 16777216 % 256) ∷ []
unfolding little
fours w =
    let p : w / 256 / 256 ≡ w / 65536 = shr-shr w 8 8 in
    let q : w / 65536 / 256 ≡ w / 16777216 = shr-shr w 16 8 in
    cc

-- the word of four bytes has these bytes
pub four_of : (a b c d w : ℕ) → a < 256 → b < 256 → c < 256 → d < 256 → w ≡ a + b * 256 + c * 65536 + d * 16777216 → little 4 w ≡ a ∷ b ∷ c ∷ d ∷ []
four_of a b c d w p q r s is =
    let four : List ℕ = a ∷ b ∷ c ∷ d ∷ [] in
    let n : w ≡ number four = omega arith in
    ap (little 4) n ∙ little_number four (p, (q, (r, (s, tt))))

-- four bytes of a list, from place i on
pub four_at : (xs : List ℕ) (i : ℕ) → i + 4 ≤ length xs → take 4 (drop i xs) ≡ slice_index xs i ∷ slice_index xs (i + 1) ∷ slice_index xs (i + 2) ∷ slice_index xs (i + 3) ∷ []
four_at xs i h =
    let s : (k : ℕ) → k < 4 → drop (i + k) xs ≡ slice_index xs (i + k) ∷ drop (i + suc k) xs =
    λ k l. let lt : i + k < length xs = omega arith in drop_more xs (i + k) 0 lt ∙ ap (λ n. slice_index xs (i + k) ∷ drop n xs) (omega arith) in
    let z : drop i xs ≡ drop (i + 0) xs = ap (λ n. drop n xs) (omega arith) in
    let y : slice_index_or xs (i + 0) 0 ≡ slice_index_or xs i 0 = ap (λ n. slice_index xs n) (omega arith) in
    rw (z, s 0 (omega arith), s 1 (omega arith), s 2 (omega arith), s 3 (omega arith), y) refl

-- four bytes are those of their number
pub four_whole : (xs : List ℕ) (w : ℕ) → length xs ≡ 4 → ((k : ℕ) → k < 4 → slice_index xs k < 256) →
    w ≡ slice_index xs 0 + slice_index xs 1 * 256 + slice_index xs 2 * 65536 + slice_index xs 3 * 16777216 → little 4 w ≡ xs
four_whole xs w l small e =
    four_of _ _ _ _ w (small 0 (omega arith)) (small 1 (omega arith)) (small 2 (omega arith)) (small 3 (omega arith)) e
    ∙ sym (four_at xs 0 (omega arith)) ∙ subst (λ k. take k xs ≡ xs) l (take-length xs)

-- sixteen bytes of a list, four by four
pub sixteen_at : (xs : List ℕ) (i : ℕ) → take 16 (drop i xs) ≡ take 4 (drop i xs) ++ (take 4 (drop (i + 4) xs) ++ (take 4 (drop (i + 8) xs) ++ take 4 (drop (i + 12) xs)))
sixteen_at xs i =
    let d₁ = drop-drop 4 i xs in
    let d₂ = drop-drop 8 i xs in
    let d₃ = drop-drop 12 i xs in
    let e₁ = drop-drop 4 4 (drop i xs) in
    let e₂ = drop-drop 4 8 (drop i xs) in
    let t₁ = take-add 4 12 (drop i xs) in
    let t₂ = take-add 4 8 (drop 4 (drop i xs)) in
    let t₃ = take-add 4 4 (drop 8 (drop i xs)) in
    cc

-- j low bytes and k high ones
joined : (j k a b : ℕ) → a < 256 ^ j → little (j + k) (a + 256 ^ j * b) ≡ little j a ++ little k b
unfolding little
joined zero k a b h = ap (λ m. little m (a + 1 * b)) (zero-add k) ∙ ap (little k) (omega arith)
joined (suc j) k a b h =
    let e : 256 ^ suc j * b ≡ 256 * (256 ^ j * b) = ap (λ m. m * b) (pow-succ' 256 j) ∙ mul_assoc 256 (256 ^ j) b in
    let low : (a + 256 ^ suc j * b) % 256 ≡ a % 256 = omega arith in
    let high : (a + 256 ^ suc j * b) / 256 ≡ a / 256 + 256 ^ j * b = omega arith in
    let rest = joined j k (a / 256) b (omega arith) in
    ap (λ m. little m (a + 256 ^ suc j * b)) (suc-add j k) ∙ cc

-- a word of j + k bytes rotated left by j bytes, which are m bits
rotated : (j k m w : ℕ) → 256 ^ j ≡ 2 ^ m → w < 256 ^ j * 256 ^ k →
    little (j + k) (bit_or ((w * 256 ^ j) % (256 ^ k * 256 ^ j)) (w / 256 ^ k)) ≡ drop k (little (k + j) w) ++ take k (little (k + j) w)
rotated j k m w p h =
    let P : ℕ = 256 ^ j in
    let Q : ℕ = 256 ^ k in
    let lo : ℕ = w % Q in
    let hi : ℕ = w / Q in
    let pos : 0 < Q = one-le-pow k 256 (omega arith) in
    let small : lo < Q = mod-lt w pos in
    let below : hi < P = div_below w Q P pos h in
    let split : w ≡ hi * Q + lo = sym (div-add-mod' w Q) in
    let times : w * P ≡ hi * (Q * P) + lo * P = ap (λ n. n * P) split ∙ add-mul (hi * Q) lo P ∙ ap (λ n. n + lo * P) (mul_assoc hi Q P) in
    let kept : (w * P) % (Q * P) ≡ lo * 2 ^ m = ap (λ n. n % (Q * P)) times ∙ digits_mod hi (mul-lt-mul_of_pos_right small (omega arith)) ∙ ap (λ n. lo * n) p in
    let turned : bit_or ((w * P) % (Q * P)) hi ≡ hi + P * lo =
    ap (λ n. bit_or n hi) kept ∙ or_shifted lo m hi (omega arith) ∙ omega (arith, ap (λ n. lo * n) p, mul_comm lo P) in
    let whole : little (k + j) w ≡ little k lo ++ little j hi = ap (little (k + j)) (split ∙ omega (arith, mul_comm hi Q)) ∙ joined k j lo hi small in
    ap (little (j + k)) turned ∙ joined j k hi lo below
    ∙ sym (ap (λ l. drop k l ++ take k l) whole ∙ ap (λ l. l ++ take k (little k lo ++ little j hi)) (drop_at (little k lo) (little j hi) k (length_little k lo))
    ∙ ap (λ l. little j hi ++ l) (take_at (little k lo) (little j hi) k (length_little k lo)))

pub left_8 : (w : ℕ) → w < 2 ^ 32 → little 4 (bit_or ((w * 256) % 4294967296) (w / 16777216)) ≡ drop 3 (little 4 w) ++ take 3 (little 4 w)
left_8 w h = rotated 1 3 8 w refl h

pub left_16 : (w : ℕ) → w < 2 ^ 32 → little 4 (bit_or ((w * 65536) % 4294967296) (w / 65536)) ≡ drop 2 (little 4 w) ++ take 2 (little 4 w)
left_16 w h = rotated 2 2 16 w refl h

pub left_24 : (w : ℕ) → w < 2 ^ 32 → little 4 (bit_or ((w * 16777216) % 4294967296) (w / 256)) ≡ drop 1 (little 4 w) ++ take 1 (little 4 w)
left_24 w h = rotated 3 1 24 w refl h

-- two columns are a word of 64 bits
join : (a b : ℕ) → a < 2 ^ 32 → little 8 (a + b * 4294967296) ≡ little 4 a ++ little 4 b
join a b h = ap (λ n. little 8 (a + n)) (mul_comm b 4294967296) ∙ joined 4 4 a b h

pub halves : (w : ℕ) → little 4 (w % 4294967296) ++ little 4 (w / 4294967296) ≡ little 8 w
halves w = sym (join (w % 4294967296) (w / 4294967296) (omega arith)) ∙ ap (little 8) (omega arith)

pub joins : (a b c d : ℕ) → a < 2 ^ 32 → c < 2 ^ 32 →
    little 8 (a + b * 4294967296) ++ little 8 (c + d * 4294967296) ≡ little 4 a ++ (little 4 b ++ (little 4 c ++ little 4 d))
joins a b c d p q =
    let e = join a b p in
    let f = join c d q in
    let g = append_assoc (little 4 a) (little 4 b) (little 4 c ++ little 4 d) in
    cc

-- four words xored
pub xors_words : (t u v w : ℕ) (p q r s : List ℕ) → little 4 t ≡ p → little 4 u ≡ q → little 4 v ≡ r → little 4 w ≡ s →
    little 4 (bit_xor (bit_xor (bit_xor t u) v) w) ≡ xors (xors (xors p q) r) s
xors_words t u v w p q r s e f g h =
    let x₁ = xors_little 4 t u in
    let x₂ = xors_little 4 (bit_xor t u) v in
    let x₃ = xors_little 4 (bit_xor (bit_xor t u) v) w in
    cc

-- four words, each xored with another
pub xors_four : (a b c d : ℕ) (p q r s : List ℕ) (k l m n : ℕ) → little 4 k ≡ p → little 4 l ≡ q → little 4 m ≡ r → little 4 n ≡ s →
    little 4 (bit_xor a k) ++ (little 4 (bit_xor b l) ++ (little 4 (bit_xor c m) ++ little 4 (bit_xor d n)))
    ≡ xors (little 4 a ++ (little 4 b ++ (little 4 c ++ little 4 d))) (p ++ (q ++ (r ++ s)))
xors_four a b c d p q r s k l m n e f g h =
    let same : (x y : ℕ) → length (little 4 x) ≡ length (little 4 y) = λ x y. length_little 4 x ∙ sym (length_little 4 y) in
    let z₃ = xors_append (little 4 c) (little 4 d) (little 4 m) (little 4 n) (same c m) in
    let z₂ = xors_append (little 4 b) (little 4 c ++ little 4 d) (little 4 l) (little 4 m ++ little 4 n) (same b l) in
    let z₁ = xors_append (little 4 a) (little 4 b ++ (little 4 c ++ little 4 d)) (little 4 k) (little 4 l ++ (little 4 m ++ little 4 n)) (same a k) in
    let x₁ = xors_little 4 a k in
    let x₂ = xors_little 4 b l in
    let x₃ = xors_little 4 c m in
    let x₄ = xors_little 4 d n in
    cc
