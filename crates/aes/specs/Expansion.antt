-- The key schedule word by word, and its length. Assumes nothing.
use Rattle.std.specs.Prelude.{◌≡◌, ℕ, zero, suc, ◌+◌, ◌-◌, ◌*◌, ◌/◌, ◌%◌, ◌^◌, ◌<◌, ◌≤◌, Bool, true, false, cond, List, [], ◌∷◌, ◌++◌, map, length, take, drop, ◌==◌, bit_or, bit_xor, nat_lt, refl}
use Rattle.std.proofs.Common.{sym, ap, ◌∙◌, append_assoc, arith, length-append, length-drop, eq-eqb}
use Rattle.std.proofs.lemmas.List.{take_at, drop_at, take-take, drop-take, length-take-le}
use Rattle.std.proofs.lemmas.Bool.{cond-true}
use Rattle.cipher.specs.Bytes.{little, xors, written}
use Rattle.cipher.proofs.Littles.{length_little, xors_little, length_xors}
use Rattle.aes.specs.Field.{S}
use Rattle.aes.specs.Aes.{sub_bytes, rcon, rot_word, word_at, temp, next_word, expanded, round_key, rounds, shift_rows, cipher}
use Rattle.aes.specs.Columns.{shifted_column}
use Rattle.aes.specs.Fours.{fours, four_of, left_24}

-- S on a whole word
shifted_all : (w : ℕ) → shifted_column w w w w ≡ sub_bytes (little 4 w)
shifted_all w = sym (ap sub_bytes (fours w))

-- the first of each nk words
pub temp_first : (nk i last v u k : ℕ) → i % nk ≡ 0 → last < 2 ^ 32 → v ≡ bit_or ((last * 16777216) % 4294967296) (last / 256) → little 4 u ≡ shifted_column v v v v
    → k ∷ 0 ∷ 0 ∷ 0 ∷ [] ≡ rcon (i / nk) → k < 256 → little 4 (bit_xor u k) ≡ temp nk i (little 4 last)
temp_first nk i last v u k h l e f g b =
    let r : little 4 v ≡ rot_word (little 4 last) = ap (little 4) e ∙ left_24 last l in
    let a = shifted_all v in
    let q = four_of k 0 0 0 k b (omega arith) (omega arith) (omega arith) (omega arith) in
    let x = xors_little 4 u k in
    let s : little 4 (bit_xor u k) ≡ xors (sub_bytes (rot_word (little 4 last))) (rcon (i / nk)) = cc in
    s ∙ sym (cond-true (i % nk == 0) _ _ (eq-eqb (i % nk) 0 h))

-- four bytes inside a front
inner : (xs : List ℕ) (p q : ℕ) → p + 4 ≤ q → take 4 (drop p (take q xs)) ≡ take 4 (drop p xs)
inner xs p q h =
    let m : ℕ = q - p in
    let e : q ≡ p + m = omega arith in
    ap (λ (k : ℕ). take 4 (drop p (take k xs))) e ∙ ap (λ (l : List ℕ). take 4 l) (drop-take p m xs) ∙ take-take 4 m (drop p xs) (omega arith)

pub expanded_none : (nk : ℕ) (key : List ℕ) → expanded nk key 0 ≡ key
unfolding expanded
expanded_none nk key = refl

expanded_more : (nk i : ℕ) (key : List ℕ) → nk ≤ i → expanded nk key (i + 1 - nk) ≡ expanded nk key (i - nk) ++ next_word nk i (expanded nk key (i - nk))
unfolding expanded
expanded_more nk i key h =
    let e : i + 1 - nk ≡ suc (i - nk) = omega arith in
    let f : nk + (i - nk) ≡ i = omega arith in
    ap (expanded nk key) e ∙ ap (λ (k : ℕ). expanded nk key (i - nk) ++ next_word nk k (expanded nk key (i - nk))) f

-- word i, written after the words before it
module _ (nk i : ℕ) (key xs : List ℕ) (back st last : ℕ) (pos : 1 ≤ nk) (from : nk ≤ i) (room : 4 * i + 4 ≤ length xs)
    (done : take (4 * i) xs ≡ expanded nk key (i - nk))
    (before : little 4 last ≡ take 4 (drop (4 * i - 4) xs))
    (far : little 4 back ≡ take 4 (drop (4 * i - 4 * nk) xs))
    (near : little 4 st ≡ temp nk i (little 4 last)) where
  next : little 4 (bit_xor back st) ≡ next_word nk i (expanded nk key (i - nk))
  next =
      let p : word_at (take (4 * i) xs) (i - nk) ≡ little 4 back =
      inner xs (4 * (i - nk)) (4 * i) (omega arith) ∙ ap (λ (k : ℕ). take 4 (drop k xs)) (omega arith) ∙ sym far in
      let q : word_at (take (4 * i) xs) (i - 1) ≡ little 4 last =
      inner xs (4 * (i - 1)) (4 * i) (omega arith) ∙ ap (λ (k : ℕ). take 4 (drop k xs)) (omega arith) ∙ sym before in
      let x = xors_little 4 back st in
      cc

  front : length (take (4 * i) xs) ≡ 4 * i
  front = length-take-le (4 * i) xs (omega arith)

  pub grown : take (4 * (i + 1)) (written (4 * i) (little 4 (bit_xor back st)) xs) ≡ expanded nk key (i + 1 - nk)
  grown =
      let w : List ℕ = little 4 (bit_xor back st) in
      let rest : List ℕ = drop (4 * i + length w) xs in
      let long : length (take (4 * i) xs ++ w) ≡ 4 * (i + 1) = omega (arith, length-append (take (4 * i) xs) w, length_little 4 (bit_xor back st), front) in
      ap (λ (l : List ℕ). take (4 * (i + 1)) l) (sym (append_assoc (take (4 * i) xs) w rest))
      ∙ take_at (take (4 * i) xs ++ w) rest (4 * (i + 1)) long
      ∙ ap (λ (l : List ℕ). l ++ w) done
      ∙ ap (λ (l : List ℕ). expanded nk key (i - nk) ++ l) next
      ∙ sym (expanded_more nk i key from)

  pub newest : little 4 (bit_xor back st) ≡ take 4 (drop (4 * (i + 1) - 4) (written (4 * i) (little 4 (bit_xor back st)) xs))
  newest =
      let w : List ℕ = little 4 (bit_xor back st) in
      let rest : List ℕ = drop (4 * i + length w) xs in
      let k : 4 * (i + 1) - 4 ≡ 4 * i = omega arith in
      sym (ap (λ (m : ℕ). take 4 (drop m (written (4 * i) w xs))) k
      ∙ ap (λ (l : List ℕ). take 4 l) (drop_at (take (4 * i) xs) (w ++ rest) (4 * i) front)
      ∙ take_at w rest 4 (length_little 4 (bit_xor back st)))

length_map_S : (xs : List ℕ) → length (map S xs) ≡ length xs
length_map_S [] = refl
length_map_S (x ∷ xs) = ap suc (length_map_S xs)

length_cond : (b : Bool) (xs ys : List ℕ) (n : ℕ) → length xs ≡ n → length ys ≡ n → length (cond b xs ys) ≡ n
length_cond true xs ys n e f = e
length_cond false xs ys n e f = f

length_temp : (nk i : ℕ) (w : List ℕ) → length w ≡ 4 → length (temp nk i w) ≡ 4
length_temp nk i w e =
    let s : length (sub_bytes w) ≡ 4 = length_map_S w ∙ e in
    let r : length (rot_word w) ≡ 4 = omega (arith, length-append (drop 1 w) (take 1 w), length-drop 1 w, length-take-le 1 w (omega arith)) in
    length_cond (i % nk == 0) _ _ 4 (length_xors (sub_bytes (rot_word w)) (rcon (i / nk)) 4 (length_map_S (rot_word w) ∙ r) refl)
    (length_cond (nat_lt 6 nk) _ w 4 (length_cond (i % nk == 4) (sub_bytes w) w 4 s e) e)

-- n bytes of a list that has them
length_part : (n i : ℕ) (xs : List ℕ) → i + n ≤ length xs → length (take n (drop i xs)) ≡ n
length_part n i xs h = length-take-le n (drop i xs) (omega (arith, length-drop i xs))

pub length_expanded : (nk : ℕ) (key : List ℕ) (j : ℕ) → 1 ≤ nk → length key ≡ 4 * nk → length (expanded nk key j) ≡ 4 * (nk + j)
unfolding expanded
length_expanded nk key zero p e = omega arith
length_expanded nk key (suc j) p e =
    let ws : List ℕ = expanded nk key j in
    let i : ℕ = nk + j in
    let l : length ws ≡ 4 * (nk + j) = length_expanded nk key j p e in
    let f = length_part 4 (4 * (i - nk)) ws (omega arith) in
    let g = length_temp nk i (word_at ws (i - 1)) (length_part 4 (4 * (i - 1)) ws (omega arith)) in
    let x = length_xors (word_at ws (i - nk)) (temp nk i (word_at ws (i - 1))) 4 f g in
    omega (arith, length-append ws (next_word nk i ws))

-- what the last round gives is a state
pub length_cipher : (nr : ℕ) (ws block : List ℕ) → 16 * nr + 16 ≤ length ws → length (cipher nr ws block) ≡ 16
unfolding shift_rows
length_cipher nr ws block h = length_xors (shift_rows (sub_bytes (rounds ws (xors block (round_key ws 0)) (nr - 1)))) (round_key ws nr) 16 refl (length_part 16 (16 * nr) ws h)
