-- The blocks of a padded message, one by one. Assumes nothing.
use Rattle.std.proofs.Common.{◌≡◌, ℕ, zero, suc, ◌+◌, ◌-◌, ◌*◌, ◌/◌, ◌<◌, ◌≤◌, List, [], ◌∷◌, ◌++◌, length, take, drop, set, replicate, Some, None, sym, refl, ap, ◌∙◌, append_assoc, mul-suc, arith, length-append, length-drop}
use lib.ListN.{length-replicate}
use Rattle.std.proofs.lemmas.List.{take_at, drop_at, drop-drop, take_all, length-take-le, take-append-le, drop-append-le, replicate-append-replicate, set_at}
use Rattle.std.specs.List.{slice_get}
use Rattle.cipher.specs.Bytes.{little}
use Rattle.cipher.proofs.Littles.{length_little}
use Rattle.hash.specs.Hash.{gap, padded, cut, blocks}

-- block k of a padded message p
abbrev pub block : List ℕ → ℕ → List ℕ
block p k = take 16 (drop (16 * k) p)

pub length_padded : (m : List ℕ) → length (padded m) ≡ length m + 9 + gap (length m)
length_padded m = simp (length-append, length-replicate, length_little) (omega arith)

pub count_blocks : (m : List ℕ) → length (padded m) / 16 ≡ (length m + 24) / 16
count_blocks m = omega (arith, length_padded m)

pub length_cut : (w c : ℕ) (xs : List ℕ) → length (cut w c xs) ≡ c
length_cut w zero xs = refl
length_cut w (suc c) xs = ap suc (length_cut w c (drop w xs))

pub nth_cut : (w c : ℕ) (xs : List ℕ) (k : ℕ) → k < c → slice_get (cut w c xs) k ≡ Some (take w (drop (w * k) xs))
nth_cut w zero xs k h = absurd (omega arith)
nth_cut w (suc c) xs zero h = let z : 0 ≡ w * 0 = omega arith in ap (λ (i : ℕ). Some (take w (drop i xs))) z
nth_cut w (suc c) xs (suc k) h =
    let z : w + w * k ≡ w * suc k = omega (arith, mul-suc w k) in
    nth_cut w c (drop w xs) k (omega arith)
    ∙ ap (λ (l : List ℕ). Some (take w l)) (drop-drop (w * k) w xs ∙ ap (λ (i : ℕ). drop i xs) z)

pub nth_cut_past : (w c : ℕ) (xs : List ℕ) (k : ℕ) → c ≤ k → slice_get (cut w c xs) k ≡ None
nth_cut_past w zero xs k h = refl
nth_cut_past w (suc c) xs zero h = absurd (omega arith)
nth_cut_past w (suc c) xs (suc k) h = nth_cut_past w c (drop w xs) k (omega arith)

module _ (m : List ℕ) (k : ℕ) where
  pub nth_block : k < (length m + 24) / 16 → slice_get (blocks m) k ≡ Some (block (padded m) k)
  nth_block h = nth_cut 16 (length (padded m) / 16) (padded m) k (omega (arith, count_blocks m))

  pub no_block : (length m + 24) / 16 ≤ k → slice_get (blocks m) k ≡ None
  no_block h = nth_cut_past 16 (length (padded m) / 16) (padded m) k (omega (arith, count_blocks m))

  pub length_block_at : k < (length m + 24) / 16 → length (block (padded m) k) ≡ 16
  length_block_at h = length-take-le 16 (drop (16 * k) (padded m)) (omega (arith, length-drop (16 * k) (padded m), length_padded m))

  -- a block of the message itself
  pub block_inside : 16 * k + 16 ≤ length m → block (padded m) k ≡ take 16 (drop (16 * k) m)
  block_inside h =
      ap (λ l. take 16 l) (drop-append-le (16 * k) m (128 ∷ (replicate (gap (length m)) 0 ++ little 8 (length m))) (omega arith))
      ∙ take-append-le 16 (drop (16 * k) m) (128 ∷ (replicate (gap (length m)) 0 ++ little 8 (length m))) (omega (arith, length-drop (16 * k) m))

  -- the block past the mark
  pub block_past : length m < 16 * k → k < (length m + 24) / 16 → block (padded m) k ≡ replicate 8 0 ++ little 8 (length m)
  block_past h l =
      let n : ℕ = length m in
      let z : ℕ = gap n in
      let lp : length (padded m) ≡ n + 9 + z = length_padded m in
      let end : 16 * k + 16 ≡ n + 9 + z = omega arith in
      let zs : replicate z 0 ≡ replicate (z - 8) 0 ++ replicate 8 0 = ap (λ j. replicate j 0) (omega arith) ∙ sym (replicate-append-replicate (z - 8) 8 0) in
      let front : List ℕ = m ++ (128 ∷ replicate (z - 8) 0) in
      let back : List ℕ = replicate 8 0 ++ little 8 n in
      let split : padded m ≡ front ++ back =
      ap (λ l. m ++ (128 ∷ (l ++ little 8 n))) zs ∙ ap (λ l. m ++ (128 ∷ l)) (append_assoc (replicate (z - 8) 0) (replicate 8 0) (little 8 n))
      ∙ sym (append_assoc m (128 ∷ replicate (z - 8) 0) back) in
      let long : length front ≡ 16 * k = simp (length-append, length-replicate) (omega arith) in
      ap (λ l. take 16 (drop (16 * k) l)) split ∙ ap (λ l. take 16 l) (drop_at front back (16 * k) long) ∙ take_all 16 back (simp (length-append, length_little) (omega arith))

  -- what the padded message has from place 16 k on, that being in the message
  from_block : 16 * k ≤ length m → drop (16 * k) (padded m) ≡ drop (16 * k) m ++ (128 ∷ (replicate (gap (length m)) 0 ++ little 8 (length m)))
  from_block h = drop-append-le (16 * k) m (128 ∷ (replicate (gap (length m)) 0 ++ little 8 (length m))) h

  -- the mark and the length in one block
  pub block_short : 16 * k ≤ length m → length m - 16 * k < 8 → block (padded m) k ≡ (drop (16 * k) m ++ (128 ∷ replicate (7 - (length m - 16 * k)) 0)) ++ little 8 (length m)
  block_short h s =
      let n : ℕ = length m in
      let t : List ℕ = drop (16 * k) m in
      let j : ℕ = 7 - (n - 16 * k) in
      let whole : List ℕ = (t ++ (128 ∷ replicate j 0)) ++ little 8 n in
      let zj : gap n ≡ j = omega arith in
      let split : drop (16 * k) (padded m) ≡ whole =
      from_block h ∙ ap (λ i. t ++ (128 ∷ (replicate i 0 ++ little 8 n))) zj ∙ sym (append_assoc t (128 ∷ replicate j 0) (little 8 n)) in
      ap (λ l. take 16 l) split ∙ take_all 16 whole (simp (length-append, length-replicate, length_little, length-drop) (omega arith))

  -- the mark alone
  pub block_long : 16 * k ≤ length m → 8 ≤ length m - 16 * k → length m < 16 * k + 16 → block (padded m) k ≡ drop (16 * k) m ++ (128 ∷ replicate (15 - (length m - 16 * k)) 0)
  block_long h s e =
      let n : ℕ = length m in
      let t : List ℕ = drop (16 * k) m in
      let j : ℕ = 15 - (n - 16 * k) in
      let front : List ℕ = t ++ (128 ∷ replicate j 0) in
      let back : List ℕ = replicate 8 0 ++ little 8 n in
      let zs : replicate (gap n) 0 ≡ replicate j 0 ++ replicate 8 0 = ap (λ i. replicate i 0) (omega arith) ∙ sym (replicate-append-replicate j 8 0) in
      let split : drop (16 * k) (padded m) ≡ front ++ back =
      from_block h ∙ ap (λ l. t ++ (128 ∷ (l ++ little 8 n))) zs ∙ ap (λ l. t ++ (128 ∷ l)) (append_assoc (replicate j 0) (replicate 8 0) (little 8 n))
      ∙ sym (append_assoc t (128 ∷ replicate j 0) back) in
      ap (λ l. take 16 l) split ∙ take_at front back 16 (simp (length-append, length-replicate, length-drop) (omega arith))

-- the mark written after t in a block of zeros
pub mark_set : (t : List ℕ) (n : ℕ) → length t ≡ n → n < 16 → set (t ++ replicate (16 - n) 0) n 128 ≡ t ++ (128 ∷ replicate (15 - n) 0)
mark_set t n e h =
    let k : 16 - n ≡ suc (15 - n) = omega arith in
    let s : replicate (16 - n) 0 ≡ 0 ∷ replicate (15 - n) 0 = ap (λ i. replicate i 0) k in
    ap (λ l. set (t ++ l) n 128) s ∙ set_at t 0 (replicate (15 - n) 0) 128 n e

-- the first half of a block with the mark in it
pub mark_front : (t : List ℕ) (n : ℕ) → length t ≡ n → n < 8 → take 8 (t ++ (128 ∷ replicate (15 - n) 0)) ≡ t ++ (128 ∷ replicate (7 - n) 0)
mark_front t n e h =
    let k : 15 - n ≡ 7 - n + 8 = omega arith in
    let z : replicate (15 - n) 0 ≡ replicate (7 - n) 0 ++ replicate 8 0 = ap (λ i. replicate i 0) k ∙ sym (replicate-append-replicate (7 - n) 8 0) in
    let front : List ℕ = t ++ (128 ∷ replicate (7 - n) 0) in
    ap (λ l. take 8 (t ++ (128 ∷ l))) z
    ∙ ap (λ l. take 8 l) (sym (append_assoc t (128 ∷ replicate (7 - n) 0) (replicate 8 0)))
    ∙ take_at front (replicate 8 0) 8 (simp (length-append, length-replicate) (omega arith))

pub mark_length : (t : List ℕ) (n : ℕ) → length t ≡ n → n < 16 → length (t ++ (128 ∷ replicate (15 - n) 0)) ≡ 16
mark_length t n e h = simp (length-append, length-replicate) (omega arith)

-- an element that is there, and the rest of the list from it on
pub nth_there : {X : Type 0} (xs : List X) (k : ℕ) (x : X) → slice_get xs k ≡ Some x → (k < length xs) × (drop k xs ≡ x ∷ drop (k + 1) xs)
nth_there [] k x e = absurd (let z : ◌≡◌ {A = ℕ} 0 1 = cc in omega arith)
nth_there (y ∷ xs) zero x e = (omega arith, cc)
nth_there (y ∷ xs) (suc k) x e =
    let r = nth_there xs k x e in
    let s : suc k + 1 ≡ suc (k + 1) = omega arith in
    (omega (arith, r.0), r.1 ∙ sym (ap (λ (i : ℕ). x ∷ drop i (y ∷ xs)) s))

pub nth_gone : {X : Type 0} (xs : List X) (k : ℕ) → slice_get xs k ≡ None → drop k xs ≡ []
nth_gone [] zero e = refl
nth_gone [] (suc k) e = refl
nth_gone (y ∷ xs) zero e = absurd (let z : ◌≡◌ {A = ℕ} 0 1 = cc in omega arith)
nth_gone (y ∷ xs) (suc k) e = nth_gone xs k e

pub length_blocks : (m : List ℕ) → length (blocks m) ≡ (length m + 24) / 16
length_blocks m = length_cut 16 (length (padded m) / 16) (padded m) ∙ count_blocks m
