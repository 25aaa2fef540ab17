-- Inputs of the compression by their places, and where two lists part, from their ends. Assumes nothing.
use Rattle.std.proofs.Common.{◌≡◌, ℕ, zero, suc, ◌+◌, ◌^◌, ◌<◌, ◌≤◌, Bool, true, false, cond, ◌&&◌, leb, List, [], ◌∷◌, reverse, length, get_or, take, Some, None, Option, sym, refl, ap, ◌∙◌, subst, ap₂, ⊎_elim, arith}
use mathlib.Core.List.{reverse-append}
use Rattle.std.proofs.lemmas.Slice.Eq.{bytes_eq-Decides}
use Rattle.std.proofs.lemmas.List.{take_all}
use Rattle.std.proofs.lemmas.Option.{slice_get-get_or}
use Rattle.std.proofs.lemmas.Bool.{leb-true, leb-false, cases_eq}
use Rattle.std.specs.List.{slice_get}
use Rattle.std.specs.Str.{bytes_eq}
use Rattle.hash.specs.Hash.{Hashing, chain, blocks, value_before}
use Rattle.hash.specs.Collisions.{Bytes, Input, same_input, inputs, parting, inputs_apart}
use Rattle.hash.proofs.Apart.{ending_length}
use Rattle.hash.proofs.Padded.{length_blocks}
use Rattle.hash.proofs.Values.{take_nth}
use Rattle.refusal.proofs.Doing.{and_left}
use Rattle.conflict.specs.Inputs.{inputs_of, both}

inputs_nth : (f : Hashing) (h : Bytes) (bs : List Bytes) (k : ℕ) (b : Bytes) → slice_get bs k ≡ Some b → slice_get (inputs f h bs) k ≡ Some (chain f h (take k bs), b)
inputs_nth f h [] k b e = absurd (let z : ◌≡◌ {A = ℕ} 0 1 = cc in omega arith)
inputs_nth f h (x ∷ bs) zero b e = let s : x ≡ b = cc in ap (λ (y : Bytes). Some (h, y)) s
inputs_nth f h (x ∷ bs) (suc k) b e = inputs_nth f (f.out h x) bs k b e

inputs_gone : (f : Hashing) (h : Bytes) (bs : List Bytes) (k : ℕ) → slice_get bs k ≡ None → slice_get (inputs f h bs) k ≡ None
inputs_gone f h [] k e = refl
inputs_gone f h (x ∷ bs) zero e = absurd (let z : ◌≡◌ {A = ℕ} 0 1 = cc in omega arith)
inputs_gone f h (x ∷ bs) (suc k) e = inputs_gone f (f.out h x) bs k e

length_inputs : (f : Hashing) (h : Bytes) (bs : List Bytes) → length (inputs f h bs) ≡ length bs
length_inputs f h [] = refl
length_inputs f h (x ∷ bs) = ap suc (length_inputs f (f.out h x) bs)

-- the input at a block, and none where there is no block
pub input_there : (f : Hashing) (m : Bytes) (k : ℕ) (b : Bytes) → slice_get (blocks m) k ≡ Some b → slice_get (inputs_of f m) k ≡ Some (value_before f m k, b)
input_there f m = inputs_nth f f.start (blocks m)

pub input_gone : (f : Hashing) (m : Bytes) (k : ℕ) → slice_get (blocks m) k ≡ None → slice_get (inputs_of f m) k ≡ None
input_gone f m = inputs_gone f f.start (blocks m)

module _ {P : Type 0} (same : P → P → Bool) where
  last_first : (xs : List P) (k : ℕ) (x : P) → slice_get xs k ≡ Some x → reverse (take (k + 1) xs) ≡ x ∷ reverse (take k xs)
  last_first xs k x e = ap reverse (take_nth xs k x e) ∙ reverse-append (take k xs) (x ∷ [])

  -- the fronts of two lists, from their ends, by whether the last elements are the same
  ends : (xs ys : List P) (j k : ℕ) (x y : P) → slice_get xs j ≡ Some x → slice_get ys k ≡ Some y →
      parting same (reverse (take (j + 1) xs)) (reverse (take (k + 1) ys)) ≡ cond (same x y) (parting same (reverse (take j xs)) (reverse (take k ys))) (Some (x, y))
  ends xs ys j k x y e h = ap₂ (parting same) (last_first xs j x e) (last_first ys k y h)

not_same : (v v' : Bytes) → (v ≡ v' → ⊥) → bytes_eq v v' ≡ false
not_same v v' n = at (bytes_eq v v') refl
  where
    at : (t : Bool) → bytes_eq v v' ≡ t → t ≡ false
    at true e = absurd (n ((bytes_eq-Decides v v').0 e))
    at false e = refl

and_false : (t : Bool) → (t && false) ≡ false
and_false true = refl
and_false false = refl

-- whether two inputs are the same, by from where on the chaining values are
input_test : (from k : ℕ) (v v' a b : Bytes) → from ≤ k + 1 → (from ≤ k → v ≡ v') → (from ≡ k + 1 → v ≡ v' → ⊥) → same_input (v, a) (v', b) ≡ (leb from k && bytes_eq a b)
input_test from k v v' a b l same apart = go (leb from k) refl
  where
    go : (t : Bool) → leb from k ≡ t → same_input (v, a) (v', b) ≡ (t && bytes_eq a b)
    go true e = ap (λ (s : Bool). s && bytes_eq a b) ((bytes_eq-Decides v v').1 (same (leb-true from k e)))
    go false e = let g = leb-false from k e in ap (λ (s : Bool). s && bytes_eq a b) (not_same v v' (apart (omega arith)))

module _ (f : Hashing) (x y : Bytes) where
  abbrev xs : List Input
  xs = inputs_of f x

  abbrev ys : List Input
  ys = inputs_of f y

  -- the fronts up to block j of one message and block k of the other
  abbrev pub fronts_part : ℕ → ℕ → Option (Input × Input)
  fronts_part j k = parting same_input (reverse (take j xs)) (reverse (take k ys))

  pub all_part : fronts_part (length (blocks x)) (length (blocks y)) ≡ inputs_apart f x y
  all_part =
      let p : length xs ≡ length (blocks x) = length_inputs f f.start (blocks x) in
      let q : length ys ≡ length (blocks y) = length_inputs f f.start (blocks y) in
      ap₂ (λ (u v : List Input). parting same_input (reverse u) (reverse v)) (take_all (length (blocks x)) xs (omega arith)) (take_all (length (blocks y)) ys (omega arith))

  -- one block back on both sides, by whether the inputs there are the same
  module _ (j k : ℕ) (a b : Bytes) (ha : slice_get (blocks x) j ≡ Some a) (hb : slice_get (blocks y) k ≡ Some b) where
    pub part_here : same_input (value_before f x j, a) (value_before f y k, b) ≡ false → fronts_part (j + 1) (k + 1) ≡ both (slice_get xs j) (slice_get ys k)
    part_here t =
        ends same_input xs ys j k (value_before f x j, a) (value_before f y k, b) (input_there f x j a ha) (input_there f y k b hb)
        ∙ ap (λ (s : Bool). cond s (fronts_part j k) (Some ((value_before f x j, a), (value_before f y k, b)))) t
        ∙ sym (ap₂ both (input_there f x j a ha) (input_there f y k b hb))

    pub part_below : same_input (value_before f x j, a) (value_before f y k, b) ≡ true → fronts_part (j + 1) (k + 1) ≡ fronts_part j k
    part_below t =
        ends same_input xs ys j k (value_before f x j, a) (value_before f y k, b) (input_there f x j a ha) (input_there f y k b hb)
        ∙ ap (λ (s : Bool). cond s (fronts_part j k) (Some ((value_before f x j, a), (value_before f y k, b)))) t

  -- the same by the test of the code
  module _ (from k : ℕ) (few : from ≤ k + 1) (in-x : k < length (blocks x)) (in-y : k < length (blocks y))
      (same : from ≤ k → value_before f x k ≡ value_before f y k) (apart : from ≡ k + 1 → value_before f x k ≡ value_before f y k → ⊥)
      (t : Bool) (is : (a b : Bytes) → slice_get (blocks x) k ≡ Some a → slice_get (blocks y) k ≡ Some b → t ≡ (leb from k && bytes_eq a b)) where
    abbrev a : Bytes
    a = get_or (blocks x) k []

    abbrev b : Bytes
    b = get_or (blocks y) k []

    tested : same_input (value_before f x k, a) (value_before f y k, b) ≡ t
    tested = input_test from k (value_before f x k) (value_before f y k) a b few same apart ∙ sym (is a b (slice_get-get_or (blocks x) k [] in-x) (slice_get-get_or (blocks y) k [] in-y))

    pub back_from : t ≡ true → from ≤ k
    back_from e = leb-true from k (and_left (leb from k) (bytes_eq a b) (sym (is a b (slice_get-get_or (blocks x) k [] in-x) (slice_get-get_or (blocks y) k [] in-y)) ∙ e))

    pub back_here : t ≡ false → fronts_part (k + 1) (k + 1) ≡ both (slice_get xs k) (slice_get ys k)
    back_here e = part_here k k a b (slice_get-get_or (blocks x) k [] in-x) (slice_get-get_or (blocks y) k [] in-y) (tested ∙ e)

    pub back_below : t ≡ true → fronts_part (k + 1) (k + 1) ≡ fronts_part k k
    back_below e = part_below k k a b (slice_get-get_or (blocks x) k [] in-x) (slice_get-get_or (blocks y) k [] in-y) (tested ∙ e)

  -- messages of other lengths part at their last blocks
  pub last_part : (j k : ℕ) → length x < 2 ^ 64 → length y < 2 ^ 64 → (length x ≡ length y → ⊥) → j + 1 ≡ length (blocks x) → k + 1 ≡ length (blocks y) →
      inputs_apart f x y ≡ both (slice_get xs j) (slice_get ys k)
  last_part j k h h' n p q =
      let a = get_or (blocks x) j [] in
      let b = get_or (blocks y) k [] in
      let ha = slice_get-get_or (blocks x) j [] (omega arith) in
      let hb = slice_get-get_or (blocks y) k [] (omega arith) in
      let other : a ≡ b → ⊥ = λ e. n (ending_length x y j k b h h' p q (ha ∙ ap Some e) hb) in
      sym all_part
      ∙ sym (λ i. fronts_part (p i) (q i))
      ∙ part_here j k a b ha hb
      (ap (λ (t : Bool). bytes_eq (value_before f x j) (value_before f y k) && t) (not_same a b other) ∙ and_false (bytes_eq (value_before f x j) (value_before f y k)))

-- what holds of each place from one on, up to k, holds up to the next where it holds at k
pub one_more : (P : ℕ → Type 0) (from k : ℕ) → ((j : ℕ) → from ≤ j → j < k → P j) → P k → (j : ℕ) → from ≤ j → j < k + 1 → P j
one_more P from k below here j a b = ⊎_elim (λ e. subst P (sym e) here) (λ n. below j a (omega arith)) (cases_eq j k)

-- as many bytes, as many blocks
pub blocks_even : (x y : Bytes) → length x ≡ length y → length (blocks x) ≡ length (blocks y)
blocks_even x y e = omega (arith, length_blocks x, length_blocks y)
