-- Chaining values and inputs of the compression, one block after the other. Assumes nothing.
use Rattle.std.proofs.Common.{◌≡◌, ℕ, zero, suc, ◌+◌, ◌≤◌, List, [], ◌∷◌, ◌++◌, length, take, drop, Some, None, sym, refl, ap, ◌∙◌, arith, length-drop}
use Rattle.std.proofs.lemmas.List.{take_all}
use Rattle.std.specs.List.{slice_get}
use Rattle.hash.specs.Hash.{Hashing, chain, blocks, value_before}
use Rattle.hash.specs.Collisions.{Bytes, inputs}
use Rattle.hash.proofs.Padded.{nth_gone}

-- one element more off the front
pub take_nth : {X : Type 0} (xs : List X) (k : ℕ) (x : X) → slice_get xs k ≡ Some x → take (k + 1) xs ≡ take k xs ++ (x ∷ [])
take_nth [] k x e = absurd (let z : ◌≡◌ {A = ℕ} 0 1 = cc in omega arith)
take_nth (y ∷ xs) zero x e = let s : y ≡ x = cc in ap (λ z. z ∷ []) s
take_nth (y ∷ xs) (suc k) x e =
    let s : suc k + 1 ≡ suc (k + 1) = omega arith in
    ap (λ (i : ℕ). take i (y ∷ xs)) s ∙ ap (λ zs. y ∷ zs) (take_nth xs k x e)

-- no element more
pub past : {X : Type 0} (xs : List X) (k : ℕ) → slice_get xs k ≡ None → length xs ≤ k
past xs k e = omega (arith, sym (length-drop k xs) ∙ ap length (nth_gone xs k e))

pub chain_push : (f : Hashing) (h : Bytes) (bs : List Bytes) (b : Bytes) → chain f h (bs ++ (b ∷ [])) ≡ f.out (chain f h bs) b
chain_push f h [] b = refl
chain_push f h (x ∷ bs) b = chain_push f (f.out h x) bs b

pub inputs_push : (f : Hashing) (h : Bytes) (bs : List Bytes) (b : Bytes) → inputs f h (bs ++ (b ∷ [])) ≡ inputs f h bs ++ ((chain f h bs, b) ∷ [])
inputs_push f h [] b = refl
inputs_push f h (x ∷ bs) b = ap (λ zs. (h, x) ∷ zs) (inputs_push f (f.out h x) bs b)

-- the next chaining value
pub value_more : (f : Hashing) (m : Bytes) (k : ℕ) (b : Bytes) → slice_get (blocks m) k ≡ Some b → value_before f m (k + 1) ≡ f.out (value_before f m k) b
value_more f m k b e = ap (chain f f.start) (take_nth (blocks m) k b e) ∙ chain_push f f.start (take k (blocks m)) b

-- past the last block the value stays
pub value_past : (f : Hashing) (m : Bytes) (i k : ℕ) → length (blocks m) ≤ i → i ≤ k → value_before f m i ≡ value_before f m k
value_past f m i k h l = ap (chain f f.start) (take_all i (blocks m) h ∙ sym (take_all k (blocks m) (omega arith)))

-- the front of what is left after k elements is element k
pub front_nth : {X : Type 0} (xs : List X) (k : ℕ) (x : X) (ys : List X) → drop k xs ≡ x ∷ ys → (slice_get xs k ≡ Some x) × (ys ≡ drop (k + 1) xs)
front_nth [] zero x ys e = absurd (let z : ◌≡◌ {A = ℕ} 0 1 = cc in omega arith)
front_nth [] (suc k) x ys e = absurd (let z : ◌≡◌ {A = ℕ} 0 1 = cc in omega arith)
front_nth (z ∷ xs) zero x ys e = (let p : z ≡ x = cc in ap Some p, let p : xs ≡ ys = cc in sym p)
front_nth (z ∷ xs) (suc k) x ys e =
    let rest = front_nth xs k x ys e in
    let s : suc k + 1 ≡ suc (k + 1) = omega arith in
    (rest.0, rest.1 ∙ sym (ap (λ (n : ℕ). drop n (z ∷ xs)) s))
