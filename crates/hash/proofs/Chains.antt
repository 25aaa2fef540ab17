-- Two chains of one compression that end alike: the last inputs that differ collide. Assumes nothing.
use Rattle.std.proofs.Common.{◌≡◌, Bool, true, false, cond, ◌&&◌, ◌≢◌, List, [], ◌∷◌, length, Some, None, Option, sym, refl, ap, ◌∙◌, arith, MatchOption}
use mathlib.Core.List.{reverse_aux}
use Rattle.std.proofs.lemmas.List.{nil_from_length}
use Rattle.std.proofs.lemmas.Slice.Eq.{bytes_eq-Decides}
use Rattle.std.proofs.lemmas.Bool.{both_ways}
use Rattle.std.specs.Str.{bytes_eq}
use Rattle.hash.specs.Hash.{Hashing, chain}
use Rattle.hash.specs.Collisions.{Bytes, Input, same_input, inputs, parting, Collides}

-- a test of inputs is true exactly at equal ones
pub same_input_true : (x y : Input) → same_input x y ≡ true → x ≡ y
same_input_true x y t = go (bytes_eq x.0 y.0) (bytes_eq x.1 y.1) refl refl t
  where
    go : (b c : Bool) → bytes_eq x.0 y.0 ≡ b → bytes_eq x.1 y.1 ≡ c → (b && c) ≡ true → x ≡ y
    go true c e g h = λ i. ((bytes_eq-Decides x.0 y.0).0 e i, (bytes_eq-Decides x.1 y.1).0 (g ∙ h) i)
    go false c e g h = absurd (both_ways false refl h)

pub same_input_refl : (x y : Input) → x ≡ y → same_input x y ≡ true
same_input_refl x y e =
    ap (λ b. b && bytes_eq x.1 y.1) ((bytes_eq-Decides x.0 y.0).1 (ap (λ (z : Input). z.0) e))
    ∙ (bytes_eq-Decides x.1 y.1).1 (ap (λ (z : Input). z.1) e)

-- what is known where two lists part, by whether their heads are the same
pub at_heads : {P : Type 0} (same : P → P → Bool) (N : Type 0) (Q : P × P → Type 0) (x y : P) (xs ys : List P) →
    (same x y ≡ true → MatchOption (parting same xs ys) N Q) → (same x y ≡ false → Q (x, y)) → MatchOption (parting same (x ∷ xs) (y ∷ ys)) N Q
at_heads same N Q x y xs ys a b = go (same x y) refl
  where
    go : (t : Bool) → same x y ≡ t → MatchOption (cond t (parting same xs ys) (Some (x, y))) N Q
    go true e = a e
    go false e = b e

pub cases_none : {A : Type 0} (o : Option A) (N M : Type 0) (Q : A → Type 0) → (N → M) → MatchOption o N Q → MatchOption o M Q
cases_none None N M Q g h = g h
cases_none (Some x) N M Q g h = h

-- the chain over blocks that are listed last first
abbrev pub back : Hashing → Bytes → List Bytes → Bytes
back f h [] = h
back f h (b ∷ bs) = f.out (back f h bs) b

abbrev pub back_inputs : Hashing → Bytes → List Bytes → List Input
back_inputs f h [] = []
back_inputs f h (b ∷ bs) = (back f h bs, b) ∷ back_inputs f h bs

pub chain_back : (f : Hashing) (h : Bytes) (bs acc : List Bytes) → chain f (back f h acc) bs ≡ back f h (reverse_aux bs acc)
chain_back f h [] acc = refl
chain_back f h (b ∷ bs) acc = chain_back f h bs (b ∷ acc)

pub inputs_back : (f : Hashing) (h : Bytes) (bs acc : List Bytes) → reverse_aux (inputs f (back f h acc) bs) (back_inputs f h acc) ≡ back_inputs f h (reverse_aux bs acc)
inputs_back f h [] acc = refl
inputs_back f h (b ∷ bs) acc = inputs_back f h bs (b ∷ acc)

module _ (f : Hashing) (h : Bytes) where
  abbrev pub Found : Input × Input → Type 0
  Found p = Collides f p.0 p.1

  apart : (x y : Input) → same_input x y ≡ false → x ≢ y
  apart x y t e = both_ways (same_input x y) t (same_input_refl x y e)

  -- as many blocks on both sides
  pub back_apart : (bs bs' : List Bytes) → length bs ≡ length bs' → back f h bs ≡ back f h bs' →
      MatchOption (parting same_input (back_inputs f h bs) (back_inputs f h bs')) (bs ≡ bs') Found
  back_apart [] bs' l e = sym (nil_from_length bs' (sym l))
  back_apart (b ∷ bs) [] l e = absurd (omega (arith, l))
  back_apart (b ∷ bs) (b' ∷ bs') l e =
      at_heads same_input ((b ∷ bs) ≡ (b' ∷ bs')) Found (back f h bs, b) (back f h bs', b') (back_inputs f h bs) (back_inputs f h bs')
      (λ t. let q = same_input_true (back f h bs, b) (back f h bs', b') t in
      cases_none (parting same_input (back_inputs f h bs) (back_inputs f h bs')) (bs ≡ bs') ((b ∷ bs) ≡ (b' ∷ bs')) Found
      (λ r i. (q i).1 ∷ r i) (back_apart bs bs' (omega (arith, l)) (ap (λ (z : Input). z.0) q)))
      (λ t. (apart (back f h bs, b) (back f h bs', b') t, e))

  -- any numbers of blocks, where equal last blocks mean that there are equally many
  pub ends_apart : (b b' : Bytes) (bs bs' : List Bytes) → (b ≡ b' → length bs ≡ length bs') → back f h (b ∷ bs) ≡ back f h (b' ∷ bs') →
      MatchOption (parting same_input (back_inputs f h (b ∷ bs)) (back_inputs f h (b' ∷ bs'))) ((b ∷ bs) ≡ (b' ∷ bs')) Found
  ends_apart b b' bs bs' l e =
      at_heads same_input ((b ∷ bs) ≡ (b' ∷ bs')) Found (back f h bs, b) (back f h bs', b') (back_inputs f h bs) (back_inputs f h bs')
      (λ t. let q = same_input_true (back f h bs, b) (back f h bs', b') t in
      cases_none (parting same_input (back_inputs f h bs) (back_inputs f h bs')) (bs ≡ bs') ((b ∷ bs) ≡ (b' ∷ bs')) Found
      (λ r i. (q i).1 ∷ r i) (back_apart bs bs' (l (ap (λ (z : Input). z.1) q)) (ap (λ (z : Input). z.0) q)))
      (λ t. (apart (back f h bs, b) (back f h bs', b') t, e))
