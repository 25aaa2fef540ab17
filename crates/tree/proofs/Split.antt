-- The one law of T that a streaming pass wants: at 2 ^ a < n ≤ 2 ^ (a + 1) leaves it splits after 2 ^ a. Assumes nothing.
use Rattle.std.proofs.Common.{◌≡◌, ℕ, suc, ◌+◌, ◌-◌, ◌*◌, ◌^◌, ◌<◌, ◌≤◌, List, length, take, drop, sym, ap, ◌∙◌, ap₂, ⊎_elim, arith, length-drop, pow_pos, pow_mono}
use native.Mathlib.Nat.{pow-succ'}
use Rattle.std.proofs.lemmas.List.{get_or-take, drop-take, length-take-le}
use Rattle.std.proofs.lemmas.Bool.{cases_lt}
use Rattle.tree.specs.Tree.{Shape, tip, fork, size, shape_of, top, whole_by}
use Rattle.tree.proofs.Shapes.{splits, size_shape_of}

pub twice_pow : (a : ℕ) → 2 ^ suc a ≡ 2 * 2 ^ a
twice_pow a = pow-succ' 2 a

-- a power of two below another is at most half of it
pub half_pow : (a b : ℕ) → 2 ^ a < 2 ^ b → 2 * 2 ^ a ≤ 2 ^ b
half_pow a b h =
    ⊎_elim
    (λ (k : a < b). let p : 2 ^ suc a ≤ 2 ^ b = pow_mono k in let q = twice_pow a in omega arith)
    (λ (k : b ≤ a). let p : 2 ^ b ≤ 2 ^ a = pow_mono k in omega arith)
    (cases_lt a b)

pub size_pos : (s : Shape) → 1 ≤ size s
size_pos tip = omega arith
size_pos (fork l r) = omega (arith, size_pos l)

module _ {D : Type 0} (node : D → D → D) (none : D) where
  -- leaves past the shape's do not matter
  pub top_take : (s : Shape) (n : ℕ) (xs : List D) → size s ≤ n → top node none s (take n xs) ≡ top node none s xs
  top_take tip n xs h = get_or-take n xs 0 none h
  top_take (fork l r) n xs h =
      let k : ℕ = n - size l in
      let e : n ≡ size l + k = omega arith in
      ap₂ node (top_take l n xs (omega arith))
      (ap (top node none r) (ap (λ (j : ℕ). drop (size l) (take j xs)) e ∙ drop-take (size l) k xs)
      ∙ top_take r k (drop (size l) xs) (omega arith))

  -- T over the first n of xs, two ways
  pub root_front : (n : ℕ) (xs : List D) → 1 ≤ n → n ≤ length xs → whole_by node none (take n xs) ≡ top node none (shape_of n) xs
  root_front n xs p h =
      ap (λ (k : ℕ). top node none (shape_of k) (take n xs)) (length-take-le n xs h)
      ∙ top_take (shape_of n) n xs (omega (arith, size_shape_of n p))

  pub root_split : (xs : List D) (a : ℕ) → 2 ^ a < length xs → length xs ≤ 2 * 2 ^ a
      → whole_by node none xs ≡ node (whole_by node none (take (2 ^ a) xs)) (whole_by node none (drop (2 ^ a) xs))
  root_split xs a l h =
      let p : 1 ≤ 2 ^ a = pow_pos a in
      let m : ℕ = length xs - 2 ^ a in
      ap (λ (s : Shape). top node none s xs) (splits a (length xs) l h)
      ∙ ap₂ node (sym (root_front (2 ^ a) xs p (omega arith)))
      (ap (λ (k : ℕ). top node none (shape_of m) (drop k xs)) (size_shape_of (2 ^ a) p)
      ∙ ap (λ (k : ℕ). top node none (shape_of k) (drop (2 ^ a) xs)) (sym (length-drop (2 ^ a) xs)))
