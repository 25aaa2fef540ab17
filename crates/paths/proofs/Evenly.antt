-- The parts of a tree split as their numbers of leaves say, so that ranges tell the digests of a path or a link. Assumes nothing.
use Rattle.std.proofs.Common.{◌≡◌, ℕ, zero, suc, ◌+◌, ◌-◌, ◌^◌, ◌≤◌, Bool, true, false, cond, eqb, ltb, leb, List, [], ◌∷◌, ◌++◌, map, sym, refl, ap, ◌∙◌, subst, ap₂, ⊎_elim, le_refl, le_of_lt, arith, pow_pos}
use Rattle.std.proofs.lemmas.List.{map_push}
use Rattle.std.proofs.lemmas.Bool.{cases_lt}
use Rattle.tree.specs.Links.{sub}
use Rattle.tree.specs.Tree.{Shape, tip, fork, size, shape, shape_of, path}
use Rattle.tree.proofs.Shapes.{shape_low, shape_high, size_shape, shape_is, below_pow}

-- every part of a tree splits as its number of leaves says
abbrev pub Even : Shape → Type 0
Even tip = Unit {0}
Even (fork l r) = (shape_of (size l + size r) ≡ fork l r) × Even l × Even r

pub even : (s : Shape) → Even s → shape_of (size s) ≡ s
even tip o = refl
even (fork l r) o = o.0

pub even_shape : (h n : ℕ) → 1 ≤ n → n ≤ 2 ^ h → Even (shape h n)
even_shape zero n a b = tt
even_shape (suc h) n a b =
    ⊎_elim
    (λ l.
    let s : size (shape h (2 ^ h)) + size (shape h (n - 2 ^ h)) ≡ n =
    omega (arith, size_shape h (2 ^ h) (pow_pos h) (le_refl (2 ^ h)), size_shape h (n - 2 ^ h) (omega arith) (omega arith)) in
    subst Even (sym (shape_high h n l)) (
      ap shape_of s ∙ sym (shape_is (suc h) n b) ∙ shape_high h n l,
      even_shape h (2 ^ h) (pow_pos h) (le_refl (2 ^ h)),
      even_shape h (n - 2 ^ h) (omega arith) (omega arith),
    ))
    (λ l. subst Even (sym (shape_low h n l)) (even_shape h n a l))
    (cases_lt (2 ^ h) n)

pub even_shape_of : (n : ℕ) → 1 ≤ n → Even (shape_of n)
even_shape_of n a = even_shape n n a (le_of_lt (below_pow n))

-- the parts of a path or link, one by one
module _ {S D : Type 0} (g : S → D) (p : ℕ → Shape → S) (q : ℕ → Shape → D) (same : (a : ℕ) (s : Shape) → shape_of (size s) ≡ s → g (p a s) ≡ q a s) where
  either : (b : Bool) (xs ys : List S) (xs' ys' : List D) → map g xs ≡ xs' → map g ys ≡ ys' → map g (cond b xs ys) ≡ cond b xs' ys'
  either true xs ys xs' ys' e f = e
  either false xs ys xs' ys' e f = f

  more : (xs : List S) (x : S) (xs' : List D) (x' : D) → map g xs ≡ xs' → g x ≡ x' → map g (xs ++ (x ∷ [])) ≡ xs' ++ (x' ∷ [])
  more xs x xs' x' e f = map_push g xs x ∙ ap₂ (λ (ys : List D) (y : D). ys ++ (y ∷ [])) e f

  pub path_parts : (s : Shape) (a i : ℕ) → Even s → map g (path p s a i) ≡ path q s a i
  path_parts tip a i o = refl
  path_parts (fork l r) a i o =
      either (ltb i (size l)) (path p l a i ++ (p (a + size l) r ∷ [])) (path p r (a + size l) (i - size l) ++ (p a l ∷ []))
      (path q l a i ++ (q (a + size l) r ∷ [])) (path q r (a + size l) (i - size l) ++ (q a l ∷ []))
      (more (path p l a i) (p (a + size l) r) (path q l a i) (q (a + size l) r) (path_parts l a i o.1) (same (a + size l) r (even r o.2)))
      (more (path p r (a + size l) (i - size l)) (p a l) (path q r (a + size l) (i - size l)) (q a l) (path_parts r (a + size l) (i - size l) o.2) (same a l (even l o.1)))

  alone : (mark : Bool) (x : S) (y : D) → g x ≡ y → map g (cond mark [] (x ∷ [])) ≡ cond mark [] (y ∷ [])
  alone true x y e = refl
  alone false x y e = ap (λ (z : D). z ∷ []) e

  pub sub_parted : (s : Shape) (a m : ℕ) (mark : Bool) → Even s → map g (sub p s a m mark) ≡ sub q s a m mark
  sub_parted tip a m mark o = alone mark (p a tip) (q a tip) (same a tip refl)
  sub_parted (fork l r) a m mark o =
      let ls = sub p l a m mark ++ (p (a + size l) r ∷ []) in
      let rs = sub p r (a + size l) (m - size l) false ++ (p a l ∷ []) in
      let ls' = sub q l a m mark ++ (q (a + size l) r ∷ []) in
      let rs' = sub q r (a + size l) (m - size l) false ++ (q a l ∷ []) in
      either (eqb m (size l + size r)) (cond mark [] (p a (fork l r) ∷ [])) (cond (leb m (size l)) ls rs) (cond mark [] (q a (fork l r) ∷ [])) (cond (leb m (size l)) ls' rs')
      (alone mark (p a (fork l r)) (q a (fork l r)) (same a (fork l r) o.0))
      (either (leb m (size l)) ls rs ls' rs'
      (more (sub p l a m mark) (p (a + size l) r) (sub q l a m mark) (q (a + size l) r) (sub_parted l a m mark o.1) (same (a + size l) r (even r o.2)))
      (more (sub p r (a + size l) (m - size l) false) (p a l) (sub q r (a + size l) (m - size l) false) (q a l) (sub_parted r (a + size l) (m - size l) false o.2) (same a l (even l o.1))))
