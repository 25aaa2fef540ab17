-- The way down as code goes it: between from and to, split at from + 2 ^ h. Assumes nothing.
use Rattle.std.proofs.Common.{◌≡◌, ℕ, ◌+◌, ◌-◌, ◌*◌, ◌^◌, ◌<◌, ◌≤◌, Bool, false, cond, ltb, leb, List, [], ◌∷◌, ◌++◌, reverse, refl, ap, ◌∙◌, ap₂, arith, pow_pos}
use mathlib.Core.List.{reverse-append}
use Rattle.std.proofs.lemmas.Bool.{lt-ltb, le-ltb, le-leb, lt-leb, eq-eqb, ne_eqb}
use Rattle.tree.specs.Tree.{Shape, tip, fork, size, shape_of, path}
use Rattle.tree.specs.Links.{sub}
use Rattle.tree.proofs.Shapes.{splits, size_shape_of}

-- a part of the tree by its first leaf and the one after its last
abbrev pub ranged : {D : Type 0} → (ℕ → ℕ → D) → ℕ → Shape → D
ranged at a s = at a (a + size s)

-- the part at the end of a list, first of the list turned round
pub back_push : {D : Type 0} (xs : List D) (x : D) → reverse (xs ++ (x ∷ [])) ≡ x ∷ reverse xs
back_push xs x = reverse-append xs (x ∷ [])

module _ {D : Type 0} (at : ℕ → ℕ → D) where
  abbrev part : ℕ → Shape → D
  part = ranged at

  -- what is left of the path of leaf i between from and to
  abbrev pub way : ℕ → ℕ → ℕ → List D
  way from to i = path part (shape_of (to - from)) from (i - from)

  pub way_end : (from to i : ℕ) → to - from ≡ 1 → way from to i ≡ []
  way_end from to i e = ap (λ (k : ℕ). path part (shape_of k) from (i - from)) e

  module _ (h from mid to i : ℕ) (at_mid : mid ≡ from + 2 ^ h) (more : mid < to) (most : to - from ≤ 2 * 2 ^ h) where
    abbrev p : Shape
    p = shape_of (2 ^ h)

    abbrev q : Shape
    q = shape_of (to - from - 2 ^ h)

    abbrev step : ℕ → ℕ → List D
    step k j = cond (ltb j k) (path part p from j ++ (part (from + k) q ∷ [])) (path part q (from + k) (j - k) ++ (part from p ∷ []))

    split : shape_of (to - from) ≡ fork p q
    split = splits h (to - from) (omega arith) most

    size_p : size p ≡ 2 ^ h
    size_p = size_shape_of (2 ^ h) (pow_pos h)

    size_q : size q ≡ to - mid
    size_q = size_shape_of (to - from - 2 ^ h) (omega arith) ∙ omega arith

    over : part (from + 2 ^ h) q ≡ at mid to
    over =
        let e : from + 2 ^ h ≡ mid = omega arith in
        let f : from + 2 ^ h + size q ≡ to = omega (arith, size_q) in
        ap₂ at e f

    under : part from p ≡ at from mid
    under = let f : from + size p ≡ mid = omega (arith, size_p) in ap (at from) f

    way_step : way from to i ≡ step (2 ^ h) (i - from)
    way_step = ap (λ (s : Shape). path part s from (i - from)) split ∙ ap (λ (k : ℕ). step k (i - from)) size_p

    pub way_left : from ≤ i → i < mid → way from to i ≡ way from mid i ++ (at mid to ∷ [])
    way_left b l =
        let w : 2 ^ h ≡ mid - from = omega arith in
        way_step
        ∙ ap (λ (t : Bool). cond t (path part p from (i - from) ++ (part (from + 2 ^ h) q ∷ [])) (path part q (from + 2 ^ h) (i - from - 2 ^ h) ++ (part from p ∷ [])))
        (lt-ltb (i - from) (2 ^ h) (omega arith))
        ∙ ap₂ (λ (k : ℕ) (x : D). path part (shape_of k) from (i - from) ++ (x ∷ [])) w over

    pub way_right : mid ≤ i → way from to i ≡ way mid to i ++ (at from mid ∷ [])
    way_right b =
        let v : to - from - 2 ^ h ≡ to - mid = omega arith in
        let e : from + 2 ^ h ≡ mid = omega arith in
        let f : i - from - 2 ^ h ≡ i - mid = omega arith in
        way_step
        ∙ ap (λ (t : Bool). cond t (path part p from (i - from) ++ (part (from + 2 ^ h) q ∷ [])) (path part q (from + 2 ^ h) (i - from - 2 ^ h) ++ (part from p ∷ [])))
        (le-ltb (i - from) (2 ^ h) (omega arith))
        ∙ ap₂ (λ (k : ℕ) (x : D). path part (shape_of k) (from + 2 ^ h) (i - from - 2 ^ h) ++ (x ∷ [])) v under
        ∙ ap₂ (λ (a j : ℕ). path part (shape_of (to - mid)) a j ++ (at from mid ∷ [])) e f

  -- what is left of the link of the first m leaves between from and to
  abbrev pub walk : ℕ → ℕ → ℕ → Bool → List D
  walk from to m mark = sub part (shape_of (to - from)) from (m - from) mark

  sub_all : (s : Shape) (a m : ℕ) (mark : Bool) → m ≡ size s → sub part s a m mark ≡ cond mark [] (part a s ∷ [])
  sub_all tip a m mark e = refl
  sub_all (fork l r) a m mark e =
      ap (λ (t : Bool). cond t (cond mark [] (part a (fork l r) ∷ []))
      (cond (leb m (size l)) (sub part l a m mark ++ (part (a + size l) r ∷ [])) (sub part r (a + size l) (m - size l) false ++ (part a l ∷ []))))
      (eq-eqb m (size l + size r) e)

  pub walk_end : (from to m : ℕ) (mark : Bool) → m ≡ to → from < to → walk from to m mark ≡ cond mark [] (at from to ∷ [])
  walk_end from to m mark e l =
      let s : size (shape_of (to - from)) ≡ to - from = size_shape_of (to - from) (omega arith) in
      let f : from + size (shape_of (to - from)) ≡ to = omega (arith, s) in
      sub_all (shape_of (to - from)) from (m - from) mark (omega (arith, s)) ∙ ap (λ (x : ℕ). cond mark [] (at from x ∷ [])) f

  module _ (h from mid to m : ℕ) (mark : Bool) (at_mid : mid ≡ from + 2 ^ h) (more : mid < to) (most : to - from ≤ 2 * 2 ^ h) (low-m : from < m) (high-m : m < to) where
    abbrev u : Shape
    u = shape_of (2 ^ h)

    abbrev v : Shape
    v = shape_of (to - from - 2 ^ h)

    abbrev lefts : ℕ → ℕ → List D
    lefts k j = sub part u from j mark ++ (part (from + k) v ∷ [])

    abbrev rights : ℕ → ℕ → List D
    rights k j = sub part v (from + k) (j - k) false ++ (part from u ∷ [])

    walk_step : walk from to m mark ≡ cond (leb (m - from) (2 ^ h)) (lefts (2 ^ h) (m - from)) (rights (2 ^ h) (m - from))
    walk_step =
        let su = size_p h from mid to m at_mid more most in
        let sv = size_q h from mid to m at_mid more most in
        let ne : m - from ≡ size u + size v → ⊥ = λ e. omega (arith, e, su, sv) in
        ap (λ (s : Shape). sub part s from (m - from) mark) (split h from mid to m at_mid more most)
        ∙ ap (λ (t : Bool). cond t (cond mark [] (part from (fork u v) ∷ [])) (cond (leb (m - from) (size u)) (lefts (size u) (m - from)) (rights (size u) (m - from))))
        (ne_eqb (m - from) (size u + size v) ne)
        ∙ ap (λ (k : ℕ). cond (leb (m - from) k) (lefts k (m - from)) (rights k (m - from))) su

    pub walk_left : m ≤ mid → walk from to m mark ≡ walk from mid m mark ++ (at mid to ∷ [])
    walk_left l =
        let w : 2 ^ h ≡ mid - from = omega arith in
        walk_step
        ∙ ap (λ (t : Bool). cond t (lefts (2 ^ h) (m - from)) (rights (2 ^ h) (m - from))) (le-leb (m - from) (2 ^ h) (omega arith))
        ∙ ap₂ (λ (k : ℕ) (x : D). sub part (shape_of k) from (m - from) mark ++ (x ∷ [])) w (over h from mid to m at_mid more most)

    pub walk_right : mid < m → walk from to m mark ≡ walk mid to m false ++ (at from mid ∷ [])
    walk_right b =
        let w : to - from - 2 ^ h ≡ to - mid = omega arith in
        let e : from + 2 ^ h ≡ mid = omega arith in
        let f : m - from - 2 ^ h ≡ m - mid = omega arith in
        walk_step
        ∙ ap (λ (t : Bool). cond t (lefts (2 ^ h) (m - from)) (rights (2 ^ h) (m - from))) (lt-leb (m - from) (2 ^ h) (omega arith))
        ∙ ap₂ (λ (k : ℕ) (x : D). sub part (shape_of k) (from + 2 ^ h) (m - from - 2 ^ h) false ++ (x ∷ [])) w (under h from mid to m at_mid more most)
        ∙ ap₂ (λ (a j : ℕ). sub part (shape_of (to - mid)) a j false ++ (at from mid ∷ [])) e f
