-- How a link is put together, and what it rebuilds. Assumes nothing.
use Rattle.std.proofs.Common.{◌≡◌, ℕ, zero, suc, ◌+◌, ◌-◌, ◌^◌, ◌<◌, ◌≤◌, Bool, true, false, cond, ◌&&◌, eqb, leb, List, [], ◌∷◌, ◌++◌, reverse, length, drop, sym, refl, ap, ◌∙◌, ap₂, ⊎_elim, append_assoc, le_refl, le_of_lt, arith, length-append, pow_pos}
use mathlib.Core.List.{reverse-append}
use Rattle.std.proofs.lemmas.List.{drop-drop}
use Rattle.std.proofs.lemmas.Bool.{both_ways, eq-eqb, ne_eqb, le-leb, lt-leb, cases_lt, cases_eq}
use Rattle.tree.specs.Tree.{Shape, tip, fork, size, shape, shape_of, top, low, high, climb}
use Rattle.tree.specs.Links.{sub, link_turns, kept, base, above, climb_old}
use Rattle.tree.proofs.Shapes.{shape_low, shape_high, size_shape, shape_is, below_pow}

-- the first m leaves of a shape
abbrev pub front : Shape → ℕ → Shape
front tip m = tip
front (fork l r) m = cond (eqb m (size l + size r)) (fork l r) (cond (leb m (size l)) (front l m) (fork l (front r (m - size l))))

-- the part at which Sub ends, and the digests above it
abbrev pub foot : {D : Type 0} → (ℕ → Shape → D) → Shape → ℕ → ℕ → D
foot part tip a m = part a tip
foot part (fork l r) a m = cond (eqb m (size l + size r)) (part a (fork l r)) (cond (leb m (size l)) (foot part l a m) (foot part r (a + size l) (m - size l)))

abbrev pub rest : {D : Type 0} → (ℕ → Shape → D) → Shape → ℕ → ℕ → List D
rest part tip a m = []
rest part (fork l r) a m =
    cond (eqb m (size l + size r)) []
    (cond (leb m (size l)) (rest part l a m ++ (part (a + size l) r ∷ [])) (rest part r (a + size l) (m - size l) ++ (part a l ∷ [])))

-- a link is its foot, unless the old root stands for it, and the rest
pub sub_parts : {D : Type 0} (part : ℕ → Shape → D) (s : Shape) (a m : ℕ) (mark : Bool) →
    sub part s a m mark ≡ cond (mark && kept (link_turns s m)) [] (foot part s a m ∷ []) ++ rest part s a m
sub_parts part tip a m true = refl
sub_parts part tip a m false = refl
sub_parts part (fork l r) a m mark =
    go (eqb m (size l + size r)) (leb m (size l)) mark (sub_parts part l a m mark) (sub_parts part r (a + size l) (m - size l) false)
  where
    go : (b c t : Bool) → sub part l a m t ≡ cond (t && kept (link_turns l m)) [] (foot part l a m ∷ []) ++ rest part l a m →
        sub part r (a + size l) (m - size l) false ≡ (foot part r (a + size l) (m - size l) ∷ rest part r (a + size l) (m - size l)) →
        cond b (cond t [] (part a (fork l r) ∷ []))
        (cond c (sub part l a m t ++ (part (a + size l) r ∷ [])) (sub part r (a + size l) (m - size l) false ++ (part a l ∷ [])))
        ≡ cond (t && kept (cond b [] (cond c (low ∷ link_turns l m) (high ∷ link_turns r (m - size l))))) []
        (cond b (part a (fork l r)) (cond c (foot part l a m) (foot part r (a + size l) (m - size l))) ∷ [])
        ++ cond b [] (cond c (rest part l a m ++ (part (a + size l) r ∷ [])) (rest part r (a + size l) (m - size l) ++ (part a l ∷ [])))
    go true c true x y = refl
    go true c false x y = refl
    go false true t x y = ap (λ z. z ++ (part (a + size l) r ∷ [])) x ∙ append_assoc (cond (t && kept (link_turns l m)) [] (foot part l a m ∷ [])) (rest part l a m) (part (a + size l) r ∷ [])
    go false false true x y = ap (λ z. z ++ (part a l ∷ [])) y
    go false false false x y = ap (λ z. z ++ (part a l ∷ [])) y

module _ {D : Type 0} (node : D → D → D) (none : D) (xs : List D) where
  abbrev part : ℕ → Shape → D
  part a s = top node none s (drop a xs)

  pub news_rebuilt : (s : Shape) (a m : ℕ) → climb node (link_turns s m) (foot part s a m) (reverse (rest part s a m)) ≡ part a s
  news_rebuilt tip a m = refl
  news_rebuilt (fork l r) a m =
      go (eqb m (size l + size r)) (leb m (size l)) (news_rebuilt l a m) (news_rebuilt r (a + size l) (m - size l))
    where
      go : (b c : Bool) → climb node (link_turns l m) (foot part l a m) (reverse (rest part l a m)) ≡ part a l →
          climb node (link_turns r (m - size l)) (foot part r (a + size l) (m - size l)) (reverse (rest part r (a + size l) (m - size l))) ≡ part (a + size l) r →
          climb node (cond b [] (cond c (low ∷ link_turns l m) (high ∷ link_turns r (m - size l))))
          (cond b (part a (fork l r)) (cond c (foot part l a m) (foot part r (a + size l) (m - size l))))
          (reverse (cond b [] (cond c (rest part l a m ++ (part (a + size l) r ∷ [])) (rest part r (a + size l) (m - size l) ++ (part a l ∷ [])))))
          ≡ part a (fork l r)
      go true c x y = refl
      go false true x y =
          ap (climb node (low ∷ link_turns l m) (foot part l a m)) (reverse-append (rest part l a m) (part (a + size l) r ∷ []))
          ∙ ap₂ node x (ap (top node none r) (sym (drop-drop (size l) a xs)))
      go false false x y =
          ap (climb node (high ∷ link_turns r (m - size l)) (foot part r (a + size l) (m - size l))) (reverse-append (rest part r (a + size l) (m - size l)) (part a l ∷ []))
          ∙ ap (node (part a l)) (y ∙ ap (top node none r) (sym (drop-drop (size l) a xs)))

  pub olds_rebuilt : (s : Shape) (a m : ℕ) → climb_old node (link_turns s m) (foot part s a m) (reverse (rest part s a m)) ≡ part a (front s m)
  olds_rebuilt tip a m = refl
  olds_rebuilt (fork l r) a m =
      go (eqb m (size l + size r)) (leb m (size l)) (olds_rebuilt l a m) (olds_rebuilt r (a + size l) (m - size l))
    where
      go : (b c : Bool) → climb_old node (link_turns l m) (foot part l a m) (reverse (rest part l a m)) ≡ part a (front l m) →
          climb_old node (link_turns r (m - size l)) (foot part r (a + size l) (m - size l)) (reverse (rest part r (a + size l) (m - size l))) ≡ part (a + size l) (front r (m - size l)) →
          climb_old node (cond b [] (cond c (low ∷ link_turns l m) (high ∷ link_turns r (m - size l))))
          (cond b (part a (fork l r)) (cond c (foot part l a m) (foot part r (a + size l) (m - size l))))
          (reverse (cond b [] (cond c (rest part l a m ++ (part (a + size l) r ∷ [])) (rest part r (a + size l) (m - size l) ++ (part a l ∷ [])))))
          ≡ part a (cond b (fork l r) (cond c (front l m) (fork l (front r (m - size l)))))
      go true c x y = refl
      go false true x y = ap (climb_old node (low ∷ link_turns l m) (foot part l a m)) (reverse-append (rest part l a m) (part (a + size l) r ∷ [])) ∙ x
      go false false x y =
          ap (climb_old node (high ∷ link_turns r (m - size l)) (foot part r (a + size l) (m - size l))) (reverse-append (rest part r (a + size l) (m - size l)) (part a l ∷ []))
          ∙ ap (node (part a l)) (y ∙ ap (top node none (front r (m - size l))) (sym (drop-drop (size l) a xs)))

  -- where the mark is kept, the foot is what the old root stands over
  pub foot_kept : (s : Shape) (a m : ℕ) → kept (link_turns s m) ≡ true → foot part s a m ≡ part a (front s m)
  foot_kept tip a m k = refl
  foot_kept (fork l r) a m k = go (eqb m (size l + size r)) (leb m (size l)) k (foot_kept l a m)
    where
      go : (b c : Bool) → kept (cond b [] (cond c (low ∷ link_turns l m) (high ∷ link_turns r (m - size l)))) ≡ true →
          (kept (link_turns l m) ≡ true → foot part l a m ≡ part a (front l m)) →
          cond b (part a (fork l r)) (cond c (foot part l a m) (foot part r (a + size l) (m - size l)))
          ≡ part a (cond b (fork l r) (cond c (front l m) (fork l (front r (m - size l)))))
      go true c k x = refl
      go false true k x = x k
      go false false k x = absurd (both_ways false refl k)

module _ (l r : Shape) (m : ℕ) where
  front_all : m ≡ size l + size r → front (fork l r) m ≡ fork l r
  front_all e = ap (λ b. cond b (fork l r) (cond (leb m (size l)) (front l m) (fork l (front r (m - size l))))) (eq-eqb m (size l + size r) e)

  front_low : (m ≡ size l + size r → ⊥) → m ≤ size l → front (fork l r) m ≡ front l m
  front_low n e =
      ap (λ b. cond b (fork l r) (cond (leb m (size l)) (front l m) (fork l (front r (m - size l))))) (ne_eqb m (size l + size r) n)
      ∙ ap (λ b. cond b (front l m) (fork l (front r (m - size l)))) (le-leb m (size l) e)

  front_high : (m ≡ size l + size r → ⊥) → size l < m → front (fork l r) m ≡ fork l (front r (m - size l))
  front_high n e =
      ap (λ b. cond b (fork l r) (cond (leb m (size l)) (front l m) (fork l (front r (m - size l))))) (ne_eqb m (size l + size r) n)
      ∙ ap (λ b. cond b (front l m) (fork l (front r (m - size l)))) (lt-leb m (size l) e)

-- the first m leaves of n split as m leaves do
pub front_shape : (h n m : ℕ) → 1 ≤ m → m ≤ n → n ≤ 2 ^ h → front (shape h n) m ≡ shape h m
front_shape zero n m a b c = refl
front_shape (suc h) n m a b c =
    ⊎_elim
    (λ l.
    let k = 2 ^ h in
    let p = shape h k in
    let q = shape h (n - k) in
    let s₁ : size p ≡ k = size_shape h k (pow_pos h) (le_refl k) in
    let s₂ : size q ≡ n - k = size_shape h (n - k) (omega arith) (omega arith) in
    ap (λ s. front s m) (shape_high h n l)
    ∙ ⊎_elim (λ e. front_all p q m (omega (arith, s₁, s₂, e)) ∙ sym (shape_high h n l) ∙ ap (shape (suc h)) (sym e))
    (λ ne.
    let ne' : m ≡ size p + size q → ⊥ = λ e. ne (omega (arith, s₁, s₂, e)) in
    ⊎_elim
    (λ g. front_high p q m ne' (omega (arith, s₁, g)) ∙ ap (λ j. fork p (front q (m - j))) s₁
    ∙ ap (fork p) (front_shape h (n - k) (m - k) (omega arith) (omega arith) (omega arith)) ∙ sym (shape_high h m g))
    (λ g. front_low p q m ne' (omega (arith, s₁, g)) ∙ front_shape h k m a g (le_refl k) ∙ sym (shape_low h m g))
    (cases_lt k m))
    (cases_eq m n))
    (λ l. ap (λ s. front s m) (shape_low h n l) ∙ front_shape h n m a b l ∙ sym (shape_low h m (omega arith)))
    (cases_lt (2 ^ h) n)

pub front_shape_of : (n m : ℕ) → 1 ≤ m → m ≤ n → front (shape_of n) m ≡ shape_of m
front_shape_of n m a b = front_shape n n m a b (le_of_lt (below_pow n)) ∙ shape_is n m (omega (arith, below_pow n))

pub length_push : {A : Type 0} (xs : List A) (x : A) → length (xs ++ (x ∷ [])) ≡ suc (length xs)
length_push xs x = length-append xs (x ∷ []) ∙ omega arith

pub length_rest : {D : Type 0} (part : ℕ → Shape → D) (s : Shape) (a m : ℕ) → length (rest part s a m) ≡ length (link_turns s m)
length_rest part tip a m = refl
length_rest part (fork l r) a m = go (eqb m (size l + size r)) (leb m (size l)) (length_rest part l a m) (length_rest part r (a + size l) (m - size l))
  where
    go : (b c : Bool) → length (rest part l a m) ≡ length (link_turns l m) → length (rest part r (a + size l) (m - size l)) ≡ length (link_turns r (m - size l)) →
        length (cond b [] (cond c (rest part l a m ++ (part (a + size l) r ∷ [])) (rest part r (a + size l) (m - size l) ++ (part a l ∷ []))))
        ≡ length (cond b [] (cond c (low ∷ link_turns l m) (high ∷ link_turns r (m - size l))))
    go true c x y = refl
    go false true x y = length_push (rest part l a m) (part (a + size l) r) ∙ ap suc x
    go false false x y = length_push (rest part r (a + size l) (m - size l)) (part a l) ∙ ap suc y

pub length_link : {D : Type 0} (part : ℕ → Shape → D) (s : Shape) (a m : ℕ) → length (sub part s a m true) ≡ cond (kept (link_turns s m)) 0 1 + length (link_turns s m)
length_link part s a m = ap length (sub_parts part s a m true) ∙ go (kept (link_turns s m))
  where
    go : (b : Bool) → length (cond b [] (foot part s a m ∷ []) ++ rest part s a m) ≡ cond b 0 1 + length (link_turns s m)
    go true = length_rest part s a m ∙ omega arith
    go false = ap suc (length_rest part s a m) ∙ omega arith

-- base and above at a link that was made from the leaves, by its mark
pub started : {D : Type 0} (t : Bool) (old b : D) (ps : List D) → (t ≡ true → b ≡ old) → base t old (cond t [] (b ∷ []) ++ ps) ≡ b
started true old b ps h = sym (h refl)
started false old b ps h = refl

pub lifted : {D : Type 0} (t : Bool) (b : D) (ps : List D) → above t (cond t [] (b ∷ []) ++ ps) ≡ ps
lifted true b ps = refl
lifted false b ps = refl
