-- The ranges beside a way tell its turns. Assumes nothing.
use Rattle.std.proofs.Common.{◌≡◌, ℕ, ◌+◌, ◌-◌, ◌<◌, ◌≤◌, Bool, true, false, cond, ◌&&◌, eqb, ltb, leb, List, [], ◌∷◌, ◌++◌, map, reverse, sym, refl, ap, ◌∙◌, ap₂, append_assoc, arith}
use mathlib.Core.List.{reverse-cons}
use Rattle.std.proofs.lemmas.Bool.{lt-ltb, le-ltb, le-leb, lt-leb, ltb-true, ltb-false, leb-true, leb-false}
use Rattle.std.proofs.lemmas.List.{map_push}
use Rattle.tree.specs.declared.spans.Span.{Span}
use Rattle.tree.specs.declared.ways.Side.{Side}
use Rattle.tree.specs.declared.ways.Side.TheVariants.{Low, High, Through}
use Rattle.tree.specs.declared.ways.Way.{Way}
use Rattle.tree.specs.declared.ways.Way.TheVariants.{ToLeaf, ToEnd}
use Rattle.tree.specs.Links.{sub, link_turns, kept}
use Rattle.tree.specs.Spans.{span_of}
use Rattle.tree.specs.Tree.{Shape, tip, fork, size, shape_of, path, turns, Turn, low, high}
use Rattle.tree.specs.Ways.{way_turns, way_kept, way_spans, in_way, side_of}
use Rattle.tree.proofs.Descent.{in_tree_order, in_link_order}
use Rattle.tree.proofs.Shapes.{size_shape_of}

-- the side by which a turn goes by what stands beside it
abbrev pub side_by : Turn → Side
side_by low = Low
side_by high = High

-- the sides from the lowest on
abbrev pub sides : List Turn → List Side
sides ts = map side_by (reverse ts)

-- one range more, above the others
above : (g : Span → Side) (xs : List Span) (s : Span) (us : List Side) (t : Turn) (ts : List Turn) → map g xs ≡ us ++ sides ts → g s ≡ side_by t → map g (xs ++ (s ∷ [])) ≡ us ++ sides (t ∷ ts)
above g xs s us t ts e f =
    map_push g xs s
    ∙ ap₂ (λ (ys : List Side) (y : Side). ys ++ (y ∷ [])) e f
    ∙ append_assoc us (sides ts) (side_by t ∷ [])
    ∙ ap (λ (ys : List Side). us ++ ys) (sym (ap (map side_by) (reverse-cons t ts) ∙ map_push side_by (reverse ts) t))

tested : (p q a b : Bool) → p ≡ a → q ≡ b → cond p Low (cond q Through High) ≡ cond a Low (cond b Through High)
tested p q a b e f = ap₂ (λ (x y : Bool). cond x Low (cond y Through High)) e f

false_and : (b : Bool) → false ≡ (b && false)
false_and true = refl
false_and false = refl

module _ (j n : ℕ) where
  abbrev leaf : Span → Side
  leaf = side_of (ToLeaf j n)

  path_sides : (s : Shape) (a i : ℕ) → a + i ≡ j → i < size s → map leaf (path span_of s a i) ≡ sides (turns s i)
  path_sides tip a i e h = refl
  path_sides (fork l r) a i e h = go (ltb i (size l)) refl (path_sides l a i e) (path_sides r (a + size l) (i - size l))
    where
      go : (b : Bool) → ltb i (size l) ≡ b → (i < size l → map leaf (path span_of l a i) ≡ sides (turns l i)) →
          ((a + size l) + (i - size l) ≡ j → i - size l < size r → map leaf (path span_of r (a + size l) (i - size l)) ≡ sides (turns r (i - size l))) →
          map leaf (cond b (path span_of l a i ++ (span_of (a + size l) r ∷ [])) (path span_of r (a + size l) (i - size l) ++ (span_of a l ∷ [])))
          ≡ sides (cond b (low ∷ turns l i) (high ∷ turns r (i - size l)))
      go true f x y =
          let k = ltb-true i (size l) f in
          above leaf (path span_of l a i) (span_of (a + size l) r) [] low (turns l i) (x k)
          (tested _ _ true true (lt-ltb j (a + size l) (omega arith)) (lt-ltb j (a + size l + size r) (omega arith)))
      go false f x y =
          let k = ltb-false i (size l) f in
          above leaf (path span_of r (a + size l) (i - size l)) (span_of a l) [] high (turns r (i - size l)) (y (omega arith) (omega (arith, h)))
          (tested _ _ false false (le-ltb j a (omega arith)) (le-ltb j (a + size l) (omega arith)))

  abbrev end : Span → Side
  end = side_of (ToEnd j n)

  -- the part with which the way ends, unless it is known
  abbrev foot : Bool → List Side
  foot known = cond known [] (Through ∷ [])

  ends : (s : Shape) (a m : ℕ) (mark : Bool) → a + m ≡ j → 1 ≤ m → m ≤ size s → map end (cond mark [] (span_of a s ∷ [])) ≡ foot (mark && true) ++ []
  ends s a m true e h k = refl
  ends s a m false e h k = ap (λ (x : Side). x ∷ []) (tested _ _ false true (lt-leb j a (omega arith)) (le-leb j (a + size s) (omega arith)))

  link_sides : (s : Shape) (a m : ℕ) (mark : Bool) → a + m ≡ j → 1 ≤ m → m ≤ size s → map end (sub span_of s a m mark) ≡ foot (mark && kept (link_turns s m)) ++ sides (link_turns s m)
  link_sides tip a m mark e h k = ends tip a m mark e h k
  link_sides (fork l r) a m mark e h k = go (eqb m (size l + size r)) (leb m (size l)) refl refl (link_sides l a m mark e h) (link_sides r (a + size l) (m - size l) false)
    where
      go : (c b : Bool) → eqb m (size l + size r) ≡ c → leb m (size l) ≡ b →
          (m ≤ size l → map end (sub span_of l a m mark) ≡ foot (mark && kept (link_turns l m)) ++ sides (link_turns l m)) →
          ((a + size l) + (m - size l) ≡ j → 1 ≤ m - size l → m - size l ≤ size r →
          map end (sub span_of r (a + size l) (m - size l) false) ≡ foot false ++ sides (link_turns r (m - size l))) →
          map end (cond c (cond mark [] (span_of a (fork l r) ∷ []))
          (cond b (sub span_of l a m mark ++ (span_of (a + size l) r ∷ [])) (sub span_of r (a + size l) (m - size l) false ++ (span_of a l ∷ []))))
          ≡ foot (mark && kept (cond c [] (cond b (low ∷ link_turns l m) (high ∷ link_turns r (m - size l)))))
          ++ sides (cond c [] (cond b (low ∷ link_turns l m) (high ∷ link_turns r (m - size l))))
      go true b g f x y = ends (fork l r) a m mark e h k
      go false true g f x y =
          let p = leb-true m (size l) f in
          above end (sub span_of l a m mark) (span_of (a + size l) r) (foot (mark && kept (link_turns l m))) low (link_turns l m) (x p)
          (tested _ _ true true (le-leb j (a + size l) (omega arith)) (le-leb j (a + size l + size r) (omega arith)))
      go false false g f x y =
          let p = leb-false m (size l) f in
          above end (sub span_of r (a + size l) (m - size l) false) (span_of a l) (foot false) high (link_turns r (m - size l)) (y (omega arith) (omega arith) (omega (arith, k)))
          (tested _ _ false false (lt-leb j a (omega arith)) (lt-leb j (a + size l) (omega arith)))
          ∙ ap (λ (t : Bool). foot t ++ sides (high ∷ link_turns r (m - size l))) (false_and mark)

pub way_sides : (w : Way) → in_way w ≡ true → map (side_of w) (way_spans w) ≡ cond (way_kept w) [] (Through ∷ []) ++ sides (way_turns w)
way_sides (ToLeaf i n) e =
    let l = ltb-true i n (in_tree_order i n e).0 in
    path_sides i n (shape_of n) 0 i (omega arith) (omega (arith, size_shape_of n (omega arith)))
way_sides (ToEnd m n) e =
    let o = in_link_order m n e in
    let z = leb-false m 0 o.0 in
    let l = leb-true m n o.1 in
    link_sides m n (shape_of n) 0 m true (omega arith) (omega arith) (omega (arith, size_shape_of n (omega arith)))
