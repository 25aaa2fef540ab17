-- One step of a descent. Assumes nothing.
use Rattle.std.proofs.Common.{◌≡◌, ℕ, ◌+◌, ◌-◌, ◌^◌, ◌<◌, ◌≤◌, Bool, true, false, cond, eqb, List, [], ◌∷◌, ◌++◌, reverse, length, Some, None, sym, refl, ap, ◌∙◌, subst, ap₂, arith, pow_pos}
use Rattle.std.proofs.Math.Nat.{sub-zero}
use Rattle.std.proofs.lemmas.Bool.{ltb-true, ltb-false, leb-true, leb-false, eqb-true, eqb-false, eq-eqb, ne_eqb, lt-leb, le-ltb}
use Rattle.tree.specs.declared.spans.Span.{Span}
use Rattle.tree.specs.declared.ways.Way.{Way}
use Rattle.tree.specs.declared.ways.Way.TheVariants.{ToLeaf, ToEnd}
use Rattle.tree.specs.Links.{sub}
use Rattle.tree.specs.Spans.{between, span_of, Halves}
use Rattle.tree.specs.Tree.{shape_of, path}
use Rattle.tree.specs.Ways.{way_leaves, way_spans, way_count, in_way, Inside, ends_with, passes_low, most_spans, spans_in}
use Rattle.tree.proofs.Descent.{in_tree_order, in_link_order}
use Rattle.std.specs.Option.{option_map}
use Rattle.std.proofs.lemmas.List.{length-reverse}
use Rattle.tree.proofs.Depth.{path_at_most, link_at_most}
use Rattle.tree.proofs.Lengths.{length_path}
use Rattle.tree.proofs.Down.{back_push, way_end, way_left, way_right, walk_end, walk_left, walk_right}

-- the way to a leaf and to an end, inside a part
leaf_inside : (i n : ℕ) (part : Span) → Inside (ToLeaf i n) part → (part.from ≤ i) × (i < part.to)
leaf_inside i n part v = (ltb-false i part.from v.0, ltb-true i part.to v.1)

end_inside : (m n : ℕ) (part : Span) → Inside (ToEnd m n) part → (part.from < m) × (m ≤ part.to)
end_inside m n part v = (leb-false m part.from v.0, leb-true m part.to v.1)

-- such a part has leaves, and more than one if the way does not end with it
pub some_leaves : (w : Way) (part : Span) → Inside w part → part.from < part.to
some_leaves (ToLeaf i n) part v = let o = leaf_inside i n part v in omega arith
some_leaves (ToEnd m n) part v = let o = end_inside m n part v in omega arith

pub more_leaves : (w : Way) (part : Span) → Inside w part → ends_with w part ≡ false → 1 < part.to - part.from
more_leaves (ToLeaf i n) part v e =
    let o = leaf_inside i n part v in
    let f = eqb-false (part.to - part.from) 1 e in
    omega (arith, f)
more_leaves (ToEnd m n) part v e =
    let o = end_inside m n part v in
    let f = eqb-false part.to m e in
    omega (arith, f)

-- on to the first half, or to the second
module _ (part l r : Span) (h : Halves part l r) where
  abbrev mid : ℕ
  mid = part.from + 2 ^ h.0

  abbrev less : Span
  less = between part.from mid

  abbrev rest : Span
  rest = between mid part.to

  first : (w : Way) → Inside w part → ends_with w part ≡ false → passes_low w mid ≡ true
      → Inside w less × (reverse (spans_in w part) ≡ rest ∷ reverse (spans_in w less))
  first (ToLeaf i n) v e t =
      let o = leaf_inside i n part v in (
        (v.0, t),
        ap reverse (way_left between h.0 part.from mid part.to i refl h.1 h.2 o.0 (ltb-true i mid t)) ∙ back_push (spans_in (ToLeaf i n) less) rest,
      )
  first (ToEnd m n) v e t =
      let o = end_inside m n part v in
      let f = eqb-false part.to m e in (
        (v.0, t),
        ap reverse (walk_left between h.0 part.from mid part.to m (eqb part.from 0) refl h.1 h.2 o.0 (omega (arith, f)) (leb-true m mid t)) ∙ back_push (spans_in (ToEnd m n) less) rest,
      )

  second : (w : Way) → Inside w part → ends_with w part ≡ false → passes_low w mid ≡ false
      → Inside w rest × (reverse (spans_in w part) ≡ less ∷ reverse (spans_in w rest))
  second (ToLeaf i n) v e t = (
    (t, v.1),
    ap reverse (way_right between h.0 part.from mid part.to i refl h.1 h.2 (ltb-false i mid t)) ∙ back_push (spans_in (ToLeaf i n) rest) less,
  )
  second (ToEnd m n) v e t =
      let o = end_inside m n part v in
      let f = eqb-false part.to m e in
      let p = pow_pos h.0 in (
        (t, v.1),
        ap reverse (walk_right between h.0 part.from mid part.to m (eqb part.from 0) refl h.1 h.2 o.0 (omega (arith, f)) (leb-false m mid t)
            ∙ ap (λ (k : Bool). sub span_of (shape_of (part.to - mid)) mid (m - mid) k ++ (less ∷ [])) (sym (ne_eqb mid 0 (λ z. omega arith))))
            ∙ back_push (spans_in (ToEnd m n) rest) less,
      )

  pub on_first : (w : Way) → Inside w part → ends_with w part ≡ false → passes_low w r.from ≡ true
      → Inside w l × (reverse (spans_in w part) ≡ r ∷ reverse (spans_in w l))
  on_first w v e t =
      let q = first w v e (ap (λ (x : Span). passes_low w x.from) (sym h.4) ∙ t) in (
        subst (Inside w) (sym h.3) q.0,
        q.1 ∙ ap₂ (λ (x y : Span). x ∷ reverse (spans_in w y)) (sym h.4) (sym h.3),
      )

  pub on_second : (w : Way) → Inside w part → ends_with w part ≡ false → passes_low w r.from ≡ false
      → Inside w r × (reverse (spans_in w part) ≡ l ∷ reverse (spans_in w r))
  on_second w v e t =
      let q = second w v e (ap (λ (x : Span). passes_low w x.from) (sym h.4) ∙ t) in (
        subst (Inside w) (sym h.4) q.0,
        q.1 ∙ ap₂ (λ (x y : Span). x ∷ reverse (spans_in w y)) (sym h.3) (sym h.4),
      )

-- what is left where a way ends
last : (m n : ℕ) (part : Span) → Inside (ToEnd m n) part → ends_with (ToEnd m n) part ≡ true → spans_in (ToEnd m n) part ≡ cond (eqb part.from 0) [] (part ∷ [])
last m n part v e =
    let o = end_inside m n part v in
    let f = eqb-true part.to m e in
    walk_end between part.from part.to m (eqb part.from 0) (sym f) (omega arith)

at_leaf : (i n : ℕ) (part : Span) → ends_with (ToLeaf i n) part ≡ true → reverse (spans_in (ToLeaf i n) part) ≡ []
at_leaf i n part e = ap reverse (way_end between part.from part.to i (eqb-true (part.to - part.from) 1 e))

start : (m n : ℕ) (part : Span) → Inside (ToEnd m n) part → ends_with (ToEnd m n) part ≡ true → part.from ≡ 0 → reverse (spans_in (ToEnd m n) part) ≡ []
start m n part v e z = ap reverse (last m n part v e ∙ ap (λ (t : Bool). cond t [] (part ∷ [])) (eq-eqb part.from 0 z))

-- a part that does not begin the tree is given; then the way stands as if it began it
end : (m n : ℕ) (part : Span) → Inside (ToEnd m n) part → ends_with (ToEnd m n) part ≡ true → 0 < part.from
    → Inside (ToEnd m n) (between 0 part.to) × (reverse (spans_in (ToEnd m n) part) ≡ part ∷ reverse (spans_in (ToEnd m n) (between 0 part.to)))
end m n part v e z =
    let o = end_inside m n part v in
    let i : Inside (ToEnd m n) (between 0 part.to) = (lt-leb m 0 (omega arith), v.1) in (
      i,
      ap reverse (last m n part v e ∙ ap (λ (t : Bool). cond t [] (part ∷ [])) (ne_eqb part.from 0 (λ k. omega arith)))
          ∙ ap (λ (x : List Span). part ∷ x) (sym (start m n (between 0 part.to) i e refl)),
    )

pub at_start : (w : Way) (m n : ℕ) (part : Span) → w ≡ ToEnd m n → Inside w part → ends_with w part ≡ true → part.from ≡ 0 → reverse (spans_in w part) ≡ []
at_start (ToLeaf i k) m n part is v e z = at_leaf i k part e
at_start (ToEnd k l) m n part is v e z = start k l part v e z

pub at_end : (w : Way) (m n : ℕ) (part : Span) → w ≡ ToEnd m n → Inside w part → ends_with w part ≡ true → 0 < part.from
    → Inside w (between 0 part.to) × (reverse (spans_in w part) ≡ part ∷ reverse (spans_in w (between 0 part.to)))
at_end w m n part is v e z =
    subst (λ (u : Way). Inside u (between 0 part.to) × (reverse (spans_in u part) ≡ part ∷ reverse (spans_in u (between 0 part.to)))) (sym is)
    (end m n part (subst (λ (u : Way). Inside u part) is v) (ap (λ (u : Way). ends_with u part) (sym is) ∙ e) z)

-- at the root
pub at_root : (w : Way) → in_way w ≡ true → Inside w (between 0 (way_leaves w)) × (spans_in w (between 0 (way_leaves w)) ≡ way_spans w)
at_root (ToLeaf i n) e = ((le-ltb i 0 (omega arith), (in_tree_order i n e).0), ap₂ (λ (a b : ℕ). path span_of (shape_of a) 0 b) (sub-zero n) (sub-zero i))
at_root (ToEnd m n) e = (let o = in_link_order m n e in (o.0, o.1), ap₂ (λ (a b : ℕ). sub span_of (shape_of a) 0 b true) (sub-zero n) (sub-zero m))

-- how many ranges there are at most
pub few : (w : Way) → in_way w ≡ true → length (reverse (spans_in w (between 0 (way_leaves w)))) ≤ most_spans w
few (ToLeaf i n) e =
    let o = in_tree_order i n e in
    let r = length-reverse (spans_in (ToLeaf i n) (between 0 n)) in
    let s = ap length ((at_root (ToLeaf i n) e).1) in
    omega (arith, r, s, length_path span_of (shape_of n) 0 i, path_at_most n i o.1)
few (ToEnd m n) e =
    let o = in_link_order m n e in
    let r = length-reverse (spans_in (ToEnd m n) (between 0 n)) in
    let s = ap length ((at_root (ToEnd m n) e).1) in
    omega (arith, r, s, link_at_most span_of m n o.2)

-- as many as were counted
pub counted : (w : Way) (xs : List Span) → Some xs ≡ cond (in_way w) (Some (reverse (way_spans w))) None → Some (length xs) ≡ way_count w
counted w xs e = go (in_way w) e
  where
    go : (b : Bool) → Some xs ≡ cond b (Some (reverse (way_spans w))) None → Some (length xs) ≡ cond b (Some (length (way_spans w))) None
    go true f = ap (option_map length) f ∙ ap Some (length-reverse (way_spans w))
    go false f = ap (option_map length) f
