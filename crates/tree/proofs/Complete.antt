-- A path made from the leaves rebuilds the root over them. Assumes nothing.
use Rattle.std.proofs.Common.{◌≡◌, ℕ, ◌+◌, ◌-◌, ◌<◌, Bool, true, false, cond, ltb, List, [], ◌∷◌, ◌++◌, reverse, get_or, drop, sym, refl, ap, ◌∙◌, ap₂, arith}
use mathlib.Core.List.{reverse-append}
use Rattle.std.proofs.lemmas.List.{drop-drop, get_or-drop}
use Rattle.std.proofs.lemmas.Bool.{ltb-true, ltb-false}
use Rattle.tree.specs.Tree.{Shape, tip, fork, size, top, path, low, high, turns, climb}

module _ {D : Type 0} (node : D → D → D) (none : D) (xs : List D) where
  abbrev part : ℕ → Shape → D
  part a s = top node none s (drop a xs)

  pub path_rebuilds : (s : Shape) (a i : ℕ) → i < size s → climb node (turns s i) (get_or xs (a + i) none) (reverse (path part s a i)) ≡ part a s
  path_rebuilds tip a i h = sym (get_or-drop a xs i none) ∙ ap (λ n. get_or (drop a xs) n none) (omega arith)
  path_rebuilds (fork l r) a i h = go (ltb i (size l)) refl (path_rebuilds l a i) (path_rebuilds r (a + size l) (i - size l))
    where
      go : (b : Bool) → ltb i (size l) ≡ b →
          (i < size l → climb node (turns l i) (get_or xs (a + i) none) (reverse (path part l a i)) ≡ part a l) →
          (i - size l < size r → climb node (turns r (i - size l)) (get_or xs ((a + size l) + (i - size l)) none) (reverse (path part r (a + size l) (i - size l))) ≡ part (a + size l) r) →
          climb node (cond b (low ∷ turns l i) (high ∷ turns r (i - size l))) (get_or xs (a + i) none)
          (reverse (cond b (path part l a i ++ (part (a + size l) r ∷ [])) (path part r (a + size l) (i - size l) ++ (part a l ∷ []))))
          ≡ node (part a l) (top node none r (drop (size l) (drop a xs)))
      go true e left right =
          ap (climb node (low ∷ turns l i) (get_or xs (a + i) none)) (reverse-append (path part l a i) (part (a + size l) r ∷ []))
          ∙ ap₂ node (left (ltb-true i (size l) e)) (ap (top node none r) (sym (drop-drop (size l) a xs)))
      go false e left right =
          let le = ltb-false i (size l) e in
          ap (climb node (high ∷ turns r (i - size l)) (get_or xs (a + i) none)) (reverse-append (path part r (a + size l) (i - size l)) (part a l ∷ []))
          ∙ ap (λ n. node (part a l) (climb node (turns r (i - size l)) (get_or xs n none) (reverse (path part r (a + size l) (i - size l))))) (omega arith)
          ∙ ap (node (part a l)) (right (omega (arith, h)) ∙ ap (top node none r) (sym (drop-drop (size l) a xs)))
