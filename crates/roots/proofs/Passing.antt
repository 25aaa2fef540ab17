-- The steps of the pass at a stack of subtrees. Assumes nothing.
use Rattle.std.proofs.Common.{◌≡◌, ℕ, ◌+◌, ◌^◌, ◌<◌, ◌≤◌, List, [], ◌∷◌, ◌++◌, length, take, Ok, Err, Result, sym, refl, ap, ◌∙◌, subst, append_assoc, append-nil, arith, MatchResult}
use Rattle.std.proofs.lemmas.List.{length-take-le}
use Rattle.hash.specs.Collisions.{Bytes}
use Rattle.tree.specs.Spans.{largest}
use Rattle.tree.specs.Tree.{whole_by}
use Rattle.roots.specs.declared.range.Subtree.{Subtree}
use Rattle.roots.specs.Rows.{Rows, Pending}
use Rattle.roots.proofs.Pass.{low_exponent, push_row, merge_row, strict_one, strict_row, few, low_height, fold_start, fold_more}

-- a push onto a stack that is not full
pub from_push : {A B G T : Type 0} (X : B → Type 0) (Y : A → Type 0) (r : Result A B) (U V : List T) (n m : ℕ) → MatchResult r (λ _. V ≡ U) X → MatchResult r Y (λ _. n ≡ m)
    → n < m → (V ≡ U → G) → MatchResult r (λ _. G) (λ _. ⊥)
from_push X Y (Ok u) U V n m a b h f = f a
from_push X Y (Err e) U V n m a b h f = omega arith

module _ {D : Type 0} (node : Bytes → Bytes → Bytes) (bytes : D → Bytes) where
  abbrev R : ℕ → List (Subtree D) → List Bytes → Type 0
  R = Rows node bytes

  pub pushed : (cs : List (Subtree D)) (xs : List Bytes) (c : Subtree D) → c.height ≡ 0 → R 1 cs xs → R 0 (cs ++ c ∷ []) (xs ++ bytes c.digest ∷ [])
  pushed cs xs c e r = push_row node bytes cs xs (bytes c.digest) c e refl r

  pub alone : (U E V : List (Subtree D)) (top : Subtree D) (xs : List Bytes) → U ≡ [] → U ≡ E ++ [] → V ≡ E ++ top ∷ [] → R 0 (U ++ top ∷ []) xs → R 1 V xs
  alone U E V top xs n u e r =
      let m : E ≡ [] = sym (append-nil E) ∙ sym u ∙ n in
      subst (λ (ds : List (Subtree D)). R 1 ds xs) (sym (e ∙ ap (λ (x : List (Subtree D)). x ++ top ∷ []) m))
      (strict_one node bytes top xs (subst (λ (ds : List (Subtree D)). R 0 (ds ++ top ∷ []) xs) n r))

  pub both : (U E W V : List (Subtree D)) (below top : Subtree D) (xs : List Bytes) → (below.height ≡ top.height → ⊥) → U ≡ E ++ below ∷ [] → W ≡ E ++ below ∷ []
      → V ≡ W ++ top ∷ [] → R 0 (U ++ top ∷ []) xs → R 1 V xs
  both U E W V below top xs ne u w e r =
      let g = append_assoc E (below ∷ []) (top ∷ []) in
      subst (λ (ds : List (Subtree D)). R 1 ds xs) (sym (e ∙ ap (λ (x : List (Subtree D)). x ++ top ∷ []) w ∙ g))
      (strict_row node bytes E below top xs ne (subst (λ (ds : List (Subtree D)). R 0 ds xs) (ap (λ (x : List (Subtree D)). x ++ top ∷ []) u ∙ g) r))

  pub merged : (U E : List (Subtree D)) (below top c : Subtree D) (xs : List Bytes) → below.height ≡ top.height → U ≡ E ++ below ∷ []
      → c.height ≡ top.height + 1 → bytes c.digest ≡ node (bytes below.digest) (bytes top.digest) → R 0 (U ++ top ∷ []) xs → R 0 (E ++ c ∷ []) xs
  merged U E below top c xs e u h f r =
      let g = append_assoc E (below ∷ []) (top ∷ []) in
      merge_row node bytes E below top c xs e (h ∙ ap (λ (k : ℕ). k + 1) (sym e)) f
      (subst (λ (ds : List (Subtree D)). R 0 ds xs) (ap (λ (y : List (Subtree D)). y ++ top ∷ []) u ∙ g) r)

  pub few_cells : (cs : List (Subtree D)) (n : ℕ) (xs : List Bytes) → n ≤ length cs → length xs < largest → R 1 (take n cs) xs → n ≤ 20
  few_cells cs n xs h l r = let k = length-take-le n cs h in let f = few node bytes (take n cs) xs l r in omega arith

  pub height_most : (cs : List (Subtree D)) (a : Subtree D) (xs : List Bytes) → length xs ≤ largest → R 0 (cs ++ a ∷ []) xs → a.height ≤ 20
  height_most cs a xs l r =
      let i = low_height node bytes 0 cs [] a xs r in
      let j : 2 ^ a.height ≤ 2 ^ 20 = omega arith in
      low_exponent a.height 20 j

  pub started : (U E : List (Subtree D)) (top : Subtree D) (xs : List Bytes) → U ≡ E ++ top ∷ [] → R 1 U xs → Pending node bytes E (bytes top.digest) xs
  started U E top xs u r = fold_start node bytes E top xs (subst (λ (ds : List (Subtree D)). R 1 ds xs) u r)

  pub folded : (U E : List (Subtree D)) (below : Subtree D) (acc x : Bytes) (xs : List Bytes) → U ≡ E ++ below ∷ [] → x ≡ node (bytes below.digest) acc
      → Pending node bytes U acc xs → Pending node bytes E x xs
  folded U E below acc x xs u e r =
      subst (λ (y : Bytes). Pending node bytes E y xs) (sym e)
      (fold_more node bytes E below acc xs (subst (λ (ds : List (Subtree D)). Pending node bytes ds acc xs) u r))

  pub ended : (U : List (Subtree D)) (acc : Bytes) (xs : List Bytes) → U ≡ [] → Pending node bytes U acc xs → whole_by node [] xs ≡ acc
  ended U acc xs e r = let q : Pending node bytes [] acc xs = subst (λ (ds : List (Subtree D)). Pending node bytes ds acc xs) e r in q.1

  pub no_row : (U : List (Subtree D)) (xs : List Bytes) → U ≡ [] → R 1 U xs → length xs ≡ 0
  no_row U xs e r = subst (λ (ds : List (Subtree D)). R 1 ds xs) e r
