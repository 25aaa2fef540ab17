-- A path has a digest for each turn. Assumes nothing.
use Rattle.std.proofs.Common.{◌≡◌, ℕ, suc, ◌+◌, ◌-◌, Bool, true, false, cond, ltb, [], ◌∷◌, ◌++◌, length, refl, ap, ◌∙◌}
use Rattle.tree.specs.Tree.{Shape, tip, fork, size, path, low, high, turns}
use Rattle.tree.proofs.Linking.{length_push}

pub length_path : {D : Type 0} (part : ℕ → Shape → D) (s : Shape) (a i : ℕ) → length (path part s a i) ≡ length (turns s i)
length_path part tip a i = refl
length_path part (fork l r) a i = go (ltb i (size l)) (length_path part l a i) (length_path part r (a + size l) (i - size l))
  where
    go : (b : Bool) → length (path part l a i) ≡ length (turns l i) → length (path part r (a + size l) (i - size l)) ≡ length (turns r (i - size l)) →
        length (cond b (path part l a i ++ (part (a + size l) r ∷ [])) (path part r (a + size l) (i - size l) ++ (part a l ∷ [])))
        ≡ length (cond b (low ∷ turns l i) (high ∷ turns r (i - size l)))
    go true x y = length_push (path part l a i) (part (a + size l) r) ∙ ap suc x
    go false x y = length_push (path part r (a + size l) (i - size l)) (part a l) ∙ ap suc y
