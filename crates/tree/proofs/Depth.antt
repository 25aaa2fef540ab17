-- How long paths and links are: at most h digests below 2 ^ h leaves, and one more for a link. Assumes nothing.
use Rattle.std.proofs.Common.{◌≡◌, ℕ, zero, suc, ◌+◌, ◌-◌, ◌^◌, ◌≤◌, Bool, true, false, cond, eqb, ltb, leb, List, [], ◌∷◌, length, sym, subst, ⊎_elim, le_refl, arith}
use Rattle.std.proofs.lemmas.Bool.{cases_lt}
use Rattle.tree.specs.Tree.{Shape, size, shape, shape_of, Turn, low, high, turns}
use Rattle.tree.specs.Links.{sub, link_turns, kept}
use Rattle.tree.proofs.Shapes.{shape_low, shape_high, shape_is}
use Rattle.tree.proofs.Linking.{length_link}

either_length : (b : Bool) (xs ys : List Turn) (n : ℕ) → length xs ≤ n → length ys ≤ n → length (cond b xs ys) ≤ n
either_length true xs ys n p q = p
either_length false xs ys n p q = q

pub turns_short : (h n i : ℕ) → n ≤ 2 ^ h → length (turns (shape h n) i) ≤ h
turns_short zero n i l = omega arith
turns_short (suc h) n i l =
    ⊎_elim
    (λ g.
    let p = shape h (2 ^ h) in
    let q = shape h (n - 2 ^ h) in
    subst (λ (s : Shape). length (turns s i) ≤ suc h) (sym (shape_high h n g))
    (either_length (ltb i (size p)) (low ∷ turns p i) (high ∷ turns q (i - size p)) (suc h) (omega (arith, turns_short h (2 ^ h) i (le_refl (2 ^ h))))
    (omega (arith, turns_short h (n - 2 ^ h) (i - size p) (omega arith)))))
    (λ g. subst (λ (s : Shape). length (turns s i) ≤ suc h) (sym (shape_low h n g)) (omega (arith, turns_short h n i g)))
    (cases_lt (2 ^ h) n)

pub links_short : (h n m : ℕ) → n ≤ 2 ^ h → length (link_turns (shape h n) m) ≤ h
links_short zero n m l = omega arith
links_short (suc h) n m l =
    ⊎_elim
    (λ g.
    let p = shape h (2 ^ h) in
    let q = shape h (n - 2 ^ h) in
    subst (λ (s : Shape). length (link_turns s m) ≤ suc h) (sym (shape_high h n g))
    (either_length (eqb m (size p + size q)) [] (cond (leb m (size p)) (low ∷ link_turns p m) (high ∷ link_turns q (m - size p))) (suc h) (omega arith)
    (either_length (leb m (size p)) (low ∷ link_turns p m) (high ∷ link_turns q (m - size p)) (suc h) (omega (arith, links_short h (2 ^ h) m (le_refl (2 ^ h))))
    (omega (arith, links_short h (n - 2 ^ h) (m - size p) (omega arith))))))
    (λ g. subst (λ (s : Shape). length (link_turns s m) ≤ suc h) (sym (shape_low h n g)) (omega (arith, links_short h n m g)))
    (cases_lt (2 ^ h) n)

pub path_at_most : (n i : ℕ) → n ≤ 1048576 → length (turns (shape_of n) i) ≤ 20
path_at_most n i l = subst (λ (s : Shape). length (turns s i) ≤ 20) (shape_is 20 n l) (turns_short 20 n i l)

pub link_at_most : {D : Type 0} (part : ℕ → Shape → D) (m n : ℕ) → n ≤ 1048576 → length (sub part (shape_of n) 0 m true) ≤ 21
link_at_most part m n l =
    let short : length (link_turns (shape_of n) m) ≤ 20 = subst (λ (s : Shape). length (link_turns s m) ≤ 20) (shape_is 20 n l) (links_short 20 n m l) in
    go (kept (link_turns (shape_of n) m)) short (length_link part (shape_of n) 0 m)
  where
    go : (b : Bool) → length (link_turns (shape_of n) m) ≤ 20 → length (sub part (shape_of n) 0 m true) ≡ cond b 0 1 + length (link_turns (shape_of n) m) → length (sub part (shape_of n) 0 m true) ≤ 21
    go true s e = omega (arith, s, e)
    go false s e = omega (arith, s, e)
