-- Where there is a path or a link. Assumes nothing.
use Rattle.std.proofs.Common.{◌≡◌, ℕ, ◌<◌, ◌≤◌, Bool, true, false, cond, ltb, leb, refl, ap, ◌∙◌, arith}
use Rattle.std.proofs.lemmas.Bool.{lt-ltb, le-leb, lt-leb, ltb-true, leb-true}
use Rattle.tree.specs.Spans.{in_tree, in_link}

pub never : (b : Bool) → false ≡ cond b false false
never true = refl
never false = refl

pub in_tree_holds : (i n : ℕ) → i < n → n ≤ 1048576 → in_tree i n ≡ true
in_tree_holds i n a b = ap (λ (t : Bool). cond t (leb n 1048576) false) (lt-ltb i n a) ∙ le-leb n 1048576 b

pub in_link_holds : (m n : ℕ) → 0 < m → m ≤ n → n ≤ 1048576 → in_link m n ≡ true
in_link_holds m n z a b =
    ap (λ (t : Bool). cond t (cond (leb m n) (leb n 1048576) false) false) (lt-ltb 0 m z)
    ∙ ap (λ (t : Bool). cond t (leb n 1048576) false) (le-leb m n a)
    ∙ le-leb n 1048576 b

different : false ≡ true → ⊥
different e = let z : ◌≡◌ {A = ℕ} 0 1 = ap (λ (b : Bool). cond b 1 0) e in omega arith

pub in_tree_order : (i n : ℕ) → in_tree i n ≡ true → (ltb i n ≡ true) × (n ≤ 1048576)
in_tree_order i n e = go (ltb i n) e
  where
    go : (b : Bool) → cond b (leb n 1048576) false ≡ true → (b ≡ true) × (n ≤ 1048576)
    go true g = (refl, leb-true n 1048576 g)
    go false g = absurd (different g)

pub in_link_order : (m n : ℕ) → in_link m n ≡ true → (leb m 0 ≡ false) × (leb m n ≡ true) × (n ≤ 1048576)
in_link_order m n e = go (ltb 0 m) (leb m n) refl e
  where
    go : (a b : Bool) → ltb 0 m ≡ a → cond a (cond b (leb n 1048576) false) false ≡ true → (leb m 0 ≡ false) × (b ≡ true) × (n ≤ 1048576)
    go true true f h = (lt-leb m 0 (ltb-true 0 m f), refl, leb-true n 1048576 h)
    go true false f h = absurd (different h)
    go false b f h = absurd (different h)
