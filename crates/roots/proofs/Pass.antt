-- The steps of a pass: a leaf is pushed, two subtrees of one height are joined, and at the end the subtrees are folded from the top.
-- Assumes nothing.
use Rattle.std.proofs.Common.{◌≡◌, ℕ, ◌+◌, ◌*◌, ◌^◌, ◌<◌, ◌≤◌, List, [], ◌∷◌, ◌++◌, length, take, drop, sym, ap, ◌∙◌, subst, ⊎_elim, add-one, arith, length-drop, take_all, pow_pos}
use lib.Pow.{pow-lt}
use lib.Seq.{take-append-le, drop-append-le}
use Rattle.std.proofs.lemmas.List.{length_push}
use Rattle.std.proofs.lemmas.Bool.{cases_lt}
use Rattle.hash.specs.Collisions.{Bytes}
use Rattle.tree.specs.Spans.{largest}
use Rattle.tree.specs.Tree.{whole_by}
use Rattle.tree.proofs.Split.{root_split, twice_pow, half_pow}
use Rattle.roots.specs.declared.range.Subtree.{Subtree}
use Rattle.roots.specs.Rows.{Rows, Pending}

pub low_exponent : (h k : ℕ) → 2 ^ h ≤ 2 ^ k → h ≤ k
low_exponent h k p =
    ⊎_elim (λ (l : k < h). let q : 2 ^ k < 2 ^ h = pow-lt l in omega arith) (λ (l : h ≤ k). l) (cases_lt k h)

module _ {D : Type 0} (node : Bytes → Bytes → Bytes) (bytes : D → Bytes) where
  abbrev R : ℕ → List (Subtree D) → List Bytes → Type 0
  R = Rows node bytes

  abbrev P : List (Subtree D) → Bytes → List Bytes → Type 0
  P = Pending node bytes

  abbrev root : List Bytes → Bytes
  root = whole_by node []

  abbrev height : Subtree D → ℕ
  height c = c.height

  abbrev digest : Subtree D → Bytes
  digest c = bytes c.digest

  empty : (xs : List Bytes) → length xs ≡ 0 → xs ≡ []
  empty xs h = sym (take_all 0 xs (omega arith))

  alone : (x : Bytes) (c : Subtree D) (k : ℕ) → k ≡ 1 → digest c ≡ x → (k ≤ 1) × (root (take k (x ∷ [])) ≡ digest c) × (1 + 0 ≤ 2 * k) × (length (drop k (x ∷ [])) ≡ 0)
  alone x c k e d = (omega arith, ap (λ (j : ℕ). root (take j (x ∷ []))) e ∙ sym d, omega arith, ap (λ (j : ℕ). length (drop j (x ∷ []))) e)

  -- a leaf is pushed
  pub push_row : (cs : List (Subtree D)) (xs : List Bytes) (x : Bytes) (c : Subtree D) → height c ≡ 0 → digest c ≡ x → R 1 cs xs → R 0 (cs ++ c ∷ []) (xs ++ x ∷ [])
  push_row [] xs x c e d r =
      subst (λ (ys : List Bytes). R 0 (c ∷ []) (ys ++ x ∷ [])) (sym (empty xs r)) (alone x c (2 ^ height c) (ap (λ (j : ℕ). 2 ^ j) e) d)
  push_row (b ∷ cs) xs x c e d r =
      let n = 2 ^ height b in
      let l = length_push xs x in (
        omega arith,
        ap root (take-append-le n xs (x ∷ []) r.0) ∙ r.1,
        omega arith,
        subst (λ (ys : List Bytes). R 0 (cs ++ c ∷ []) ys) (sym (drop-append-le n xs (x ∷ []) r.0)) (push_row cs (drop n xs) x c e d r.3),
      )

  -- two subtrees of one height at the top are joined
  pub merge_row : (cs : List (Subtree D)) (a b c : Subtree D) (xs : List Bytes) → height a ≡ height b → height c ≡ height a + 1 → digest c ≡ node (digest a) (digest b)
      → R 0 (cs ++ a ∷ b ∷ []) xs → R 0 (cs ++ c ∷ []) xs
  merge_row [] a b c xs e f d r =
      let n = 2 ^ height a in
      let m = 2 ^ height b in
      let same : n ≡ m = ap (λ (h : ℕ). 2 ^ h) e in
      let p = pow_pos (height a) in
      let up : 2 ^ height c ≡ 2 * n = ap (λ (h : ℕ). 2 ^ h) (f ∙ add-one (height a)) ∙ twice_pow (height a) in
      let l = length-drop n xs in
      let k = length-drop m (drop n xs) in
      let z = r.3.3 in
      let q = r.3.0 in
      let all : length xs ≡ 2 * n = omega arith in
      let w = length-drop (2 ^ height c) xs in (
        omega arith,
        ap root (take_all (2 ^ height c) xs (omega arith))
            ∙ root_split node [] xs (height a) (omega arith) (omega arith)
            ∙ ap (λ (x : Bytes). node x (root (drop n xs))) r.1
            ∙ ap (λ (x : Bytes). node (digest a) x) (ap root (sym (take_all m (drop n xs) (omega arith))) ∙ r.3.1)
            ∙ sym d,
        omega arith,
        omega arith,
      )
  merge_row (t ∷ cs) a b c xs e f d r = (r.0, r.1, r.2, merge_row cs a b c (drop (2 ^ height t) xs) e f d r.3)

  some : (s : ℕ) (cs : List (Subtree D)) (a : Subtree D) (xs : List Bytes) → R s (cs ++ a ∷ []) xs → 0 < length xs
  some s [] a xs r = let p = pow_pos (height a) in let q = r.0 in omega arith
  some s (c ∷ cs) a xs r = let p = pow_pos (height c) in let q = r.0 in omega arith

  some_two : (s : ℕ) (cs : List (Subtree D)) (a b : Subtree D) (xs : List Bytes) → R s (cs ++ a ∷ b ∷ []) xs → 0 < length xs
  some_two s [] a b xs r = let p = pow_pos (height a) in let q = r.0 in omega arith
  some_two s (c ∷ cs) a b xs r = let p = pow_pos (height c) in let q = r.0 in omega arith

  -- where no two at the top have one height, fewer leaves come after each subtree than it has
  pub strict_one : (a : Subtree D) (xs : List Bytes) → R 0 (a ∷ []) xs → R 1 (a ∷ []) xs
  strict_one a xs r =
      let p = pow_pos (height a) in
      let l = length-drop (2 ^ height a) xs in
      let z = r.3 in
      (r.0, r.1, omega arith, r.3)

  two : (cs : List (Subtree D)) (a b : Subtree D) (xs : List Bytes) → R 1 (cs ++ a ∷ b ∷ []) xs
      → (h : ℕ) × (2 ^ h < length xs) × (length xs + 1 ≤ 2 * 2 ^ h)
  two [] a b xs r =
      let p = pow_pos (height b) in
      let l = length-drop (2 ^ height a) xs in
      let q = r.3.0 in
      (height a, omega arith, r.2)
  two (c ∷ cs) a b xs r =
      let l = length-drop (2 ^ height c) xs in
      let q = some_two 1 cs a b (drop (2 ^ height c) xs) r.3 in
      (height c, omega arith, r.2)

  pub strict_row : (cs : List (Subtree D)) (a b : Subtree D) (xs : List Bytes) → (height a ≡ height b → ⊥) → R 0 (cs ++ a ∷ b ∷ []) xs
      → R 1 (cs ++ a ∷ b ∷ []) xs
  strict_row [] a b xs ne r =
      let n = 2 ^ height a in
      let m = 2 ^ height b in
      let p = pow_pos (height b) in
      let l = length-drop n xs in
      let k = length-drop m (drop n xs) in
      let z = r.3.3 in
      let q = r.3.0 in
      let less : m < n = ⊎_elim
      (λ (h : height b < height a). pow-lt h)
      (λ (h : height a ≤ height b).
      let up : height a < height b = omega arith in
      let o : n < m = pow-lt up in
      omega arith)
      (cases_lt (height b) (height a)) in
      (r.0, r.1, omega arith, (r.3.0, r.3.1, omega arith, r.3.3))
  strict_row (c ∷ cs) a b xs ne r =
      let n = 2 ^ height c in
      let i = strict_row cs a b (drop n xs) ne r.3 in
      let t = two cs a b (drop n xs) i in
      let l = length-drop n xs in
      let h : 2 * 2 ^ t.0 ≤ n = half_pow t.0 (height c) (omega arith) in
      (r.0, r.1, omega arith, i)

  -- so there are few of them
  pub count_rows : (cs : List (Subtree D)) (xs : List Bytes) → R 1 cs xs → 2 ^ length cs ≤ length xs + 1
  count_rows [] xs r = omega arith
  count_rows (c ∷ cs) xs r =
      let i = count_rows cs (drop (2 ^ height c) xs) r.3 in
      let l = length-drop (2 ^ height c) xs in
      let q = twice_pow (length cs) in
      omega arith

  pub few : (cs : List (Subtree D)) (xs : List Bytes) → length xs < largest → R 1 cs xs → length cs ≤ 20
  few cs xs l r =
      let i = count_rows cs xs r in
      let j : 2 ^ length cs ≤ 2 ^ 20 = omega arith in
      low_exponent (length cs) 20 j

  pub low_height : (s : ℕ) (cs ds : List (Subtree D)) (a : Subtree D) (xs : List Bytes) → R s (cs ++ a ∷ ds) xs → 2 ^ height a ≤ length xs
  low_height s [] ds a xs r = r.0
  low_height s (c ∷ cs) ds a xs r =
      let i = low_height s cs ds a (drop (2 ^ height c) xs) r.3 in
      let l = length-drop (2 ^ height c) xs in
      omega arith

  -- at the end they are folded from the top
  pub fold_start : (cs : List (Subtree D)) (a : Subtree D) (xs : List Bytes) → R 1 (cs ++ a ∷ []) xs → P cs (digest a) xs
  fold_start [] a xs r =
      let n = 2 ^ height a in
      let p = pow_pos (height a) in
      let l = length-drop n xs in
      let z = r.3 in
      (omega arith, ap root (sym (take_all n xs (omega arith))) ∙ r.1)
  fold_start (c ∷ cs) a xs r =
      let n = 2 ^ height c in
      let l = length-drop n xs in
      let q = some 1 cs a (drop n xs) r.3 in
      (omega arith, r.1, omega arith, fold_start cs a (drop n xs) r.3)

  pub fold_more : (cs : List (Subtree D)) (c : Subtree D) (acc : Bytes) (xs : List Bytes) → P (cs ++ c ∷ []) acc xs → P cs (node (digest c) acc) xs
  fold_more [] c acc xs r = (
    omega arith,
    root_split node [] xs (height c) r.0 r.2
        ∙ ap (λ (x : Bytes). node x (root (drop (2 ^ height c) xs))) r.1
        ∙ ap (λ (x : Bytes). node (digest c) x) r.3.1,
  )
  fold_more (b ∷ cs) c acc xs r = (r.0, r.1, r.2, fold_more cs c acc (drop (2 ^ height b) xs) r.3)
