-- Links between two sizes of one tree, and the two roots that a link rebuilds. Assumes nothing.
use Rattle.std.specs.Prelude.{ℕ, ◌+◌, ◌-◌, Bool, true, false, cond, List, [], ◌∷◌, ◌++◌, reverse, ◌==◌, nat_le, slice_index_or}
use Rattle.tree.specs.Tree.{Shape, tip, fork, size, shape_of, part_by, Turn, low, high, climb}

-- the link of the first m leaves, in a tree that starts at leaf a; the mark says whether the old root is known
abbrev pub sub : {D : Type 0} → (ℕ → Shape → D) → Shape → ℕ → ℕ → Bool → List D
sub part tip a m mark = cond mark [] (part a tip ∷ [])
sub part (fork l r) a m mark =
    cond (m == size l + size r) (cond mark [] (part a (fork l r) ∷ []))
    (cond (nat_le m (size l)) (sub part l a m mark ++ (part (a + size l) r ∷ [])) (sub part r (a + size l) (m - size l) false ++ (part a l ∷ [])))

abbrev pub link_by : {D : Type 0} → (D → D → D) → D → List D → ℕ → ℕ → List D
link_by node none leaves m n = sub (part_by node none leaves) (shape_of n) 0 m true

-- the turns from the root down to the part at which the link ends
abbrev pub link_turns : Shape → ℕ → List Turn
link_turns tip m = []
link_turns (fork l r) m =
    cond (m == size l + size r) [] (cond (nat_le m (size l)) (low ∷ link_turns l m) (high ∷ link_turns r (m - size l)))

-- whether that part begins the tree, so that it is the old one
abbrev pub kept : List Turn → Bool
kept [] = true
kept (low ∷ ts) = kept ts
kept (high ∷ ts) = false

-- the old root: only digests at the left enter it
abbrev pub climb_old : {D : Type 0} → (D → D → D) → List Turn → D → List D → D
climb_old node [] d ps = d
climb_old node (t ∷ ts) d [] = d
climb_old node (low ∷ ts) d (p ∷ ps) = climb_old node ts d ps
climb_old node (high ∷ ts) d (p ∷ ps) = node p (climb_old node ts d ps)

-- what rebuilding starts from, the claimed old root or the first digest, and the digests above it
abbrev pub base : {D : Type 0} → Bool → D → List D → D
base true old ps = old
base false old ps = slice_index_or ps 0 old

abbrev pub above : {D : Type 0} → Bool → List D → List D
above true ps = ps
above false [] = []
above false (p ∷ ps) = ps

-- the new and the old root that a link rebuilds
abbrev pub new_by : {D : Type 0} → (D → D → D) → ℕ → ℕ → D → List D → D
new_by node m n old ps =
    let ts = link_turns (shape_of n) m in climb node ts (base (kept ts) old ps) (reverse (above (kept ts) ps))

abbrev pub old_by : {D : Type 0} → (D → D → D) → ℕ → ℕ → D → List D → D
old_by node m n old ps =
    let ts = link_turns (shape_of n) m in climb_old node ts (base (kept ts) old ps) (reverse (above (kept ts) ps))
