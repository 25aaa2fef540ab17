-- The tree over any number of leaves, its paths, and the rebuilding of a root, for any digests and any way to join two of them.
-- Assumes nothing.
use Rattle.std.specs.Prelude.{ℕ, zero, suc, ◌+◌, ◌-◌, ◌^◌, true, false, cond, List, [], ◌∷◌, ◌++◌, reverse, length, drop, nat_le, nat_lt, slice_index_or}

-- how a tree splits: one leaf, or the first leaves and the rest
pub data Shape : Type 0 where
  tip : Shape
  fork : Shape → Shape → Shape

-- how many leaves it has
abbrev pub size : Shape → ℕ
size tip = 1
size (fork l r) = size l + size r

-- the splits of n leaves, where 1 ≤ n ≤ 2 ^ h: at the largest power of two below n
abbrev pub shape : ℕ → ℕ → Shape
shape zero n = tip
shape (suc h) n = elim (nat_le n (2 ^ h)) [ true ↦ shape h n | false ↦ fork (shape h (2 ^ h)) (shape h (n - 2 ^ h)) ]

abbrev pub shape_of : ℕ → Shape
shape_of n = shape n n

-- the root over the first leaves of xs, as many as the shape has
abbrev pub top : {D : Type 0} → (D → D → D) → D → Shape → List D → D
top node none tip xs = slice_index_or xs 0 none
top node none (fork l r) xs = node (top node none l xs) (top node none r (drop (size l) xs))

-- the root over the first n leaves, and over all of them
abbrev pub root_by : {D : Type 0} → (D → D → D) → D → List D → ℕ → D
root_by node none leaves n = top node none (shape_of n) leaves

abbrev pub whole_by : {D : Type 0} → (D → D → D) → D → List D → D
whole_by node none leaves = root_by node none leaves (length leaves)

-- the root over a part of the tree that starts at leaf a
abbrev pub part_by : {D : Type 0} → (D → D → D) → D → List D → ℕ → Shape → D
part_by node none leaves a s = top node none s (drop a leaves)

-- the path of leaf i, in a tree that starts at leaf a: the parts beside the way from the leaf up to the root
abbrev pub path : {D : Type 0} → (ℕ → Shape → D) → Shape → ℕ → ℕ → List D
path part tip a i = []
path part (fork l r) a i =
    cond (nat_lt i (size l)) (path part l a i ++ (part (a + size l) r ∷ [])) (path part r (a + size l) (i - size l) ++ (part a l ∷ []))

abbrev pub path_by : {D : Type 0} → (D → D → D) → D → List D → ℕ → ℕ → List D
path_by node none leaves i n = path (part_by node none leaves) (shape_of n) 0 i

-- a turn on the way from the root down: to the first leaves, or to the rest
pub data Turn : Type 0 where
  low high : Turn

-- the turns from the root down to leaf i
abbrev pub turns : Shape → ℕ → List Turn
turns tip i = []
turns (fork l r) i = cond (nat_lt i (size l)) (low ∷ turns l i) (high ∷ turns r (i - size l))

-- the root over the digest d, with the digests beside the way down to it, the topmost first
abbrev pub climb : {D : Type 0} → (D → D → D) → List Turn → D → List D → D
climb node [] d ps = d
climb node (t ∷ ts) d [] = d
climb node (low ∷ ts) d (p ∷ ps) = node (climb node ts d ps) p
climb node (high ∷ ts) d (p ∷ ps) = node p (climb node ts d ps)

-- the root that a path rebuilds over the digest d of leaf i
abbrev pub rebuilt_by : {D : Type 0} → (D → D → D) → ℕ → ℕ → D → List D → D
rebuilt_by node i n d ps = climb node (turns (shape_of n) i) d (reverse ps)
