-- Paths and links as ranges of leaves, and how many digests they have. Assumes nothing.
use Rattle.std.specs.Prelude.{◌≡◌, ℕ, ◌+◌, ◌-◌, ◌*◌, ◌^◌, ◌<◌, ◌≤◌, Bool, true, false, cond, List, length, Some, None, Option, nat_le, nat_lt}
use Rattle.tree.specs.declared.spans.Span.{Span}
use Rattle.tree.specs.Tree.{Shape, size, shape_of, path}
use Rattle.tree.specs.Links.{sub}

-- the most leaves of a tree
abbrev pub largest : ℕ
largest = 1048576

-- leaves a to b - 1
abbrev pub between : ℕ → ℕ → Span
between a b = record { from = a; to = b }

abbrev pub span_of : ℕ → Shape → Span
span_of a s = between a (a + size s)

-- the first 2 ^ j leaves of s, and the others, where these are not more
abbrev pub Halves : Span → Span → Span → Type 0
Halves s l r = (j : ℕ) × (s.from + 2 ^ j < s.to) × (s.to - s.from ≤ 2 * 2 ^ j) × (l ≡ between s.from (s.from + 2 ^ j)) × (r ≡ between (s.from + 2 ^ j) s.to)

-- the path of leaf i among n, and the link from m to n
abbrev pub path_spans : ℕ → ℕ → List Span
path_spans i n = path span_of (shape_of n) 0 i

abbrev pub link_spans : ℕ → ℕ → List Span
link_spans m n = sub span_of (shape_of n) 0 m true

-- an index below a size, and sizes in order, of which no tree has more
abbrev pub in_tree : ℕ → ℕ → Bool
in_tree i n = cond (nat_lt i n) (nat_le n largest) false

abbrev pub in_link : ℕ → ℕ → Bool
in_link m n = cond (nat_lt 0 m) (cond (nat_le m n) (nat_le n largest) false) false

-- how many digests the path of leaf i among n and the link from m to n have, where there are such
abbrev pub path_count : ℕ → ℕ → Option ℕ
path_count i n = cond (in_tree i n) (Some (length (path_spans i n))) None

abbrev pub link_count : ℕ → ℕ → Option ℕ
link_count m n = cond (in_link m n) (Some (length (link_spans m n))) None
