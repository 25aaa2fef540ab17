-- Ranges of leaves beside a way down the tree: for contracts and invariants inside the crate. Assumes nothing.
use Rattle.std.specs.Prelude.{ℕ, ◌/◌, ◌<◌, ◌≤◌, cond, List, [], ◌∷◌, length, Some, None, Option, nat_le}
use Rattle.hash.specs.Hash.{Hashing, cut}
use Rattle.hash.specs.Collisions.{Bytes}
use Rattle.tree.specs.declared.spans.Span.{Span}
use Rattle.tree.specs.declared.ways.Way.{Way}
use Rattle.tree.specs.Ways.{in_way, way_spans}
use Rattle.roots.specs.Roots.{cells_needed, root_between}

-- ranges that have leaves, all of them among the first n
abbrev pub Within : ℕ → List Span → Type 0
Within n [] = Unit {0}
Within n (s ∷ ss) = (s.from < s.to) × (s.to ≤ n) × Within n ss

-- the root over a range
abbrev pub span_digest : Hashing → List Bytes → Span → Bytes
span_digest f leaves s = root_between f leaves s.from s.to

-- the ranges beside a way, the lowest first, where there is such a way and cells are enough
abbrev pub beside : Way → ℕ → Option (List Span)
beside w cells = cond (in_way w) (cond (nat_le cells_needed cells) (Some (way_spans w)) None) None

-- the digests of w bytes each in some bytes
abbrev pub digests_in : ℕ → Bytes → List Bytes
digests_in w xs = cut w (length xs / w) xs
