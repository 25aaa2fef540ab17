-- The payload of a path or a link: two numbers of four bytes, then the digests. Assumes nothing.
use Rattle.std.specs.Prelude.{ℕ, ◌+◌, ◌*◌, Bool, false, cond, List, ◌++◌, length, Some, None, Option, nat_le}
use Rattle.std.specs.List.{flat_map}
use Rattle.cipher.specs.Bytes.{little}
use Rattle.hash.specs.Hash.{Hashing}
use Rattle.hash.specs.Collisions.{Bytes}
use Rattle.tree.specs.Digests.{path_of, link_of}
use Rattle.tree.specs.declared.ways.Way.{Way}
use Rattle.tree.specs.declared.ways.Way.TheVariants.{ToLeaf, ToEnd}
use Rattle.tree.specs.Ways.{in_way, way_leaves, way_spans}
use Rattle.roots.specs.Roots.{cells_needed}

-- two numbers and digests
abbrev pub payload : ℕ → ℕ → List Bytes → Bytes
payload x n ds = little 4 x ++ (little 4 n ++ flat_map (λ d. d) ds)

-- the index and the size, or the two sizes
abbrev pub way_numbers : Way → ℕ × ℕ
way_numbers (ToLeaf i n) = (i, n)
way_numbers (ToEnd m n) = (m, n)

-- the path of leaf i among the first n, or the link from the first m leaves to the first n
abbrev pub way_digests : Hashing → List Bytes → Way → List Bytes
way_digests f leaves (ToLeaf i n) = path_of f leaves i n
way_digests f leaves (ToEnd m n) = link_of f leaves m n

-- the payload of its path or link: these numbers and digests
abbrev pub way_payload : Hashing → List Bytes → Way → Bytes
way_payload f leaves way = payload (way_numbers way).0 (way_numbers way).1 (way_digests f leaves way)

-- how many bytes it has, at digests of w bytes
abbrev pub way_size : ℕ → Way → ℕ
way_size w way = 8 + w * length (way_spans way)

-- numbers in order, n leaves among count, cells for ranges and for subtrees, and room for size bytes
abbrev pub fits : Bool → ℕ → ℕ → ℕ → ℕ → ℕ → ℕ → Bool
fits order n count spans cells size room =
    cond order (cond (nat_le n count) (cond (nat_le cells_needed spans) (cond (nat_le cells_needed cells) (nat_le size room) false) false) false) false

-- whether it can be written, at digests of w bytes
abbrev pub way_fits : ℕ → Way → ℕ → ℕ → ℕ → ℕ → Bool
way_fits w way count spans cells room = fits (in_way way) (way_leaves way) count spans cells (way_size w way) room

-- that so many bytes were written, or nothing
abbrev pub wrote : Bool → ℕ → Option ℕ
wrote b n = cond b (Some n) None
