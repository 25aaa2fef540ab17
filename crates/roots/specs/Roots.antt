-- The root over a range of leaves. Assumes nothing.
use Rattle.std.specs.Prelude.{ℕ, ◌-◌, Bool, false, cond, List, length, drop, Some, None, Option, nat_le, nat_lt}
use Rattle.hash.specs.Hash.{Hashing}
use Rattle.hash.specs.Collisions.{Bytes}
use Rattle.tree.specs.Digests.{root_at}
use Rattle.tree.specs.Spans.{largest}

-- so many cells suffice for the largest tree
abbrev pub cells_needed : ℕ
cells_needed = 21

-- the root over leaves a to b - 1
abbrev pub root_between : Hashing → List Bytes → ℕ → ℕ → Bytes
root_between f leaves a b = root_at f (drop a leaves) (b - a)

-- some leaves, all of them among count, no more than a tree has, and cells enough
abbrev pub in_range : ℕ → ℕ → ℕ → ℕ → Bool
in_range a b count room = cond (nat_lt a b) (cond (nat_le b count) (cond (nat_le (b - a) largest) (nat_le cells_needed room) false) false) false

-- the root over leaves a to b - 1, where there are such and room cells were lent
abbrev pub range_root : Hashing → List Bytes → ℕ → ℕ → ℕ → Option Bytes
range_root f leaves a b room = cond (in_range a b (length leaves) room) (Some (root_between f leaves a b)) None
