-- What the subtrees of a pass stand for, from the bottom of the stack on: for contracts and invariants inside the crate. Assumes nothing.
use Rattle.std.specs.Prelude.{◌≡◌, ℕ, ◌+◌, ◌*◌, ◌^◌, ◌<◌, ◌≤◌, List, [], ◌∷◌, length, take, drop}
use Rattle.hash.specs.Collisions.{Bytes}
use Rattle.tree.specs.Tree.{whole_by}
use Rattle.roots.specs.declared.range.Subtree.{Subtree}

module _ {D : Type 0} (node : Bytes → Bytes → Bytes) (bytes : D → Bytes) where
  -- a subtree of height h has the first 2 ^ h leaves, and at most as many come after it (s = 0), or fewer (s = 1)
  abbrev pub Rows : ℕ → List (Subtree D) → List Bytes → Type 0
  Rows s [] xs = length xs ≡ 0
  Rows s (c ∷ cs) xs =
      (2 ^ c.height ≤ length xs)
      × (whole_by node [] (take (2 ^ c.height) xs) ≡ bytes c.digest)
      × (length xs + s ≤ 2 * 2 ^ c.height)
      × Rows s cs (drop (2 ^ c.height) xs)

  -- the same while the stack is emptied: what the subtrees do not have, has the root acc
  abbrev pub Pending : List (Subtree D) → Bytes → List Bytes → Type 0
  Pending [] acc xs = (0 < length xs) × (whole_by node [] xs ≡ acc)
  Pending (c ∷ cs) acc xs =
      (2 ^ c.height < length xs)
      × (whole_by node [] (take (2 ^ c.height) xs) ≡ bytes c.digest)
      × (length xs ≤ 2 * 2 ^ c.height)
      × Pending cs acc (drop (2 ^ c.height) xs)
