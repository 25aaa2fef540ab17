-- The tree of a hash: leaf and node digests, roots, paths and links, and what rebuilding gives. Assumes nothing.
use Rattle.std.specs.Prelude.{◌≡◌, ℕ, List, [], ◌∷◌, ◌++◌, length}
use Rattle.hash.specs.Hash.{Hashing, hash_of}
use Rattle.hash.specs.Collisions.{Bytes}
use Rattle.tree.specs.Tree.{root_by, path_by, rebuilt_by}
use Rattle.tree.specs.Links.{link_by, new_by, old_by}

-- digests of w bytes each
abbrev pub Digests : ℕ → List Bytes → Type 0
Digests w [] = Unit {0}
Digests w (p ∷ ps) = (length p ≡ w) × Digests w ps

-- what is hashed for a leaf, and for a node over two digests
abbrev pub leaf_message : Bytes → Bytes
leaf_message entry = 0 ∷ entry

abbrev pub node_message : Bytes → Bytes → Bytes
node_message l r = 1 ∷ (l ++ r)

-- the digest of a leaf, and of a node
abbrev pub leaf_digest : Hashing → Bytes → Bytes
leaf_digest f entry = hash_of f (leaf_message entry)

abbrev pub node_digest : Hashing → Bytes → Bytes → Bytes
node_digest f l r = hash_of f (node_message l r)

-- the root over the first n leaf digests
abbrev pub root_at : Hashing → List Bytes → ℕ → Bytes
root_at f = root_by (node_digest f) []

-- the path of leaf i among the first n
abbrev pub path_of : Hashing → List Bytes → ℕ → ℕ → List Bytes
path_of f = path_by (node_digest f) []

-- the link from the first m leaves to the first n
abbrev pub link_of : Hashing → List Bytes → ℕ → ℕ → List Bytes
link_of f = link_by (node_digest f) []

-- the root that the path of leaf i among n rebuilds over its digest
abbrev pub rebuilt : Hashing → ℕ → ℕ → Bytes → List Bytes → Bytes
rebuilt f = rebuilt_by (node_digest f)

-- the new and the old root that the link from m to n rebuilds from the claimed old root
abbrev pub rebuilt_new : Hashing → ℕ → ℕ → Bytes → List Bytes → Bytes
rebuilt_new f = new_by (node_digest f)

abbrev pub rebuilt_old : Hashing → ℕ → ℕ → Bytes → List Bytes → Bytes
rebuilt_old f = old_by (node_digest f)
