-- The way up, from the lowest digest on, by the sides at which it goes by the ranges beside it: for contracts and invariants inside the crate.
-- Assumes nothing.
use Rattle.std.specs.Prelude.{List, [], ◌∷◌, Option}
use Rattle.hash.specs.Hash.{Hashing}
use Rattle.hash.specs.Collisions.{Bytes}
use Rattle.tree.specs.declared.ways.Side.{Side}
use Rattle.tree.specs.declared.ways.Side.TheVariants.{Low, High, Through}
use Rattle.tree.specs.Digests.{node_message, node_digest}
use Rattle.paths.specs.Parts.{first_apart}

-- step by step over sides and what stands there, as far as both go
abbrev pub climbed : {S P : Type 0} → (Side → S → P → S) → S → List Side → List P → S
climbed step d [] ps = d
climbed step d (s ∷ ss) [] = d
climbed step d (s ∷ ss) (p ∷ ps) = climbed step (step s d p) ss ps

-- one digest further up: the digest itself of a range through which the way goes
abbrev pub joined : Hashing → Side → Bytes → Bytes → Bytes
joined f Low d p = node_digest f d p
joined f High d p = node_digest f p d
joined f Through d p = p

-- the same for the old root, into which only what stands at the low side enters
abbrev pub joined_old : Hashing → Side → Bytes → Bytes → Bytes
joined_old f Low d p = d
joined_old f High d p = node_digest f p d
joined_old f Through d p = p

-- where two ways part after one digest more
abbrev pub parted : Side → Bytes → Bytes → Bytes → Bytes → Option (Bytes × Bytes) → Option (Bytes × Bytes)
parted Low d p d' p' o = first_apart (node_message d p) (node_message d' p') o
parted High d p d' p' o = first_apart (node_message p d) (node_message p' d') o
parted Through d p d' p' o = o

-- two ways at once
abbrev pub both_joined : Hashing → Side → Bytes × Bytes × Option (Bytes × Bytes) → Bytes × Bytes → Bytes × Bytes × Option (Bytes × Bytes)
both_joined f s t p = (joined f s t.0 p.0, joined f s t.1 p.1, parted s t.0 p.0 t.1 p.1 t.2)
