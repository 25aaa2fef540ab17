-- The inputs of the compression in the hash of a message, by their places: for contracts and invariants inside the crate. Assumes nothing.
use Rattle.std.specs.Prelude.{List, Some, None, Option}
use Rattle.hash.specs.Hash.{Hashing, blocks}
use Rattle.hash.specs.Collisions.{Bytes, Input, inputs}

-- the inputs of the compression, from the first block on
abbrev pub inputs_of : Hashing → Bytes → List Input
inputs_of f m = inputs f f.start (blocks m)

-- two inputs, if both are there
abbrev pub both : Option Input → Option Input → Option (Input × Input)
both None y = None
both (Some x) None = None
both (Some x) (Some y) = Some (x, y)
