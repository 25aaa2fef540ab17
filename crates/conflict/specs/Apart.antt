-- Where two ways from one root down part. Assumes nothing.
use Rattle.std.specs.Prelude.{List, Some, None, Option}
use Rattle.std.specs.Str.{bytes_eq}
use Rattle.hash.specs.Hash.{Hashing}
use Rattle.hash.specs.Collisions.{Bytes, Input, parting, inputs_apart}

-- of two messages, if there are two, the first pair of inputs, counted from the end, that differs
abbrev pub inputs_of_both : Hashing → Option (Bytes × Bytes) → Option (Input × Input)
inputs_of_both f None = None
inputs_of_both f (Some p) = inputs_apart f p.0 p.1

-- of the topmost messages that differ, the first pair of inputs, counted from the end, that differs
abbrev pub conflict_of : Hashing → List Bytes → List Bytes → Option (Input × Input)
conflict_of f ms ms' = inputs_of_both f (parting bytes_eq ms ms')
