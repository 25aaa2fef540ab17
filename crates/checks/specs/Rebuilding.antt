-- Whether what was rebuilt, if anything was, are the roots wanted. Assumes nothing.
use Rattle.std.specs.Prelude.{Bool, false, ◌&&◌, Some, None, Option}
use Rattle.std.specs.Str.{bytes_eq}
use Rattle.hash.specs.Collisions.{Bytes}

-- a path rebuilt this root
abbrev pub root_is : Option Bytes → Bytes → Bool
root_is None root = false
root_is (Some r) root = bytes_eq r root

-- a link rebuilt this old root and this new one
abbrev pub roots_are : Option (Bytes × Bytes) → Bytes → Bytes → Bool
roots_are None old new = false
roots_are (Some r) old new = bytes_eq r.0 old && bytes_eq r.1 new
