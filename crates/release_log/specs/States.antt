-- What a log of the code is, by what its store means. Assumes nothing.
use Rattle.std.specs.Prelude.{ℕ, List, is_some}
use Rattle.std.specs.Option.{unwrap_or}
use Rattle.hash.specs.Collisions.{Bytes}
use Rattle.release_log.specs.declared.Log.{Log}
use Rattle.release_log.specs.Logs.{LogState}

-- the digests and the room are its store's; a log that is not opened has used no bytes of the entry file
abbrev pub state_of : {S C : Type 0} → (S → List Bytes) → (S → ℕ) → Log S C → LogState
state_of items space l = record { opened = is_some l.used; leaves = items l.store; room = space l.store; used = unwrap_or l.used 0 }
