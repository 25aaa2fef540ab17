-- What is promised of records: each reads back as itself, and has one spelling. Assumes nothing.
use Rattle.std.specs.Prelude.{◌≡◌, ℕ, ◌+◌, ◌++◌, length, drop, Some, Ok}
use Rattle.hash.specs.Collisions.{Bytes}
use Rattle.record.specs.Frames.{AllBytes}
use Rattle.record.specs.Records.{Record, spelled, read_at, read_one, WellFormed}

-- the laws of records with digests of w bytes
pub record RecordLaws (w : ℕ) : Type 0 where
  -- a record among other bytes reads back as itself, and the place moves past it
  pub back : (i : ℕ) (pre : Bytes) (r : Record) (post : Bytes) → WellFormed w r → read_at w i (pre ++ (spelled r ++ post)) (length pre) ≡ Ok (r, length pre + length (spelled r))
  -- a single record, of whatever kind, reads back as itself
  pub single : (i : ℕ) (r : Record) → WellFormed w r → read_one w i Some (spelled r) ≡ Ok r
  -- what is read is well formed, and its bytes are the one spelling of it
  pub one_spelling : (i : ℕ) (bs : Bytes) (r : Record) → read_one w i Some bs ≡ Ok r → WellFormed w r × (AllBytes bs → bs ≡ spelled r)
  -- the same at any place of a file
  pub place : (i : ℕ) (bs : Bytes) (p : ℕ) (r : Record) (q : ℕ) → read_at w i bs p ≡ Ok (r, q) → WellFormed w r × (AllBytes (drop p bs) → drop p bs ≡ spelled r ++ drop q bs)
