-- Leaf records with digests of w bytes, one after the other. Assumes nothing.
use Rattle.std.specs.Prelude.{ℕ, ◌+◌, ◌*◌, ◌/◌, List, map, length, take, drop}
use Rattle.hash.specs.Hash.{cut}
use Rattle.hash.specs.Collisions.{Bytes}

module _ (w : ℕ) where
  -- a record is four bytes, for its length and kind, and a digest
  abbrev pub record_size : ℕ
  record_size = 4 + w

  -- where record i begins
  abbrev pub record_at : ℕ → ℕ
  record_at i = record_size * i

  -- how many records there is room for
  abbrev pub places_in : Bytes → ℕ
  places_in bs = length bs / record_size

  -- the first n records
  abbrev pub records_in : ℕ → Bytes → Bytes
  records_in n bs = take (record_at n) bs

  -- the digests in these records
  abbrev pub leaves_in : ℕ → Bytes → List Bytes
  leaves_in n bs = map (drop 4) (cut record_size n bs)
