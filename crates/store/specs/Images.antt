-- What an image makes of the leaf records in its bytes. Assumes nothing.
use Rattle.std.specs.Prelude.{ℕ, cond, List, ◌++◌, nat_lt}
use Rattle.cipher.specs.Bytes.{written}
use Rattle.cipher.specs.declared.words.Words.{Ghosts}
use Rattle.hash.specs.Collisions.{Bytes}
use Rattle.record.specs.Records.{spelled, leaf}
use Rattle.store.specs.Stores.{space_of}
use Rattle.store.specs.LeafRecords.{record_at, places_in, records_in, leaves_in}
use Rattle.store.specs.declared.image.Image.{Image}
use Rattle.std.specs.declared.cmp.PartialEq.{Ghosts as Equality}
use Rattle.std.specs.declared.default.Default.{Ghosts as Beginning}

module _ {D : Type 0} {words : Ghosts D} {equality : Equality D} {beginning : Beginning D} (i : Image D words equality beginning) where
  -- its digests
  abbrev pub image_items : List Bytes
  image_items = leaves_in words.width i.count i.bytes.now

  -- how many more it takes
  abbrev pub image_space : ℕ
  image_space = space_of i.count (places_in words.width i.bytes.now)

  -- its records
  abbrev pub image_used : Bytes
  image_used = records_in words.width i.count i.bytes.now

  -- all its bytes after an append: the digest's record behind the others, or the same where there was no room
  abbrev pub bytes_after : Bytes → Bytes
  bytes_after d = cond (nat_lt 0 image_space) (written (record_at words.width i.count) (spelled (leaf d)) i.bytes.now) i.bytes.now

  -- its records after an append: with the digest's at the end, or the same where there was no room
  abbrev pub used_after : Bytes → Bytes
  used_after d = cond (nat_lt 0 image_space) (image_used ++ spelled (leaf d)) image_used
