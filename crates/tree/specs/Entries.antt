-- Entries: how long one may be, and the digest of its leaf. Assumes nothing.
use Rattle.std.specs.Prelude.{ℕ, length, Ok, nat_le}
use Rattle.hash.specs.Hash.{Hashing}
use Rattle.hash.specs.Collisions.{Bytes}
use Rattle.refusal.specs.Refusals.{Answer, must, ◌>>◌}
use Rattle.refusal.specs.declared.Refusal.TheVariants.{TooLong}
use Rattle.tree.specs.Digests.{leaf_digest}

-- the most bytes of an entry
abbrev pub longest_entry : ℕ
longest_entry = 4096

-- the digest of the leaf over an entry, which is input i of a call
abbrev pub leaf_answer : Hashing → ℕ → Bytes → Answer Bytes
leaf_answer f i entry = do
  must (nat_le (length entry) longest_entry) (TooLong i)
  Ok (leaf_digest f entry)
