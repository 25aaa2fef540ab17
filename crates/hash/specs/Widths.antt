-- That every digest of a hash has the hash's width. Assumes nothing.
use Rattle.std.specs.Prelude.{◌≡◌, ℕ, ◌≤◌, length}
use Rattle.hash.specs.Hash.{Hashing}
use Rattle.hash.specs.Collisions.{Bytes}

-- a chaining value of w bytes and a block give w bytes
abbrev pub Outputs : ℕ → (Bytes → Bytes → Bytes) → Type 0
Outputs w f = (h m : Bytes) → length h ≡ w → length m ≡ 16 → length (f h m) ≡ w

-- a hash whose start value and outputs have its width, which is at least 1 byte and at most 32
pub record Sized (f : Hashing) : Type 0 where
  pub least : 1 ≤ f.width
  pub most : f.width ≤ 32
  pub starts : length f.start ≡ f.width
  pub outputs : Outputs f.width f.out
