-- A record as bytes: the payload's length and a kind, two bytes each, and the payload. Assumes nothing.
use Rattle.std.specs.Prelude.{ℕ, ◌+◌, ◌*◌, ◌<◌, cond, [], ◌∷◌, ◌++◌, length, take, drop, Some, None, Option, nat_le}
use Rattle.cipher.specs.Bytes.{little}
use Rattle.hash.specs.Collisions.{Bytes}

-- a record before its kind is looked at
pub record Frame : Type 0 where
  pub kind : ℕ
  pub payload : Bytes

-- the frame of a kind and a payload
abbrev pub frame_of : ℕ → Bytes → Frame
frame_of k p = record { kind = k; payload = p }

-- its bytes: the length of the payload, the kind, and the payload
abbrev pub framed : Frame → Bytes
framed r = little 2 (length r.payload) ++ (little 2 r.kind ++ r.payload)

-- the frame at the front of some bytes, and what stands behind it, if the frame is whole
abbrev pub unframed : Bytes → Option (Frame × Bytes)
unframed [] = None
unframed (a ∷ []) = None
unframed (a ∷ b ∷ []) = None
unframed (a ∷ b ∷ c ∷ []) = None
unframed (a ∷ b ∷ c ∷ d ∷ rest) =
    cond (nat_le (a + 256 * b) (length rest)) (Some (frame_of (c + 256 * d) (take (a + 256 * b) rest), drop (a + 256 * b) rest)) None

-- a list whose elements are bytes
abbrev pub AllBytes : Bytes → Type 0
AllBytes [] = Unit {0}
AllBytes (b ∷ bs) = (b < 256) × AllBytes bs
