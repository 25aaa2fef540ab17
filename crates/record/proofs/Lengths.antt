-- How many bytes a record takes. Assumes nothing.
use Rattle.std.proofs.Common.{◌≡◌, ℕ, ◌+◌, ◌*◌, ◌++◌, length, arith, length-append}
use Rattle.cipher.specs.Bytes.{little}
use Rattle.cipher.proofs.Littles.{length_little}
use Rattle.hash.specs.Collisions.{Bytes, Input}
use Rattle.record.specs.Records.{Head, leaf, head, entry, collision, frame_for, spelled, Parts}
use Rattle.record.proofs.Framing.{length_framed}

module _ (w : ℕ) where
  pub length_leaf : (d : Bytes) → Parts w (leaf d) → length (spelled (leaf d)) ≡ 4 + w
  length_leaf d h = omega (arith, length_framed (frame_for (leaf d)), h)

  pub length_head : (h : Head) → Parts w (head h) → length (spelled (head h)) ≡ 8 + w
  length_head h l = omega (arith, length_framed (frame_for (head h)), length-append (little 4 h.size) h.root, length_little 4 h.size, l)

  pub length_collision : (x y : Input) → Parts w (collision x y) → length (spelled (collision x y)) ≡ 4 + 2 * (w + 16)
  length_collision x y l =
      omega (arith, length_framed (frame_for (collision x y)), length-append x.0 (x.1 ++ (y.0 ++ y.1)), length-append x.1 (y.0 ++ y.1), length-append y.0 y.1, l.0, l.1, l.2, l.3)

pub length_entry : (e : Bytes) → length (spelled (entry e)) ≡ 4 + length e
length_entry e = length_framed (frame_for (entry e))
