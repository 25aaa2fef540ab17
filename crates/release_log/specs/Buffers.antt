-- What a call needs of the cells and buffers that it is lent, and what it leaves in an output. Assumes nothing.
use Rattle.std.specs.Prelude.{ℕ, length, Ok, Err, nat_le}
use Rattle.cipher.specs.Bytes.{written}
use Rattle.hash.specs.Collisions.{Bytes}
use Rattle.refusal.specs.Refusals.{Answer, must, ◌>>◌}
use Rattle.refusal.specs.declared.Refusal.TheVariants.{OutputShort, TooFewCells}

-- 21 stack cells for whatever works out or rebuilds roots, paths or links
abbrev pub enough : ℕ → Answer (Unit {0})
enough cells = must (nat_le 21 cells) TooFewCells

-- a record for an output of so many bytes
abbrev pub fitting : ℕ → Bytes → Answer Bytes
fitting out r = do
  must (nat_le (length r) out) OutputShort
  Ok r

-- how many bytes a call wrote
abbrev pub length_of : Answer Bytes → Answer ℕ
length_of (Ok r) = Ok (length r)
length_of (Err r) = Err r

-- an output afterwards: the record at its front and the rest as lent, or all as lent where the call was refused
abbrev pub output_after : Answer Bytes → Bytes → Bytes
output_after (Ok r) lent = written 0 r lent
output_after (Err r) lent = lent
