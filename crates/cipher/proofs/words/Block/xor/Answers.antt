use Rattle.std.proofs.Common.{sym, ◌∙◌}
use Rattle.cipher.specs.Bytes.{little}
use Rattle.cipher.proofs.Littles.{xors_append, xors_little, length_little}
use Rattle.cipher.proofs.words.Block.xor.Goals as goal

pub returns : goal.returns
returns c =
    let a = c.args.self in
    let b = c.args.other in
    sym (xors_append (little 8 a.lo) (little 8 a.hi) (little 8 b.lo) (little 8 b.hi) (length_little 8 a.lo ∙ sym (length_little 8 b.lo))
    ∙ rw (xors_little 8 a.lo b.lo, xors_little 8 a.hi b.hi))
