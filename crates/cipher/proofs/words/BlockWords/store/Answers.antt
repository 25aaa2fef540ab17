use Rattle.std.proofs.Common.{refl, ap, ◌∙◌}
use Rattle.cipher.specs.Bytes.{stored}
use Rattle.cipher.proofs.Littles.{little_eight}
use Rattle.cipher.proofs.words.BlockWords.store.Goals as goal

pub returns : goal.returns
returns c =
    c.put.ensures ∙ ap (λ l. stored c.args.at l c.args.into.now)
    (rw (c.copy_from_slice-2.ensures.after, c.to_le_bytes-2.ensures, c.copy_from_slice.ensures.after, c.to_le_bytes.ensures, little_eight c.args.self.lo, little_eight c.args.self.hi) refl)
