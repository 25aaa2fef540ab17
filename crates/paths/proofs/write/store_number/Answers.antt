use Rattle.std.proofs.Common.{rules}
use Rattle.std.proofs.lemmas.Slice.{overwrites}
use Rattle.cipher.specs.Bytes.{little}
use Rattle.paths.proofs.write.store_number.Goals as goal

pub returns : goal.returns
unfolding little
returns c = search (rules, overwrites)
