use Rattle.std.proofs.Common.{rules}
use Rattle.std.proofs.lemmas.Slice.{overwrites}
use Rattle.cipher.specs.Bytes.{little}
use Rattle.aes.proofs.words.store_word.Goals as goal

pub returns : goal.returns
unfolding little
returns c = search (rules, overwrites)
