use Rattle.std.proofs.Common.{rules}
use Rattle.aes.proofs.Lookups.{sub_is, inverts}
use Rattle.aes.proofs.sbox.sub.Goals as goal

pub returns : goal.returns
returns c = search (rules, sub_is, inverts)
