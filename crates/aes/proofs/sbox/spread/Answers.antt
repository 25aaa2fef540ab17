use Rattle.std.proofs.Common.{rules}
use Rattle.aes.proofs.Lookups.{spread_is}
use Rattle.aes.proofs.sbox.spread.Goals as goal

pub returns : goal.returns
returns c = search (rules, spread_is)
