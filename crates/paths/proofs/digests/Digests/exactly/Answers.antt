use Rattle.std.proofs.Common.{rules}
use Rattle.paths.proofs.Ranged.{all_digests}
use Rattle.paths.proofs.digests.Digests.exactly.Goals as goal

pub returns : goal.returns
returns g c =
    let p = g.met.D.Words.least in
    search (rules, all_digests)
