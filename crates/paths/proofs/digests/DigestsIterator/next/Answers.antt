use Rattle.std.proofs.Common.{rules}
use Rattle.paths.proofs.Ranged.{digest_read, none_read}
use Rattle.paths.proofs.digests.DigestsIterator.next.Goals as goal

pub returns-in_err-digest-clause-steps : goal.returns-in_err-digest-clause-steps
returns-in_err-digest-clause-steps g c =
    let e = none_read g.D.Words.bytes g.D.Words.width c.args.self.now.bytes.now c.in_err-digest.ensures in
    search rules

pub returns-clause-steps : goal.returns-clause-steps
returns-clause-steps g c =
    digest_read g.D.Words.bytes c.in_ok-digest.digest g.D.Words.width c.size.result c.args.self.now.bytes.now g.met.D.Words.least c.size.ensures c.in_ok-digest.ensures

pub returns-clause-goes : goal.returns-clause-goes
returns-clause-goes g c =
    let e = returns-clause-steps g c in
    search rules
