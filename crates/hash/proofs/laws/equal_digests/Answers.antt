use Rattle.hash.specs.Hash.{from_zeros}
use Rattle.hash.proofs.Apart.{hash_apart}
use Rattle.hash.proofs.laws.equal_digests.Goals as goal

pub returns : goal.returns
returns g c = hash_apart (from_zeros g.C.Value.Words.width g.C.Compression.f)
