use Rattle.hash.specs.Hash.{from_zeros}
use Rattle.tree.proofs.Stand.{stand}
use Rattle.tree.proofs.laws.tree_laws.Goals as goal

pub returns : goal.returns
returns g c = stand (from_zeros g.C.Value.Words.width g.C.Compression.f)
