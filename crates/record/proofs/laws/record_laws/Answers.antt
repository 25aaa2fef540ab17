use Rattle.record.proofs.Stand.{records_stand}
use Rattle.record.proofs.laws.record_laws.Goals as goal

pub returns : goal.returns
returns g c = records_stand g.D.Words.width g.met.D.Words.least g.met.D.Words.most
