use Rattle.std.proofs.Common.{take}
use Rattle.tree.proofs.Widths.{digests_map}
use Rattle.store.proofs.table.calls.TableLeaves.count.Goals as goal

pub returns-clause-wide : goal.returns-clause-wide
returns-clause-wide g c = digests_map g.D.Words.bytes g.D.Words.width g.met.D.Words.sized (take c.args.self.now.count c.args.self.now.cells.now)
