use Rattle.std.proofs.Common.{sym}
use Rattle.std.proofs.lemmas.List.{length-map}
use Rattle.tree.proofs.Widths.{digests_map}
use Rattle.roots.proofs.row.RowLeaves.count.Goals as goal

pub returns : goal.returns
returns g c = record {
  value = sym (length-map c.args.self.now.digests.now g.D.Words.bytes);
  wide = digests_map g.D.Words.bytes g.D.Words.width g.met.D.Words.sized c.args.self.now.digests.now;
}
