use Rattle.std.proofs.Common.{rules}
use Rattle.aes.specs.Fours.{joins}
use Rattle.aes.proofs.columns.Columns.block.Goals as goal

pub returns : goal.returns
returns c =
    let s = c.args.self in
    joins s.a s.b s.c s.d (search rules) (search rules)
