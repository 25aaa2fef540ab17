use Rattle.std.proofs.Common.{sym, ◌∙◌, arith}
use Rattle.hash.specs.Hash.{from_zeros}
use Rattle.conflict.proofs.Positions.{last_part}
use Rattle.conflict.proofs.inputs.inputs_apart.Goals as goal

pub returns-then-x-y : goal.returns-then-x-y
returns-then-x-y g c =
    let F = from_zeros g.C.Value.Words.width g.C.Compression.f in
    c.pair_at.ensures
    ∙ sym (last_part F c.args.x.now c.args.y.now c.last_block.result c.last_block-then-x-y.result (omega arith) (omega arith) c.if-x-y.true c.last_block.ensures c.last_block-then-x-y.ensures)
