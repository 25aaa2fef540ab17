use Rattle.std.proofs.Common.{length, vec_items, mul-add, arith}
use Rattle.relog.proofs.Runs.{once_more}
use Rattle.relog.proofs.argument.add_bytes.Goals as goal

pub loop-preserved : goal.loop-preserved
loop-preserved c =
    let bytes = c.args.bytes.now in
    let n = c.loop.counter in
    let added = c.in_ok-extend_from_slice.ensures in (
      once_more n bytes (vec_items c.args.all.now) (vec_items c.loop.all) (vec_items c.extend_from_slice.new.self) added.items c.loop.invariant.0,
      omega (arith, added.len, mul-add (length bytes) n 1),
    )
