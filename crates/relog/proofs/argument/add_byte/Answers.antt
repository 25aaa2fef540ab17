use Rattle.std.proofs.Common.{[], ◌∷◌, vec_items, arith}
use Rattle.relog.proofs.Runs.{once_more}
use Rattle.relog.proofs.argument.add_byte.Goals as goal

pub loop-preserved : goal.loop-preserved
loop-preserved c =
    let added = c.in_ok-push.ensures in (
      once_more c.loop.counter (c.args.byte ∷ []) (vec_items c.args.all.now) (vec_items c.loop.all) (vec_items c.push.new.self) added.items c.loop.invariant.0,
      omega (arith, added.len),
    )
