use Rattle.std.proofs.Common.{arith}
use Rattle.record.proofs.Writing.{room, framed_put}
use Rattle.record.proofs.write.write_leaf.Goals as goal

pub returns-then-has_room : goal.returns-then-has_room
returns-then-has_room g c =
    let xs = c.args.into.now in
    let i = c.args.at in
    let p = g.D.Words.bytes c.args.digest in
    let l = g.met.D.Words.sized c.args.digest in
    let h = room i c.leaf_len.result xs c.has_room.result c.has_room.ensures c.if-has_room.true in
    framed_put 1 c.size.result i p xs c.write_header.new.into c.store.new.into c.write_header.ensures c.store.ensures
    (omega (arith, c.size.ensures)) (omega (arith, c.leaf_len.ensures.value))
