use Rattle.std.proofs.Common.{length, refl, arith}
use Rattle.record.proofs.Writing.{room, framed_put}
use Rattle.record.proofs.write.write_entry.Goals as goal

pub returns-then-has_room-clause-fits : goal.returns-then-has_room-clause-fits
returns-then-has_room-clause-fits c l =
    let xs = c.args.into.now in
    let i = c.args.at in
    let p = c.args.bytes.now in
    let h = room i c.entry_len.result xs c.has_room.result c.has_room.ensures c.if-has_room.true in
    framed_put 5 (length p) i p xs c.write_header.new.into c.put.new.into c.write_header.ensures c.put.ensures refl (omega (arith, c.entry_len.ensures.value))
