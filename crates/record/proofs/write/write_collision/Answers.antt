use Rattle.std.proofs.Common.{◌≡◌, ◌+◌, ◌*◌, ◌≤◌, ◌++◌, length, subst, append_assoc, arith, length-append}
use Rattle.cipher.specs.Bytes.{stored}
use Rattle.cipher.proofs.Littles.{length_block}
use Rattle.hash.specs.Collisions.{Bytes}
use Rattle.record.specs.Frames.{frame_of, framed}
use Rattle.record.specs.Records.{spelled, collision}
use Rattle.record.specs.Views.{input_of}
use Rattle.record.proofs.Writing.{room, no_room, two_stores, framed_put}
use Rattle.record.proofs.write.write_collision.Goals as goal

pub returns-then-has_room : goal.returns-then-has_room
returns-then-has_room g c =
    let xs = c.args.into.now in
    let i = c.args.at in
    let x = input_of g.D.Words.bytes c.args.c.first in
    let y = input_of g.D.Words.bytes c.args.c.second in
    let n = c.size-len.result + 16 in
    let head : Bytes = c.write_header.new.into in
    let first : Bytes = x.0 ++ x.1 in
    let second : Bytes = y.0 ++ y.1 in
    let h = room i c.collision_len.result xs c.has_room.result c.has_room.ensures c.if-has_room.true in
    let lx : length first ≡ n = omega (arith, length-append x.0 x.1, g.met.D.Words.sized c.args.c.first.h, length_block c.args.c.first.m, c.size-len.ensures) in
    let ly : length second ≡ n = omega (arith, length-append y.0 y.1, g.met.D.Words.sized c.args.c.second.h, length_block c.args.c.second.m, c.size-len.ensures) in
    let both = length-append first second in
    let k : i + 4 + n + length second ≤ length head = omega (arith, c.collision_len.ensures.value, c.size-len.ensures) in
    let assoc : first ++ second ≡ x.0 ++ (x.1 ++ (y.0 ++ y.1)) = append_assoc x.0 x.1 second in
    let last : Bytes = c.write_input-then-has_room.new.into in
    let payload : last ≡ stored (i + 4) (first ++ second) head =
    two_stores (i + 4) n first second head c.write_input.new.into last c.write_input.ensures c.write_input-then-has_room.ensures lx k in
    let whole : last ≡ stored i (framed (frame_of 6 (first ++ second))) xs =
    framed_put 6 (2 * n) i (first ++ second) xs head last c.write_header.ensures payload (omega arith) (omega (arith, c.collision_len.ensures.value, c.size-len.ensures)) in
    subst (λ (p : Bytes). last ≡ stored i (framed (frame_of 6 p)) xs) assoc whole

pub returns-else-has_room : goal.returns-else-has_room
returns-else-has_room g c =
    let x = input_of g.D.Words.bytes c.args.c.first in
    let y = input_of g.D.Words.bytes c.args.c.second in
    let s = g.met.D.Words.sized in
    no_room c.args.at c.collision_len.result (spelled (collision x y)) c.args.into.now c.has_room.result c.has_room.ensures c.if-has_room.false
    (c.collision_len.ensures.spells x y (s c.args.c.first.h, length_block c.args.c.first.m, s c.args.c.second.h, length_block c.args.c.second.m))
