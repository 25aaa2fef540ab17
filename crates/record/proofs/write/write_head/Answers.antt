use Rattle.std.proofs.Common.{◌≡◌, ◌+◌, ◌++◌, length, subst, arith, length-append}
use Rattle.cipher.specs.Bytes.{little, stored}
use Rattle.cipher.proofs.Littles.{length_little}
use Rattle.hash.specs.Collisions.{Bytes}
use Rattle.record.specs.Frames.{frame_of, framed}
use Rattle.record.specs.Records.{spelled, head}
use Rattle.record.specs.Views.{head_of}
use Rattle.record.proofs.Writing.{room, no_room, two_stores, framed_put}
use Rattle.record.proofs.write.write_head.Goals as goal

pub returns-then-has_room : goal.returns-then-has_room
returns-then-has_room g c =
    let xs = c.args.into.now in
    let i = c.args.at in
    let h = head_of g.D.Words.bytes c.args.h in
    let n : Bytes = little 4 c.size-then-has_room.result in
    let root : Bytes = g.D.Words.bytes c.root.result in
    let begin : Bytes = c.write_header.new.into in
    let fits = room i c.head_len.result xs c.has_room.result c.has_room.ensures c.if-has_room.true in
    let ln : length n ≡ 4 = length_little 4 c.size-then-has_room.result in
    let lr : length root ≡ c.size.result = omega (arith, g.met.D.Words.sized c.root.result, c.size.ensures) in
    let both = length-append n root in
    let same : n ++ root ≡ little 4 h.size ++ h.root =
    λ j. little 4 (c.size-then-has_room.ensures.0 j) ++ g.D.Words.bytes (c.root.ensures j) in
    let payload : c.store.new.into ≡ stored (i + 4) (n ++ root) begin =
    two_stores (i + 4) 4 n root begin c.write_number.new.into c.store.new.into c.write_number.ensures c.store.ensures ln (omega (arith, c.head_len.ensures.value, c.size.ensures)) in
    let whole : c.store.new.into ≡ stored i (framed (frame_of 2 (n ++ root))) xs =
    framed_put 2 (4 + c.size.result) i (n ++ root) xs begin c.store.new.into c.write_header.ensures payload (omega arith) (omega (arith, c.head_len.ensures.value, c.size.ensures)) in
    subst (λ (p : Bytes). c.store.new.into ≡ stored i (framed (frame_of 2 p)) xs) same whole

pub returns-else-has_room : goal.returns-else-has_room
returns-else-has_room g c =
    let h = head_of g.D.Words.bytes c.args.h in
    no_room c.args.at c.head_len.result (spelled (head h)) c.args.into.now c.has_room.result c.has_room.ensures c.if-has_room.false
    (c.head_len.ensures.spells h (g.met.D.Words.sized c.args.h.root))
