use Rattle.std.proofs.Common.{◌≡◌, length, arith}
use Rattle.cipher.specs.Blocks.{block_bytes}
use Rattle.cipher.proofs.Littles.{length_block}
use Rattle.record.proofs.Writing.{two_stores}
use Rattle.record.proofs.write.write_input.Goals as goal

pub returns : goal.returns
returns g c =
    let xs = c.args.into.now in
    let i = c.args.at in
    let h = g.D.Words.bytes c.args.x.h in
    let m = block_bytes c.args.x.m in
    let w = c.size.result in
    let l : length h ≡ w = omega (arith, g.met.D.Words.sized c.args.x.h, c.size.ensures) in
    two_stores i w h m xs c.store.new.into c.store-2.new.into c.store.ensures c.store-2.ensures l
    (omega (arith, c.requires, c.size.ensures, length_block c.args.x.m))
