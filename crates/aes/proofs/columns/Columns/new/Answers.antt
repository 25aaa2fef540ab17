use Rattle.std.proofs.Common.{◌/◌, ◌%◌, ◌++◌, append_assoc}
use Rattle.cipher.specs.Bytes.{little}
use Rattle.aes.specs.Fours.{halves}
use Rattle.aes.proofs.columns.Columns.new.Goals as goal

pub returns : goal.returns
returns c =
    let x = c.args.block.lo in
    let y = c.args.block.hi in
    let p = halves x in
    let q = halves y in
    let a = append_assoc (little 4 (x % 4294967296)) (little 4 (x / 4294967296)) (little 4 (y % 4294967296) ++ little 4 (y / 4294967296)) in
    cc
