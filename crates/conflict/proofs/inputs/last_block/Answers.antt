use Rattle.std.proofs.Common.{arith}
use Rattle.hash.proofs.Padded.{length_blocks}
use Rattle.conflict.proofs.inputs.last_block.Goals as goal

pub returns-then-n-lt8 : goal.returns-then-n-lt8
returns-then-n-lt8 c = omega (arith, length_blocks c.args.message.now)

pub returns-else-n-lt8 : goal.returns-else-n-lt8
returns-else-n-lt8 c = omega (arith, length_blocks c.args.message.now)
