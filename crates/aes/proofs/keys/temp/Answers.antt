use Rattle.std.proofs.Common.{refl, arith, rules}
use Rattle.aes.specs.Expansion.{temp_first}
use Rattle.aes.proofs.keys.temp.Goals as goal

pub returns-then-i-eq0 : goal.returns-then-i-eq0
returns-then-i-eq0 c =
    temp_first 4 c.args.i c.args.last c.rotate_left-w.result c.shifted.result _ (omega arith) (search rules) c.rotate_left-w.ensures c.shifted.ensures refl (search rules)
