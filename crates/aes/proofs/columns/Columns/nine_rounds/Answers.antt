use Rattle.std.proofs.Common.{◌≡◌, ◌+◌, ◌-◌, sym, ap, ◌∙◌, arith}
use Rattle.aes.specs.Aes.{rounds}
use Rattle.aes.specs.Columns.{state_of}
use Rattle.aes.proofs.Rounds.{rounds_none, rounds_more}
use Rattle.aes.proofs.columns.Columns.nine_rounds.Goals as goal

pub loop-j-init : goal.loop-j-init
loop-j-init c = sym (rounds_none c.args.keys.now (state_of c.args.self))

pub loop-j-preserved : goal.loop-j-preserved
loop-j-preserved c =
    let j = c.loop-j.j in
    let m = rounds_more c.args.keys.now (state_of c.args.self) j (omega arith) in
    let k : j + 1 - 1 ≡ j = omega arith in
    cc

pub returns : goal.returns
returns c =
    let e : c.loop-j.j - 1 ≡ 9 = omega arith in
    c.loop-j.invariant ∙ ap (rounds c.args.keys.now (state_of c.args.self)) e
