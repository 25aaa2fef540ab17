use Rattle.std.proofs.Common.{◌≡◌, ◌-◌}
use Rattle.aes.specs.Aes.{rounds}
use Rattle.aes.specs.Columns.{state_of}
use Rattle.aes.proofs.columns.Columns.nine_rounds.Given as goal

abbrev pub invariant-loop-j : goal.invariant-loop-j
invariant-loop-j l = state_of l.s ≡ rounds l.keys (state_of l.initial.s) (l.j - 1)
