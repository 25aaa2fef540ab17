use Rattle.std.proofs.Common.{◌≤◌, vec_len}
use Rattle.relog.specs.Arguments.{most_bytes}
use Rattle.relog.proofs.argument.joined_bytes.Given as goal

abbrev pub invariant-loop-word : goal.invariant-loop-word
invariant-loop-word l = vec_len l.all ≤ most_bytes
