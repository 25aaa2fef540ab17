use Rattle.std.proofs.Common.{ℕ, suc, length, Option, Some, None}
use Rattle.relog.specs.declared.play.Asked.{Asked}
use Rattle.relog.proofs.play.play.Given as goal

-- how many lines are left, and one more for the store itself
abbrev left : Option Asked → ℕ
left None = 0
left (Some a) = suc (length a.rest.now)

abbrev pub decreases-loop-asked : goal.decreases-loop-asked
decreases-loop-asked l = left l.asked
