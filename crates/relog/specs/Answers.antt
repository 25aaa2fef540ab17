-- What a command tells of the call that it makes. Assumes nothing.
use Rattle.std.specs.Prelude.{ℕ, List, [], Ok, Err, Some, None, Option, Result, vec_items}
use Rattle.refusal.specs.Refusals as refusals
use Rattle.relog.specs.declared.answer.Answer.{Answer}
use Rattle.relog.specs.declared.answer.Answer.TheVariants.{Done, Number, Missing, Bytes}
use Rattle.relog.specs.declared.fault.Failure.{Failure}
use Rattle.relog.specs.declared.fault.Failure.TheVariants.{Fault, Refused}

-- the bytes that the command wrote
abbrev pub written : Answer → List ℕ
written Done = []
written (Number n) = []
written Missing = []
written (Bytes v) = vec_items v

-- the bytes that the command wrote, or its refusal; nothing of a command that was not run
abbrev pub told : Result Answer Failure → Option (refusals.Answer (List ℕ))
told (Ok a) = Some (Ok (written a))
told (Err (Refused e)) = Some (Err e)
told (Err (Fault f)) = None
