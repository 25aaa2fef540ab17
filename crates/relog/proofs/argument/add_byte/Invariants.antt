use Rattle.std.proofs.Common.{◌≡◌, ◌+◌, [], ◌∷◌, ◌++◌, vec_items, vec_len}
use Rattle.std.specs.List.{repeat}
use Rattle.relog.proofs.argument.add_byte.Given as goal

abbrev pub invariant-loop : goal.invariant-loop
invariant-loop l = (vec_items l.all ≡ vec_items l.initial.all ++ repeat l.counter (l.byte ∷ [])) × (vec_len l.all ≡ vec_len l.initial.all + l.counter)
