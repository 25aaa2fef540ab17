use mathlib.Core.Path.{◌≡◌}
use mathlib.Core.List.{[], ◌∷◌}
use Rattle.speck.specs.Speck.{key_schedule, rounds}
use Rattle.speck.proofs.encrypt_words.Given as goal

abbrev pub invariant-loop-i : goal.invariant-loop-i
invariant-loop-i l =
    (key_schedule (l.initial.k ∷ l.initial.l ∷ []) l.i ≡ l.k ∷ l.l ∷ [])
    × (l.p ≡ rounds (l.initial.k ∷ l.initial.l ∷ []) l.initial.p l.i)
