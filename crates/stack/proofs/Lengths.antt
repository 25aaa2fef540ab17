-- How many cells a stack holds. Assumes nothing.
use Rattle.std.proofs.Common.{◌≡◌, ℕ, suc, ◌-◌, true, ltb, List, [], ◌++◌, length, take, ap, ◌∙◌, arith}
use borrow.Author.Tests.{true-ltb}
use Rattle.std.proofs.lemmas.List.{length-take-le, length-reverse}
use Rattle.stack.specs.declared.Stack.{Stack}
use Rattle.stack.specs.Held.{held, popped}

pub length_held : {T : Type 0} (s : Stack T) → length (held s) ≡ s.len
length_held s = length-take-le s.len s.cells.now s.ok

pub length_popped : {T : Type 0} (s : Stack T) → length (popped s) ≡ s.len
length_popped s = length-reverse (held s) ∙ length_held s

-- a cell was taken off
pub one_off : (k j : ℕ) → j ≡ k - 1 → true ≡ ltb 0 k → k ≡ suc j
one_off k j e t = omega (arith, true-ltb 0 k t)

-- an empty stack, and one onto which a list was pushed
pub held_none : {T : Type 0} (s : Stack T) → s.len ≡ 0 → held s ≡ []
held_none s e = ap (λ (k : ℕ). take k s.cells.now) e

pub filled : {T : Type 0} (s : Stack T) (H W : List T) → s.len ≡ 0 → H ≡ held s ++ W → H ≡ W
filled s H W e u = u ∙ ap (λ (x : List _). x ++ W) (held_none s e)
