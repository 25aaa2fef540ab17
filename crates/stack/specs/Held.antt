-- What a stack holds. Assumes nothing.
use Rattle.std.specs.Prelude.{ℕ, List, reverse, length, take}
use Rattle.stack.specs.declared.Stack.{Stack}

-- the cells in use, the bottom first
abbrev pub held : {T : Type 0} → Stack T → List T
held s = take s.len s.cells.now

-- the same, the top first
abbrev pub popped : {T : Type 0} → Stack T → List T
popped s = reverse (held s)

-- how many cells were lent
abbrev pub room : {T : Type 0} → Stack T → ℕ
room s = length s.cells.now
