-- What an append to a store of digests answers and leaves, and how many digests a store takes. Assumes nothing.
use Rattle.std.specs.Prelude.{ℕ, ◌-◌, min, cond, List, [], ◌∷◌, ◌++◌, Ok, nat_lt}
use Rattle.hash.specs.Collisions.{Bytes}
use Rattle.refusal.specs.Refusals.{Answer, must, ◌>>◌}
use Rattle.refusal.specs.declared.Refusal.TheVariants.{StoreFull}
use Rattle.tree.specs.Spans.{largest}

-- the answer of an append where there are n digests and room for s more: the new digest's index
abbrev pub append_answer : ℕ → ℕ → Answer ℕ
append_answer n s = do
  must (nat_lt 0 s) StoreFull
  Ok n

-- the digests afterwards: the new one at the end, or the same where there was no room
abbrev pub items_after : List Bytes → ℕ → Bytes → List Bytes
items_after ds s d = cond (nat_lt 0 s) (ds ++ d ∷ []) ds

-- the room afterwards: one less, or none as before
abbrev pub space_after : ℕ → ℕ
space_after s = s - 1

-- how many digests a store with p places takes in all: p, or as many as the largest tree has leaves
abbrev pub most_of : ℕ → ℕ
most_of p = min p largest

-- how many more it takes where it has n
abbrev pub space_of : ℕ → ℕ → ℕ
space_of n p = most_of p - n
