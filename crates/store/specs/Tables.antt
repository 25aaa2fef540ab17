-- The digests of a table, and its room. Assumes nothing.
use Rattle.std.specs.Prelude.{ℕ, cond, List, map, length, take, nat_lt, slice_set}
use Rattle.hash.specs.Collisions.{Bytes}
use Rattle.store.specs.Stores.{space_of}
use Rattle.store.specs.declared.table.Table.{Table}

-- the digests in the first n cells, as bytes
abbrev pub digests_in : {D : Type 0} → (D → Bytes) → ℕ → List D → List Bytes
digests_in spell n ds = map spell (take n ds)

-- the digests of a table
abbrev pub table_items : {D : Type 0} → (D → Bytes) → Table D → List Bytes
table_items spell t = digests_in spell t.count t.cells.now

-- how many more a table takes
abbrev pub table_space : {D : Type 0} → Table D → ℕ
table_space t = space_of t.count (length t.cells.now)

-- all its cells after an append: the digest in the first free one, or the same where there was no room
abbrev pub cells_after : {D : Type 0} → Table D → D → List D
cells_after t d = cond (nat_lt 0 (table_space t)) (slice_set t.cells.now t.count d) t.cells.now
