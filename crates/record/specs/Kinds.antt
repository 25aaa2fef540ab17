-- The kinds of the code, in the words of the definitions. Assumes nothing.
use Rattle.std.specs.Prelude.{◌≡◌, ℕ, ◌+◌, ◌*◌, Bool, Some, None, Result, MatchResult, nat_eq, nat_le}
use Rattle.hash.specs.Collisions.{Bytes}
use Rattle.tree.specs.Entries.{longest_entry}
use Rattle.record.specs.declared.kinds.Kind.{Kind}
use Rattle.record.specs.declared.kinds.Kind.TheVariants.{Leaf, Head, Proof, Link, Entry, Collision}
use Rattle.record.specs.declared.kinds.NoSuchKind.{NoSuchKind}
use Rattle.record.specs.Records.{Record, leaf, entry, as_head, as_proof, as_link, as_collision, rows, kinds}

-- the number of a kind
abbrev pub number_of : Kind → ℕ
number_of Leaf = 1
number_of Head = 2
number_of Proof = 3
number_of Link = 4
number_of Entry = 5
number_of Collision = 6

-- which lengths are possible for a kind, and what its payload says
abbrev pub row_of : ℕ → Kind → (ℕ → Bool) × (Bytes → Record)
row_of w Leaf = ((λ n. nat_eq n w), leaf)
row_of w Head = ((λ n. nat_eq n (4 + w)), as_head w)
row_of w Proof = (rows w 20, as_proof w)
row_of w Link = (rows w 21, as_link w)
row_of w Entry = ((λ n. nat_le n longest_entry), entry)
row_of w Collision = ((λ n. nat_eq n (2 * (w + 16))), as_collision w)

-- what a number is read as: the kind that the table has for it, or no kind
abbrev pub ReadAs : ℕ → Result Kind NoSuchKind → Type 0
ReadAs n r = MatchResult r (λ k. (w : ℕ) → kinds w n ≡ Some (row_of w k)) (λ e. (e.0 ≡ n) × ((w : ℕ) → kinds w n ≡ None))
