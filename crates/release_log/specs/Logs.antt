-- The log: what append, head, prove and link answer, and what they leave. Assumes nothing.
use Rattle.std.specs.Prelude.{ℕ, ◌+◌, ◌-◌, Bool, ◌&&◌, List, [], ◌∷◌, ◌++◌, length, Ok, Err, nat_le, nat_lt}
use Rattle.cipher.specs.Bytes.{written}
use Rattle.hash.specs.Hash.{Hashing}
use Rattle.hash.specs.Collisions.{Bytes}
use Rattle.tree.specs.Digests.{root_at, path_of, link_of, leaf_digest}
use Rattle.tree.specs.Entries.{longest_entry}
use Rattle.tree.specs.Spans.{largest, in_tree, in_link}
use Rattle.refusal.specs.Refusals.{Answer, must, ◌>>◌}
use Rattle.refusal.specs.declared.Refusal.TheVariants.{MadeOverLeaves, ImpossibleRequest, TooLong, StoreFull, FileFull}
use Rattle.record.specs.Records.{Head, Proof, Link, head, proof, link, entry, spelled}
use Rattle.release_log.specs.Buffers.{enough, fitting}

-- a log: the digests and the room of its store, how many bytes of the entry file are used, and whether it was made over an empty store
pub record LogState : Type 0 where
  pub opened : Bool
  pub leaves : List Bytes
  pub room : ℕ
  pub used : ℕ

module _ (c : Hashing) where
  -- a head, a proof and a link over the first leaves of a log
  abbrev pub head_over : List Bytes → ℕ → Head
  head_over leaves n = record { size = n; root = root_at c leaves n }

  abbrev pub proof_over : List Bytes → ℕ → ℕ → Proof
  proof_over leaves i n = record { index = i; size = n; path = path_of c leaves i n }

  abbrev pub link_over : List Bytes → ℕ → ℕ → Link
  link_over leaves m n = record { old = m; new = n; digests = link_of c leaves m n }

  -- append: the index of the new leaf; the entry file is lent with so many bytes
  abbrev pub append_answer : LogState → ℕ → Bytes → Answer ℕ
  append_answer l lent e = do
    must l.opened MadeOverLeaves
    must (nat_le (length e) longest_entry) (TooLong 1)
    must (nat_le (l.used + length (spelled (entry e))) lent) FileFull
    must (nat_lt 0 l.room) StoreFull
    Ok (length l.leaves)

  -- head, prove and link: the record written at the front of an output of so many bytes
  abbrev pub head_answer : LogState → ℕ → ℕ → ℕ → Answer Bytes
  head_answer l cells out n = do
    must l.opened MadeOverLeaves
    enough cells
    must (nat_le 1 n && (nat_le n largest && nat_le n (length l.leaves))) ImpossibleRequest
    fitting out (spelled (head (head_over l.leaves n)))

  abbrev pub prove_answer : LogState → ℕ → ℕ → ℕ → ℕ → Answer Bytes
  prove_answer l cells out i n = do
    must l.opened MadeOverLeaves
    enough cells
    must (in_tree i n && nat_le n (length l.leaves)) ImpossibleRequest
    fitting out (spelled (proof (proof_over l.leaves i n)))

  abbrev pub link_answer : LogState → ℕ → ℕ → ℕ → ℕ → Answer Bytes
  link_answer l cells out m n = do
    must l.opened MadeOverLeaves
    enough cells
    must (in_link m n && nat_le n (length l.leaves)) ImpossibleRequest
    fitting out (spelled (link (link_over l.leaves m n)))

  -- the log after an append, and the entry file as it was lent
  abbrev pub log_after : LogState → Bytes → Answer ℕ → LogState
  log_after l e (Ok i) =
      record { opened = l.opened; leaves = l.leaves ++ (leaf_digest c e ∷ []); room = l.room - 1; used = l.used + length (spelled (entry e)) }
  log_after l e (Err r) = l

  abbrev pub file_after : LogState → Bytes → Answer ℕ → Bytes → Bytes
  file_after l e (Ok i) lent = written l.used (spelled (entry e)) lent
  file_after l e (Err r) lent = lent
