-- What is promised of the checks: they accept what a log writes, under its heads. Assumes nothing.
use Rattle.std.specs.Prelude.{◌≡◌, ℕ, ◌≤◌, [], length, Ok, slice_index_or}
use Rattle.hash.specs.Hash.{Hashing}
use Rattle.hash.specs.Collisions.{Bytes}
use Rattle.tree.specs.Digests.{Digests, leaf_digest}
use Rattle.tree.specs.Entries.{longest_entry}
use Rattle.roots.specs.Roots.{cells_needed}
use Rattle.release_log.specs.Logs.{LogState, head_answer, prove_answer, link_answer}
use Rattle.checks.specs.Checks.{check_proof_answer, check_link_answer}

module _ (c : Hashing) where
  -- a proof that a log wrote passes under its head of that size, with the entry whose leaf stands at the index
  abbrev pub ProofsPass : Type 0
  ProofsPass = (l : LogState) (cells out cells' out' i n : ℕ) (h e p : Bytes) → Digests c.width l.leaves →
      head_answer c l cells out n ≡ Ok h → prove_answer c l cells' out' i n ≡ Ok p → slice_index_or l.leaves i [] ≡ leaf_digest c e → length e ≤ longest_entry →
      (given : ℕ) → cells_needed ≤ given → check_proof_answer c given h e p ≡ Ok tt

  -- a link that a log wrote passes between its heads of those sizes
  abbrev pub LinksPass : Type 0
  LinksPass = (l : LogState) (cells out cells' out' cells'' out'' m n : ℕ) (g h d : Bytes) → Digests c.width l.leaves →
      head_answer c l cells out m ≡ Ok g → head_answer c l cells' out' n ≡ Ok h → link_answer c l cells'' out'' m n ≡ Ok d →
      (given : ℕ) → cells_needed ≤ given → check_link_answer c given g h d ≡ Ok tt
