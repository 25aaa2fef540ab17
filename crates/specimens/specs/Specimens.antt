-- Worked examples of the definitions. Assumes nothing.
use Rattle.std.specs.Prelude.{◌≡◌, List, [], ◌∷◌, ◌++◌, ℕ, ◌+◌, ◌%◌, ◌≤◌, length, replicate}
use Rattle.cipher.specs.Bytes.{xors}
use Rattle.hash.specs.Hash.{Hashing, gap, blocks, hash_of, from_zeros}
use Rattle.hash.specs.Collisions.{Bytes}
use Rattle.aes.specs.Field.{S}
use Rattle.tree.specs.Digests.{leaf_digest, root_at}
use Rattle.tree.specs.Spans.{between, path_spans, link_spans}

-- the hash whose compression is the xor, with digests of 16 bytes
abbrev pub fold : Hashing
fold = from_zeros 16 xors

-- into how many blocks a message of n bytes is padded
abbrev pub block_count : ℕ → ℕ
block_count n = length (blocks (replicate n 0))

-- the leaf digests of the entries 61 and 62
abbrev pub two_leaves : List Bytes
two_leaves = leaf_digest fold (0x61 ∷ []) ∷ leaf_digest fold (0x62 ∷ []) ∷ []

pub record Specimens : Type 0 where
  -- messages of 0 and 7 bytes are padded to 1 block, of 8 and 23 to 2, of 24 to 3
  pub pads : (block_count 0 ≡ 1) × (block_count 7 ≡ 1) × (block_count 8 ≡ 2) × (block_count 23 ≡ 2) × (block_count 24 ≡ 3)
  -- after n bytes and the byte 80, the gap makes the length 8 modulo 16, and no smaller number does
  pub fewest : (n : ℕ) → ((n + 1 + gap n) % 16 ≡ 8) × ((z : ℕ) → (n + 1 + z) % 16 ≡ 8 → gap n ≤ z)
  -- S(00) = 63 and S(53) = ed
  pub substitutes : (S 0x00 ≡ 0x63) × (S 0x53 ≡ 0xed)
  -- the hash of nothing
  pub nothing : hash_of fold [] ≡ 0x80 ∷ replicate 15 0x00
  -- the root over the entries 61 and 62
  pub root : root_at fold two_leaves 2 ≡ 0x01 ∷ 0x80 ∷ 0x03 ∷ (replicate 5 0x00 ++ (0x21 ∷ replicate 7 0x00))
  -- the path of leaf 6 among 7, and the link from 3 leaves to 7, as ranges of leaves
  pub path : path_spans 6 7 ≡ between 4 6 ∷ between 0 4 ∷ []
  pub link : link_spans 3 7 ≡ between 2 3 ∷ between 3 4 ∷ between 0 2 ∷ between 4 7 ∷ []
