-- What is promised of the tree's definitions. Assumes nothing.
use Rattle.std.specs.Prelude.{◌≡◌, ℕ, ◌-◌, ◌*◌, ◌^◌, ◌<◌, ◌≤◌, List, [], length, slice_index_or}
use Rattle.hash.specs.Hash.{Hashing}
use Rattle.hash.specs.Collisions.{Bytes}
use Rattle.tree.specs.Tree.{fork, shape_of}
use Rattle.tree.specs.Digests.{root_at, path_of, link_of, rebuilt, rebuilt_old, rebuilt_new}
use Rattle.tree.specs.Spans.{largest, path_spans, link_spans}

pub record TreeLaws (f : Hashing) : Type 0 where
  -- a tree splits at the largest power of two below its number of leaves
  pub splits : (j n : ℕ) → 2 ^ j < n → n ≤ 2 * 2 ^ j → shape_of n ≡ fork (shape_of (2 ^ j)) (shape_of (n - 2 ^ j))
  -- a path made from the leaves rebuilds the root over them
  pub paths : (leaves : List Bytes) (i n : ℕ) → i < n → rebuilt f i n (slice_index_or leaves i []) (path_of f leaves i n) ≡ root_at f leaves n
  -- a link made from the leaves rebuilds the new root and the old one
  pub news : (leaves : List Bytes) (m n : ℕ) → 1 ≤ m → m ≤ n → rebuilt_new f m n (root_at f leaves m) (link_of f leaves m n) ≡ root_at f leaves n
  pub olds : (leaves : List Bytes) (m n : ℕ) → 1 ≤ m → m ≤ n → rebuilt_old f m n (root_at f leaves m) (link_of f leaves m n) ≡ root_at f leaves m
  -- a path has at most 20 digests, and a link at most 21
  pub path_most : (i n : ℕ) → n ≤ largest → length (path_spans i n) ≤ 20
  pub link_most : (m n : ℕ) → n ≤ largest → length (link_spans m n) ≤ 21
