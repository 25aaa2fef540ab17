-- The laws of the tree, put together. Assumes nothing.
use Rattle.std.proofs.Common.{◌≡◌, ℕ, ◌<◌, ◌≤◌, true, List, [], reverse, get_or, sym, ap, ◌∙◌, ap₂, zero-add, arith}
use Rattle.hash.specs.Hash.{Hashing}
use Rattle.hash.specs.Collisions.{Bytes}
use Rattle.tree.specs.Tree.{shape_of, top, part_by, turns, climb}
use Rattle.tree.specs.Links.{link_turns, kept, base, above, climb_old}
use Rattle.tree.specs.Digests.{node_digest, root_at, path_of, link_of, rebuilt, rebuilt_old, rebuilt_new}
use Rattle.tree.specs.Laws.{TreeLaws}
use Rattle.tree.specs.Spans.{span_of}
use Rattle.tree.proofs.Shapes.{splits, size_shape_of}
use Rattle.tree.proofs.Complete.{path_rebuilds}
use Rattle.tree.proofs.Depth.{path_at_most, link_at_most}
use Rattle.tree.proofs.Linking.{front, foot, rest, sub_parts, news_rebuilt, olds_rebuilt, foot_kept, front_shape_of, started, lifted}
use Rattle.tree.proofs.Lengths.{length_path}

module _ (f : Hashing) (leaves : List Bytes) where
  pub paths : (i n : ℕ) → i < n → rebuilt f i n (get_or leaves i []) (path_of f leaves i n) ≡ root_at f leaves n
  paths i n h =
      ap (λ k. climb (node_digest f) (turns (shape_of n) i) (get_or leaves k []) (reverse (path_of f leaves i n))) (sym (zero-add i))
      ∙ path_rebuilds (node_digest f) [] leaves (shape_of n) 0 i (omega (arith, h, size_shape_of n (omega arith)))

  module _ (m n : ℕ) (low : 1 ≤ m) (order : m ≤ n) where
    abbrev ft : Bytes
    ft = foot (part_by (node_digest f) [] leaves) (shape_of n) 0 m

    old_is : top (node_digest f) [] (front (shape_of n) m) leaves ≡ root_at f leaves m
    old_is = ap (λ s. top (node_digest f) [] s leaves) (front_shape_of n m low order)

    starts : base (kept (link_turns (shape_of n) m)) (root_at f leaves m) (link_of f leaves m n) ≡ ft
    starts =
        ap (base (kept (link_turns (shape_of n) m)) (root_at f leaves m)) (sub_parts (part_by (node_digest f) [] leaves) (shape_of n) 0 m true)
        ∙ started (kept (link_turns (shape_of n) m)) (root_at f leaves m) ft (rest (part_by (node_digest f) [] leaves) (shape_of n) 0 m)
        (λ k. foot_kept (node_digest f) [] leaves (shape_of n) 0 m k ∙ old_is)

    lifts : above (kept (link_turns (shape_of n) m)) (link_of f leaves m n) ≡ rest (part_by (node_digest f) [] leaves) (shape_of n) 0 m
    lifts =
        ap (above (kept (link_turns (shape_of n) m))) (sub_parts (part_by (node_digest f) [] leaves) (shape_of n) 0 m true)
        ∙ lifted (kept (link_turns (shape_of n) m)) ft (rest (part_by (node_digest f) [] leaves) (shape_of n) 0 m)

    pub news : rebuilt_new f m n (root_at f leaves m) (link_of f leaves m n) ≡ root_at f leaves n
    news = ap₂ (λ b ps. climb (node_digest f) (link_turns (shape_of n) m) b (reverse ps)) starts lifts ∙ news_rebuilt (node_digest f) [] leaves (shape_of n) 0 m

    pub olds : rebuilt_old f m n (root_at f leaves m) (link_of f leaves m n) ≡ root_at f leaves m
    olds = ap₂ (λ b ps. climb_old (node_digest f) (link_turns (shape_of n) m) b (reverse ps)) starts lifts ∙ olds_rebuilt (node_digest f) [] leaves (shape_of n) 0 m ∙ old_is

pub stand : (f : Hashing) → TreeLaws f
stand f = record {
  splits = splits;
  paths = paths f;
  news = news f;
  olds = olds f;
  path_most = λ i n l. omega (arith, length_path span_of (shape_of n) 0 i, path_at_most n i l);
  link_most = λ m n l. link_at_most span_of m n l;
}
