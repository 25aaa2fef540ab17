-- Roots, paths and links of digests of one width are digests of that width. Assumes nothing.
use Rattle.std.proofs.Common.{◌≡◌, ℕ, zero, suc, ◌+◌, ◌-◌, ◌*◌, ◌≤◌, Bool, true, false, cond, eqb, ltb, leb, List, [], ◌∷◌, ◌++◌, map, length, drop, arith, length-append, length-drop}
use Rattle.std.specs.List.{flat_map}
use Rattle.hash.specs.Hash.{Hashing}
use Rattle.hash.specs.Collisions.{Bytes}
use Rattle.hash.specs.Widths.{Sized}
use Rattle.hash.proofs.Widths.{length_hash}
use Rattle.tree.specs.Tree.{Shape, tip, fork, size, shape_of, top, part_by, path}
use Rattle.tree.specs.Links.{sub}
use Rattle.tree.specs.Digests.{Digests, node_message, node_digest, root_at}
use Rattle.tree.proofs.Shapes.{size_shape_of}

digests_push : (w : ℕ) (ps : List Bytes) (p : Bytes) → Digests w ps → length p ≡ w → Digests w (ps ++ (p ∷ []))
digests_push w [] p d l = (l, tt)
digests_push w (q ∷ ps) p d l = (d.0, digests_push w ps p d.1 l)

pub digests_drop : (w a : ℕ) (ps : List Bytes) → Digests w ps → Digests w (drop a ps)
digests_drop w zero ps d = d
digests_drop w (suc a) [] d = tt
digests_drop w (suc a) (p ∷ ps) d = digests_drop w a ps d.1

digests_cond : (w : ℕ) (b : Bool) (ps qs : List Bytes) → Digests w ps → Digests w qs → Digests w (cond b ps qs)
digests_cond w true ps qs d e = d
digests_cond w false ps qs d e = e

module _ (f : Hashing) (sized : Sized f) where
  length_top : (s : Shape) (xs : List Bytes) → size s ≤ length xs → Digests f.width xs → length (top (node_digest f) [] s xs) ≡ f.width
  length_top tip [] h d = absurd (omega (arith, h))
  length_top tip (x ∷ xs) h d = d.0
  length_top (fork l r) xs h d = length_hash f sized (node_message (top (node_digest f) [] l xs) (top (node_digest f) [] r (drop (size l) xs)))

  module _ (xs : List Bytes) (d : Digests f.width xs) where
    length_part : (a : ℕ) (s : Shape) → a + size s ≤ length xs → length (part_by (node_digest f) [] xs a s) ≡ f.width
    length_part a s h = length_top s (drop a xs) (omega (arith, length-drop a xs)) (digests_drop f.width a xs d)

    pub length_root : (n : ℕ) → 1 ≤ n → n ≤ length xs → length (root_at f xs n) ≡ f.width
    length_root n a b = length_top (shape_of n) xs (omega (arith, size_shape_of n a, b)) d

    pub digests_path : (s : Shape) (a i : ℕ) → a + size s ≤ length xs → Digests f.width (path (part_by (node_digest f) [] xs) s a i)
    digests_path tip a i h = tt
    digests_path (fork l r) a i h =
        digests_cond f.width (ltb i (size l)) _ _ (digests_push f.width _ _ (digests_path l a i (omega arith)) (length_part (a + size l) r (omega arith)))
        (digests_push f.width _ _ (digests_path r (a + size l) (i - size l) (omega arith)) (length_part a l (omega arith)))

    pub digests_sub : (s : Shape) (a m : ℕ) (mark : Bool) → a + size s ≤ length xs → Digests f.width (sub (part_by (node_digest f) [] xs) s a m mark)
    digests_sub tip a m mark h = digests_cond f.width mark [] (part_by (node_digest f) [] xs a tip ∷ []) tt (length_part a tip h, tt)
    digests_sub (fork l r) a m mark h =
        digests_cond f.width (eqb m (size l + size r)) _ _ (digests_cond f.width mark [] (part_by (node_digest f) [] xs a (fork l r) ∷ []) tt (length_part a (fork l r) h, tt))
        (digests_cond f.width (leb m (size l)) _ _ (digests_push f.width _ _ (digests_sub l a m mark (omega arith)) (length_part (a + size l) r (omega arith)))
        (digests_push f.width _ _ (digests_sub r (a + size l) (m - size l) false (omega arith)) (length_part a l (omega arith))))

-- digests one after the other
pub length_joined : (w : ℕ) (ps : List Bytes) → Digests w ps → length (flat_map (λ d. d) ps) ≡ w * length ps
length_joined w [] d = omega arith
length_joined w (p ∷ ps) d = omega (arith, length-append p (flat_map (λ d. d) ps), length_joined w ps d.1, d.0)

-- digests of a type whose values all have w bytes
pub digests_map : {D : Type 0} (bytes : D → Bytes) (w : ℕ) → ((d : D) → length (bytes d) ≡ w) → (ds : List D) → Digests w (map bytes ds)
digests_map bytes w sized [] = tt
digests_map bytes w sized (d ∷ ds) = (sized d, digests_map bytes w sized ds)
