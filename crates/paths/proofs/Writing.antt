-- The steps of writing digests one after another. Assumes nothing.
use Rattle.std.proofs.Common.{◌≡◌, ℕ, suc, ◌+◌, ◌-◌, ◌*◌, ◌<◌, ◌≤◌, Bool, true, false, cond, eqb, ltb, leb, List, [], ◌∷◌, ◌++◌, map, length, take, drop, Some, sym, refl, ap, ◌∙◌, ap₂, append_assoc, add-zero, mul-suc, mul_comm, mul-add, arith, length-append}
use Rattle.std.specs.List.{flat_map}
use Rattle.std.proofs.lemmas.List.{take-append-drop, flat_map_more}
use Rattle.std.proofs.lemmas.Bool.{le-leb, leb-true, leb-false, ltb-true}
use Rattle.cipher.specs.Bytes.{little, written}
use Rattle.cipher.proofs.Littles.{length_little}
use Rattle.cipher.proofs.Pieces.{written_written}
use Rattle.hash.specs.Collisions.{Bytes}
use Rattle.hash.specs.Hash.{Hashing}
use Rattle.tree.specs.declared.spans.Span.{Span}
use Rattle.tree.specs.Digests.{node_digest, path_of, link_of}
use Rattle.tree.specs.Spans.{largest, span_of, path_spans, link_spans}
use Rattle.tree.specs.Tree.{Shape, tip, fork, size, shape_of, part_by, path}
use Rattle.tree.specs.Links.{sub}
use Rattle.tree.specs.declared.ways.Way.{Way}
use Rattle.tree.specs.declared.ways.Way.TheVariants.{ToLeaf, ToEnd}
use Rattle.tree.specs.Ways.{in_way, way_leaves, way_spans}
use Rattle.tree.proofs.Descent.{in_tree_order, in_link_order}
use Rattle.tree.proofs.Shapes.{size_shape_of}
use Rattle.tree.proofs.Split.{size_pos}
use Rattle.roots.specs.Roots.{cells_needed}
use Rattle.paths.specs.Payloads.{fits, way_size, way_fits, way_digests}
use Rattle.paths.specs.Ranges.{Within, span_digest, beside}
use Rattle.paths.proofs.Ranged.{all_there}
use Rattle.paths.proofs.Evenly.{even_shape_of, path_parts, sub_parted}

pub written_none : (xs : Bytes) (i : ℕ) → xs ≡ written i [] xs
written_none xs i = sym (take-append-drop i xs) ∙ ap (λ (k : ℕ). take i xs ++ drop k xs) (sym (add-zero i))

pub joined_push : {X : Type 0} (f : X → Bytes) (xs : List X) (x : X) → flat_map f (xs ++ (x ∷ [])) ≡ flat_map f xs ++ f x
joined_push f xs x = sym (flat_map_more f [] xs x)

pub write_more : (f : Span → Bytes) (ds : List Span) (s : Span) (xs out b : Bytes) (i w at : ℕ) → out ≡ written i (flat_map f ds) xs → length (flat_map f ds) ≡ w * length ds
    → at ≡ i + length ds * w → b ≡ f s → at + length b ≤ length xs → written at b out ≡ written i (flat_map f (ds ++ (s ∷ []))) xs
write_more f ds s xs out b i w at o l a e h =
    let there : at ≡ i + length (flat_map f ds) = a ∙ ap (λ (k : ℕ). i + k) (mul_comm (length ds) w ∙ sym l) in
    ap (λ (y : Bytes). written at b y) o
    ∙ ap (λ (k : ℕ). written k b (written i (flat_map f ds) xs)) there
    ∙ written_written xs i (flat_map f ds) b (length (flat_map f ds)) refl (omega (arith, there))
    ∙ ap (λ (y : Bytes). written i y xs) (ap (λ (y : Bytes). flat_map f ds ++ y) e ∙ sym (joined_push f ds s))

pub long_more : (f : Span → Bytes) (ds : List Span) (s : Span) (b : Bytes) (w : ℕ) → length (flat_map f ds) ≡ w * length ds → b ≡ f s → length b ≡ w
    → length (flat_map f (ds ++ (s ∷ []))) ≡ w * length (ds ++ (s ∷ []))
long_more f ds s b w l e h =
    let k : length (ds ++ (s ∷ [])) ≡ suc (length ds) = omega (arith, length-append ds (s ∷ [])) in
    omega (arith, ap length (joined_push f ds s), length-append (flat_map f ds) (f s), ap length e, ap (λ (j : ℕ). w * j) k, mul-suc w (length ds))

pub joined_map : {X : Type 0} (f : X → Bytes) (xs : List X) → flat_map f xs ≡ flat_map (λ d. d) (map f xs)
joined_map f [] = refl
joined_map f (x ∷ xs) = ap (λ (y : Bytes). f x ++ y) (joined_map f xs)

-- the digests of the ranges are those of the path and of the link
module _ (f : Hashing) (leaves : List Bytes) where
  same : (a : ℕ) (s : Shape) → shape_of (size s) ≡ s → span_digest f leaves (span_of a s) ≡ part_by (node_digest f) [] leaves a s
  same a s e =
      let k : a + size s - a ≡ size s = omega arith in
      ap (λ (j : ℕ). part_by (node_digest f) [] leaves a (shape_of j)) k ∙ ap (part_by (node_digest f) [] leaves a) e

  pub path_digests : (i n : ℕ) → 1 ≤ n → flat_map (span_digest f leaves) (path_spans i n) ≡ flat_map (λ d. d) (path_of f leaves i n)
  path_digests i n h =
      joined_map (span_digest f leaves) (path_spans i n)
      ∙ ap (flat_map (λ d. d)) (path_parts (span_digest f leaves) span_of (part_by (node_digest f) [] leaves) same (shape_of n) 0 i (even_shape_of n h))

  pub link_digests : (m n : ℕ) → 1 ≤ n → flat_map (span_digest f leaves) (link_spans m n) ≡ flat_map (λ d. d) (link_of f leaves m n)
  link_digests m n h =
      joined_map (span_digest f leaves) (link_spans m n)
      ∙ ap (flat_map (λ d. d)) (sub_parted (span_digest f leaves) span_of (part_by (node_digest f) [] leaves) same (shape_of n) 0 m true (even_shape_of n h))

pub payload_written : (xs J out one two : Bytes) (x y : ℕ) → one ≡ written 0 (little 4 x) xs → two ≡ written 4 (little 4 y) one → out ≡ written 8 J two → 8 + length J ≤ length xs
    → out ≡ written 0 (little 4 x ++ (little 4 y ++ J)) xs
payload_written xs J out one two x y p q r h =
    let lx = length_little 4 x in
    let ly = length_little 4 y in
    let l : length (little 4 x ++ little 4 y) ≡ 8 = omega (arith, length-append (little 4 x) (little 4 y)) in
    let both : two ≡ written 0 (little 4 x ++ little 4 y) xs = q ∙ ap (written 4 (little 4 y)) p ∙ written_written xs 0 (little 4 x) (little 4 y) 4 lx (omega arith) in
    r ∙ ap (written 8 J) both ∙ written_written xs 0 (little 4 x ++ little 4 y) J 8 l (omega arith)
    ∙ ap (λ (z : Bytes). written 0 z xs) (append_assoc (little 4 x) (little 4 y) J)

pub fits_at : (order : Bool) (n count spans cells long room : ℕ) → order ≡ true → n ≤ count → cells_needed ≤ spans → cells_needed ≤ cells → fits order n count spans cells long room ≡ leb long room
fits_at order n count spans cells long room p q r s =
    ap (λ (t : Bool). cond t (cond (leb n count) (cond (leb cells_needed spans) (cond (leb cells_needed cells) (leb long room) false) false) false) false) p
    ∙ ap (λ (t : Bool). cond t (cond (leb cells_needed spans) (cond (leb cells_needed cells) (leb long room) false) false) false) (le-leb n count q)
    ∙ ap (λ (t : Bool). cond t (cond (leb cells_needed cells) (leb long room) false) false) (le-leb cells_needed spans r)
    ∙ ap (λ (t : Bool). cond t (leb long room) false) (le-leb cells_needed cells s)

-- the ranges beside a way have leaves, all of them among the tree's
within_push : (n : ℕ) (K : List Span) (s : Span) → Within n K → s.from < s.to → s.to ≤ n → Within n (K ++ (s ∷ []))
within_push n [] s v a b = (a, b, tt)
within_push n (t ∷ K) s v a b = (v.0, v.1, within_push n K s v.2 a b)

within_either : (n : ℕ) (t : Bool) (K H : List Span) → Within n K → Within n H → Within n (cond t K H)
within_either n true K H v u = v
within_either n false K H v u = u

path_within : (n : ℕ) (s : Shape) (a i : ℕ) → a + size s ≤ n → Within n (path span_of s a i)
path_within n tip a i h = tt
path_within n (fork l r) a i h =
    let p = size_pos l in
    let q = size_pos r in
    within_either n (ltb i (size l)) (path span_of l a i ++ (span_of (a + size l) r ∷ [])) (path span_of r (a + size l) (i - size l) ++ (span_of a l ∷ []))
    (within_push n (path span_of l a i) (span_of (a + size l) r) (path_within n l a i (omega arith)) (omega arith) (omega arith))
    (within_push n (path span_of r (a + size l) (i - size l)) (span_of a l) (path_within n r (a + size l) (i - size l) (omega arith)) (omega arith) (omega arith))

sub_within : (n : ℕ) (s : Shape) (a m : ℕ) (mark : Bool) → a + size s ≤ n → Within n (sub span_of s a m mark)
sub_within n tip a m mark h = within_either n mark [] (span_of a tip ∷ []) tt (omega arith, omega arith, tt)
sub_within n (fork l r) a m mark h =
    let p = size_pos l in
    let q = size_pos r in
    within_either n (eqb m (size l + size r)) (cond mark [] (span_of a (fork l r) ∷ []))
    (cond (leb m (size l)) (sub span_of l a m mark ++ (span_of (a + size l) r ∷ [])) (sub span_of r (a + size l) (m - size l) false ++ (span_of a l ∷ [])))
    (within_either n mark [] (span_of a (fork l r) ∷ []) tt (omega arith, omega arith, tt))
    (within_either n (leb m (size l)) (sub span_of l a m mark ++ (span_of (a + size l) r ∷ [])) (sub span_of r (a + size l) (m - size l) false ++ (span_of a l ∷ []))
    (within_push n (sub span_of l a m mark) (span_of (a + size l) r) (sub_within n l a m mark (omega arith)) (omega arith) (omega arith))
    (within_push n (sub span_of r (a + size l) (m - size l) false) (span_of a l) (sub_within n r (a + size l) (m - size l) false (omega arith)) (omega arith) (omega arith)))

some_leaf : (w : Way) → in_way w ≡ true → 1 ≤ way_leaves w
some_leaf (ToLeaf i n) e = let l = ltb-true i n (in_tree_order i n e).0 in omega arith
some_leaf (ToEnd m n) e =
    let o = in_link_order m n e in
    let z = leb-false m 0 o.0 in
    let l = leb-true m n o.1 in
    omega arith

pub way_most : (w : Way) → in_way w ≡ true → way_leaves w ≤ largest
way_most (ToLeaf i n) e = (in_tree_order i n e).1
way_most (ToEnd m n) e = (in_link_order m n e).2

pub way_within : (w : Way) → in_way w ≡ true → Within (way_leaves w) (way_spans w)
way_within (ToLeaf i n) e = path_within n (shape_of n) 0 i (omega (arith, size_shape_of n (some_leaf (ToLeaf i n) e)))
way_within (ToEnd m n) e = sub_within n (shape_of n) 0 m true (omega (arith, size_shape_of n (some_leaf (ToEnd m n) e)))

-- digest k of n, each of w bytes, behind 8 bytes; the digest and the j after it are those of a list behind ds
pub place : (ds all : List Span) (s : Span) (left : List Span) (k size w len room : ℕ) → ds ++ (s ∷ left) ≡ all → length ds ≡ k → size ≡ w → len ≡ length all → 8 + size * len ≤ room
    → 8 + k * size + w ≤ room
place ds all s left k size w len room e d z m h =
    let n : length ds + suc (length left) ≡ length all = omega (arith, sym (length-append ds (s ∷ left)) ∙ ap length e) in
    let more : length all ≡ suc k + length left = omega arith in
    let whole : size * len ≡ w * suc k + w * length left = ap₂ (λ (x y : ℕ). x * y) z (m ∙ more) ∙ mul-add w (suc k) (length left) in
    let here : k * size ≡ w * k = ap (λ (x : ℕ). k * x) z ∙ mul_comm k w in
    omega (arith, whole, mul-suc w k, here)

-- what is written for a way whose ranges are xs, where there is room
module _ (f : Hashing) (leaves : List Bytes) (w : Way) (spans cells k room : ℕ) (xs : List Span) (is : Some xs ≡ beside w spans) (many : k ≡ length xs)
    (top : way_leaves w ≤ length leaves) (enough : cells_needed ≤ cells) (fit : 8 + f.width * k ≤ room) where
  there : in_way w ≡ true
  there = (all_there f.width spans 0 w xs is).0

  all : xs ≡ way_spans w
  all = (all_there f.width spans 0 w xs is).1

  pub sized : 8 + f.width * k ≡ way_size f.width w
  sized = ap (λ (j : ℕ). 8 + f.width * j) (many ∙ ap length all)

  pub fits_all : way_fits f.width w (length leaves) spans cells room ≡ true
  fits_all =
      fits_at (in_way w) (way_leaves w) (length leaves) spans cells (way_size f.width w) room there top (leb-true cells_needed spans (all_there f.width spans 0 w xs is).2) enough
      ∙ le-leb (way_size f.width w) room (omega (arith, sized))

  digests : (v : Way) → in_way v ≡ true → flat_map (span_digest f leaves) (way_spans v) ≡ flat_map (λ d. d) (way_digests f leaves v)
  digests (ToLeaf i n) e = path_digests f leaves i n (some_leaf (ToLeaf i n) e)
  digests (ToEnd m n) e = link_digests f leaves m n (some_leaf (ToEnd m n) e)

  pub digests_all : flat_map (span_digest f leaves) xs ≡ flat_map (λ d. d) (way_digests f leaves w)
  digests_all = ap (flat_map (span_digest f leaves)) all ∙ digests w there
