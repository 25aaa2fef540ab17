-- What the log's answers are where every check is passed but perhaps the last, and how a record is put together in an output.
-- Assumes nothing.
use Rattle.std.proofs.Common.{◌≡◌, ℕ, ◌+◌, ◌-◌, ◌*◌, ◌≤◌, Bool, true, false, cond, ◌&&◌, leb, List, [], ◌++◌, length, take, drop, Some, None, sym, refl, ap, ◌∙◌, append_assoc, append-nil, arith, length-append, length-drop, le-leb}
use Rattle.std.proofs.lemmas.Bool.Decides.{nat_tests}
use borrow.Rule.Slice.PartMut.{put_mid}
use Rattle.std.proofs.lemmas.List.{take_at, drop_at, drop-drop, drop_all, take_rest}
use Rattle.cipher.specs.Bytes.{little, written, stored}
use Rattle.cipher.proofs.Littles.{length_little}
use Rattle.cipher.proofs.Pieces.{stored_there}
use Rattle.hash.specs.Hash.{Hashing}
use Rattle.hash.specs.Collisions.{Bytes}
use Rattle.hash.specs.Widths.{Sized}
use Rattle.tree.specs.Digests.{Digests, node_digest, root_at, path_of, link_of}
use Rattle.tree.specs.Tree.{shape_of, part_by}
use Rattle.tree.specs.Spans.{largest, in_tree, in_link, span_of, path_spans, link_spans}
use Rattle.tree.specs.declared.ways.Way.{Way}
use Rattle.tree.specs.declared.ways.Way.TheVariants.{ToLeaf, ToEnd}
use Rattle.tree.specs.Ways.{in_way, way_leaves, way_spans}
use Rattle.tree.proofs.Shapes.{size_shape_of}
use Rattle.tree.proofs.Widths.{digests_path, digests_sub, length_joined}
use Rattle.tree.proofs.Lengths.{length_path}
use Rattle.tree.proofs.Linking.{length_link}
use Rattle.roots.specs.Roots.{in_range, root_between, range_root}
use Rattle.refusal.specs.Refusals.{must, ◌>>◌}
use Rattle.refusal.specs.declared.Refusal.TheVariants.{MadeOverLeaves, ImpossibleRequest, TooFewCells}
use Rattle.paths.specs.Payloads.{fits, way_payload}
use Rattle.record.specs.Frames.{framed, frame_of}
use Rattle.record.specs.Records.{Head, head, proof, link, spelled, flat}
use Rattle.refusal.proofs.Doing.{none_some, some_same, through, and_true}
use Rattle.record.proofs.Framing.{length_framed}
use Rattle.release_log.specs.Buffers.{enough, fitting}
use Rattle.release_log.specs.Ways.{way_kind, way_record}
use Rattle.release_log.specs.Logs.{LogState, head_over, proof_over, link_over, head_answer}

-- a header and then a payload written behind it are the record at the front
pub behind_header : (header payload out new part : Bytes) → length header ≡ 4 → 4 + length payload ≤ length out →
    new ≡ written 0 header out → part ≡ written 0 payload (drop 4 new) → take 4 new ++ part ≡ written 0 (header ++ payload) out
behind_header header payload out new part h l e f =
    let rest : Bytes = drop (0 + length header) out in
    let z : 0 + length header ≡ 4 = omega arith in
    let y : 0 + length payload ≡ length payload = omega arith in
    let k : 4 + length payload ≡ 0 + length (header ++ payload) = omega (arith, length-append header payload) in
    let back : drop 4 new ≡ drop 4 out = ap (drop 4) e ∙ drop_at header rest 4 h ∙ ap (λ (i : ℕ). drop i out) z in
    let front : take 4 new ≡ header = ap (take 4) e ∙ take_at header rest 4 h in
    let tail : drop (0 + length payload) (drop 4 out) ≡ drop (0 + length (header ++ payload)) out =
    ap (λ (i : ℕ). drop i (drop 4 out)) y ∙ drop-drop (length payload) 4 out ∙ ap (λ (i : ℕ). drop i out) k in
    ap (λ (x : Bytes). x ++ part) front
    ∙ ap (λ (x : Bytes). header ++ x) (f ∙ ap (written 0 payload) back)
    ∙ ap (λ (x : Bytes). header ++ (payload ++ x)) tail
    ∙ sym (append_assoc header payload (drop (0 + length (header ++ payload)) out))

-- the same for a record whose header was stored and whose payload was written through a part of the output
pub recorded : (kind size : ℕ) (pay out new part final : Bytes) → size ≡ length pay → 4 + size ≤ length out → length new ≡ length out →
    new ≡ stored 0 (little 2 size ++ little 2 kind) out → part ≡ written 0 pay (take (length new - 4) (drop 4 new)) →
    final ≡ put_mid 4 (length new - 4) new part → final ≡ written 0 (framed (frame_of kind pay)) out
recorded kind size pay out new part final p h same e f q =
    let header : Bytes = little 2 size ++ little 2 kind in
    let four : length header ≡ 4 = length-append (little 2 size) (little 2 kind) ∙ omega (arith, length_little 2 size, length_little 2 kind) in
    let new_is : new ≡ written 0 header out = e ∙ stored_there 0 header out (omega arith) in
    let part-is : part ≡ written 0 pay (drop 4 new) = f ∙ ap (written 0 pay) (take_rest new 4) in
    let rest : drop (length new - 4) (drop 4 new) ≡ [] = drop_all (length new - 4) (drop 4 new) (omega (arith, length-drop 4 new)) in
    q
    ∙ ap (λ (x : Bytes). take 4 new ++ (part ++ x)) rest
    ∙ ap (λ (x : Bytes). take 4 new ++ x) (append-nil part)
    ∙ behind_header header pay out new part four (omega arith) new_is part-is
    ∙ ap (λ (x : Bytes). written 0 x out) (append_assoc (little 2 size) (little 2 kind) pay ∙ ap (λ (k : ℕ). little 2 k ++ (little 2 kind ++ pay)) p)

-- what is known of a path or a link that has so many digests
pub counted : (t : Bool) (d k : ℕ) → Some d ≡ cond t (Some k) None → (t ≡ true) × (d ≡ k)
counted true d k e = (refl, some_same e)
counted false d k e = absurd (none_some (sym e))

pub tree_some : (i n : ℕ) → in_tree i n ≡ true → 1 ≤ n
tree_some i n e = grind (arith, nat_tests)

pub link_some : (m n : ℕ) → in_link m n ≡ true → 1 ≤ n
link_some m n e = grind (arith, nat_tests)

-- a payload that can be written
pub fits_true : (order : Bool) (n count spans cells size room : ℕ) → order ≡ true → n ≤ count → 21 ≤ spans → 21 ≤ cells → size ≤ room → fits order n count spans cells size room ≡ true
fits_true order n count spans cells size room a b d e h =
    ap (λ (t : Bool). cond t (cond (leb n count) (cond (leb 21 spans) (cond (leb 21 cells) (leb size room) false) false) false) false) a
    ∙ ap (λ (t : Bool). cond t (cond (leb 21 spans) (cond (leb 21 cells) (leb size room) false) false) false) (le-leb n count b)
    ∙ ap (λ (t : Bool). cond t (cond (leb 21 cells) (leb size room) false) false) (le-leb 21 spans d)
    ∙ ap (λ (t : Bool). cond t (leb size room) false) (le-leb 21 cells e)
    ∙ le-leb size room h

module _ (f : Hashing) (l : LogState) (cells out n : ℕ) (started : l.opened ≡ true) (some : 21 ≤ cells) where
  pub head_checked : 1 ≤ n → n ≤ largest → n ≤ length l.leaves → head_answer f l cells out n ≡ fitting out (spelled (head (head_over f l.leaves n)))
  head_checked a b d =
      through MadeOverLeaves _ started ∙ through TooFewCells _ (le-leb 21 cells some)
      ∙ through ImpossibleRequest _ (and_true (le-leb 1 n a) (and_true (le-leb n largest b) (le-leb n (length l.leaves) d)))

  -- prove and link: a request for r over n leaves whose numbers are in order
  pub asked_checked : (order : Bool) (r : Bytes) → order ≡ true → n ≤ length l.leaves →
      (must l.opened MadeOverLeaves >> (enough cells >> (must (order && leb n (length l.leaves)) ImpossibleRequest >> fitting out r))) ≡ fitting out r
  asked_checked order r a d =
      through MadeOverLeaves _ started ∙ through TooFewCells _ (le-leb 21 cells some)
      ∙ through ImpossibleRequest _ (and_true a (le-leb n (length l.leaves) d))

-- what is known where a root over the first n leaves was found
in_range_holds : (n count cells : ℕ) → in_range 0 n count cells ≡ true → (1 ≤ n) × (n ≤ count) × (n - 0 ≤ largest)
in_range_holds n count cells e = (grind (arith, nat_tests), grind (arith, nat_tests), grind (arith, nat_tests))

pub root_found : (f : Hashing) (leaves : List Bytes) (n cells : ℕ) (b : Bytes) → Some b ≡ range_root f leaves 0 n cells →
    (1 ≤ n) × (n ≤ length leaves) × (n ≤ largest) × (b ≡ root_at f leaves n)
root_found f leaves n cells b e = go (in_range 0 n (length leaves) cells) refl e
  where
    go : (t : Bool) → in_range 0 n (length leaves) cells ≡ t → Some b ≡ cond t (Some (root_between f leaves 0 n)) None →
        (1 ≤ n) × (n ≤ length leaves) × (n ≤ largest) × (b ≡ root_at f leaves n)
    go true h k =
        let r = in_range_holds n (length leaves) cells h in
        let z : n - 0 ≡ n = omega arith in
        (r.0, r.1, omega (arith, r.2), some_same k ∙ ap (root_at f leaves) z)
    go false h k = absurd (none_some (sym k))

-- two numbers and digests, as a payload
length_numbered : (x y w : ℕ) (ps : List Bytes) → Digests w ps → length (little 4 x ++ (little 4 y ++ flat ps)) ≡ 8 + w * length ps
length_numbered x y w ps d =
    length-append (little 4 x) (little 4 y ++ flat ps)
    ∙ omega (arith, length-append (little 4 y) (flat ps), length_little 4 x, length_little 4 y, length_joined w ps d)

module _ (f : Hashing) (sized : Sized f) (leaves : List Bytes) (wide : Digests f.width leaves) where
  pub length_proof : (i n : ℕ) → 1 ≤ n → n ≤ length leaves → length (spelled (proof (proof_over f leaves i n))) ≡ 12 + f.width * length (path_spans i n)
  length_proof i n a b =
      let d : Digests f.width (path_of f leaves i n) = digests_path f sized leaves wide (shape_of n) 0 i (omega (arith, size_shape_of n a, b)) in
      let e : length (path_of f leaves i n) ≡ length (path_spans i n) = length_path (part_by (node_digest f) [] leaves) (shape_of n) 0 i ∙ sym (length_path span_of (shape_of n) 0 i) in
      length_framed _ ∙ omega (arith, length_numbered i n f.width (path_of f leaves i n) d, ap (λ (k : ℕ). f.width * k) e)

  pub length_linked : (m n : ℕ) → 1 ≤ n → n ≤ length leaves → length (spelled (link (link_over f leaves m n))) ≡ 12 + f.width * length (link_spans m n)
  length_linked m n a b =
      let d : Digests f.width (link_of f leaves m n) = digests_sub f sized leaves wide (shape_of n) 0 m true (omega (arith, size_shape_of n a, b)) in
      let e : length (link_of f leaves m n) ≡ length (link_spans m n) = length_link (part_by (node_digest f) [] leaves) (shape_of n) 0 m ∙ sym (length_link span_of (shape_of n) 0 m) in
      length_framed _ ∙ omega (arith, length_numbered m n f.width (link_of f leaves m n) d, ap (λ (k : ℕ). f.width * k) e)

  -- the same of a way
  pub length_way : (w : Way) → in_way w ≡ true → way_leaves w ≤ length leaves → length (spelled (way_record f leaves w)) ≡ 12 + f.width * length (way_spans w)
  length_way (ToLeaf i n) a b = length_proof i n (tree_some i n a) b
  length_way (ToEnd m n) a b = length_linked m n (link_some m n a) b

-- its record is framed
pub way_framed : (f : Hashing) (leaves : List Bytes) (w : Way) → spelled (way_record f leaves w) ≡ framed (frame_of (way_kind w) (way_payload f leaves w))
way_framed f leaves (ToLeaf i n) = refl
way_framed f leaves (ToEnd m n) = refl

pub length_head : (h : Head) → length (spelled (head h)) ≡ 8 + length h.root
length_head h = length_framed _ ∙ omega (arith, length-append (little 4 h.size) h.root, length_little 4 h.size)
