-- Where two paths of one leaf, or two links of the same sizes, part on the way from the root down. Assumes nothing.
use Rattle.std.specs.Prelude.{ℕ, cond, List, [], ◌∷◌, reverse, length, Some, None, Option}
use Rattle.std.specs.Str.{bytes_eq}
use Rattle.hash.specs.Hash.{Hashing, cut}
use Rattle.hash.specs.Collisions.{Bytes}
use Rattle.tree.specs.Digests.{node_message}
use Rattle.tree.specs.Links.{link_turns, kept, base, above}
use Rattle.tree.specs.Messages.{messages}
use Rattle.tree.specs.Spans.{path_spans, link_spans}
use Rattle.tree.specs.declared.ways.Way.{Way}
use Rattle.tree.specs.Ways.{way_spans, way_turns, way_kept}
use Rattle.tree.specs.Tree.{Turn, turns, shape_of}
use Rattle.paths.specs.Rebuilds.{way_reads, path_reads, link_reads}
use Rattle.paths.specs.declared.apart.Node.{Node}
use Rattle.paths.specs.declared.apart.Apart.{Apart}

-- the message of a node that the code has
abbrev pub node_of : {D : Type 0} → (D → Bytes) → Node D → Bytes
node_of bytes n = node_message (bytes n.left) (bytes n.right)

-- two messages that differ, as the code has them: of nodes, or those that differ below the nodes
abbrev pub apart_of : {D : Type 0} → (D → Bytes) → Option (Bytes × Bytes) → Option (Apart D) → Option (Bytes × Bytes)
apart_of bytes below None = below
apart_of bytes below (Some a) = Some (node_of bytes a.first, node_of bytes a.second)

-- two messages, if they differ, or what is found below them
abbrev pub first_apart : Bytes → Bytes → Option (Bytes × Bytes) → Option (Bytes × Bytes)
first_apart x y o = cond (bytes_eq x y) o (Some (x, y))

-- the first pair of two lists of messages that differs, or what is found below them
abbrev pub parting_or : List Bytes → List Bytes → Option (Bytes × Bytes) → Option (Bytes × Bytes)
parting_or [] ys o = o
parting_or (x ∷ xs) [] o = o
parting_or (x ∷ xs) (y ∷ ys) o = first_apart x y (parting_or xs ys o)

-- the topmost node messages that differ on two ways over the same turns, or what is found below them
abbrev pub ways_part : Hashing → List Turn → Bytes → List Bytes → Bytes → List Bytes → Option (Bytes × Bytes) → Option (Bytes × Bytes)
ways_part f ts d ps d' ps' = parting_or (messages f ts d ps []) (messages f ts d' ps' [])

-- the same of two papers of one way, each with a digest to start from, where both read
abbrev pub way_part : Hashing → Way → ℕ → Bytes → Bytes → Bytes → Bytes → Option (Bytes × Bytes) → Option (Option (Bytes × Bytes))
way_part f way cells d paper d' paper' o =
    let digests = λ (p : Bytes). cut f.width (length (way_spans way)) p in
    let from = λ (d p : Bytes). base (way_kept way) d (digests p) in
    let beside = λ (p : Bytes). reverse (above (way_kept way) (digests p)) in
    cond (way_reads f.width way cells (length paper))
    (cond (way_reads f.width way cells (length paper')) (Some (ways_part f (way_turns way) (from d paper) (beside paper) (from d' paper') (beside paper') o)) None) None

-- the same of two paths of leaf i among n over two digests, where both paths read
abbrev pub paths_part : Hashing → ℕ → ℕ → ℕ → Bytes → Bytes → Bytes → Bytes → Option (Bytes × Bytes) → Option (Option (Bytes × Bytes))
paths_part f i n cells d path d' path' o =
    let digests = λ (p : Bytes). reverse (cut f.width (length (path_spans i n)) p) in
    cond (path_reads f.width i n cells (length path))
    (cond (path_reads f.width i n cells (length path')) (Some (ways_part f (turns (shape_of n) i) d (digests path) d' (digests path') o)) None) None

-- the same of two links from m to n, each with its old root, where both links read
abbrev pub links_part : Hashing → ℕ → ℕ → ℕ → Bytes → Bytes → Bytes → Bytes → Option (Option (Bytes × Bytes))
links_part f m n cells old link old' link' =
    let ts = link_turns (shape_of n) m in
    let digests = λ (p : Bytes). cut f.width (length (link_spans m n)) p in
    let from = λ (d p : Bytes). base (kept ts) d (digests p) in
    let beside = λ (p : Bytes). reverse (above (kept ts) (digests p)) in
    cond (link_reads f.width m n cells (length link))
    (cond (link_reads f.width m n cells (length link')) (Some (ways_part f ts (from old link) (beside link) (from old' link') (beside link') None)) None) None
