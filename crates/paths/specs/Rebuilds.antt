-- Roots rebuilt from the bytes of the digests of a path or a link. Assumes nothing.
use Rattle.std.specs.Prelude.{ℕ, ◌*◌, Bool, false, cond, length, Some, None, Option, ◌==◌, nat_le}
use Rattle.hash.specs.Hash.{Hashing, cut}
use Rattle.hash.specs.Collisions.{Bytes}
use Rattle.tree.specs.Digests.{rebuilt, rebuilt_old, rebuilt_new}
use Rattle.tree.specs.Spans.{path_spans, link_spans}
use Rattle.tree.specs.declared.ways.Way.{Way}
use Rattle.tree.specs.declared.ways.Way.TheVariants.{ToLeaf, ToEnd}
use Rattle.tree.specs.Ways.{in_way, way_spans}
use Rattle.roots.specs.Roots.{cells_needed}
use Rattle.paths.specs.declared.rebuild.Roots.{Roots}

-- such a way, cells enough, and as many digests of w bytes as it has ranges beside it
abbrev pub way_reads : ℕ → Way → ℕ → ℕ → Bool
way_reads w way cells long = cond (in_way way) (cond (nat_le cells_needed cells) (long == w * length (way_spans way)) false) false

-- that of the path of leaf i among n, and of the link from m to n
abbrev pub path_reads : ℕ → ℕ → ℕ → ℕ → ℕ → Bool
path_reads w i n = way_reads w (ToLeaf i n)

abbrev pub link_reads : ℕ → ℕ → ℕ → ℕ → ℕ → Bool
link_reads w m n = way_reads w (ToEnd m n)

-- the root that the path of leaf i among n rebuilds over the leaf's digest, where the path reads
abbrev pub path_root : Hashing → ℕ → ℕ → ℕ → Bytes → Bytes → Option Bytes
path_root f i n cells leaf path =
    cond (path_reads f.width i n cells (length path)) (Some (rebuilt f i n leaf (cut f.width (length (path_spans i n)) path))) None

-- the old and the new root that the link from m to n rebuilds from the claimed old root, where the link reads
abbrev pub link_roots : Hashing → ℕ → ℕ → ℕ → Bytes → Bytes → Option (Bytes × Bytes)
link_roots f m n cells old link =
    cond (link_reads f.width m n cells (length link))
    (Some (rebuilt_old f m n old (cut f.width (length (link_spans m n)) link), rebuilt_new f m n old (cut f.width (length (link_spans m n)) link))) None

-- the bytes of two roots
abbrev pub root_bytes : {D : Type 0} → (D → Bytes) → Roots D → Bytes × Bytes
root_bytes bytes r = (bytes r.old, bytes r.new)
