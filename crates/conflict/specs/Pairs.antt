-- The collision behind two paths of one leaf, or two links of the same sizes, as the code has them. Assumes nothing.
use Rattle.std.specs.Prelude.{ℕ, cond, ◌&&◌, length, None, Option, nat_le}
use Rattle.hash.specs.Hash.{Hashing, cut}
use Rattle.hash.specs.Collisions.{Bytes, Input}
use Rattle.tree.specs.Entries.{longest_entry}
use Rattle.tree.specs.Messages.{proof_messages, link_messages}
use Rattle.tree.specs.Spans.{path_spans, link_spans}
use Rattle.paths.specs.Rebuilds.{path_reads, link_reads}
use Rattle.conflict.specs.Apart.{conflict_of}

-- the conflict of two entries, each with a path of leaf i among n, where the entries are not too long and the paths read
abbrev pub proofs_pair : Hashing → ℕ → ℕ → ℕ → Bytes → Bytes → Bytes → Bytes → Option (Input × Input)
proofs_pair f i n cells e path e' path' =
    let digests = λ (p : Bytes). cut f.width (length (path_spans i n)) p in
    cond (nat_le (length e) longest_entry && nat_le (length e') longest_entry)
    (cond (path_reads f.width i n cells (length path))
    (cond (path_reads f.width i n cells (length path')) (conflict_of f (proof_messages f i n e (digests path)) (proof_messages f i n e' (digests path'))) None) None) None

-- the conflict of two old roots, each with a link from m to n, where the links read
abbrev pub links_pair : Hashing → ℕ → ℕ → ℕ → Bytes → Bytes → Bytes → Bytes → Option (Input × Input)
links_pair f m n cells old link old' link' =
    let digests = λ (p : Bytes). cut f.width (length (link_spans m n)) p in
    cond (link_reads f.width m n cells (length link))
    (cond (link_reads f.width m n cells (length link')) (conflict_of f (link_messages f m n old (digests link)) (link_messages f m n old' (digests link'))) None) None
