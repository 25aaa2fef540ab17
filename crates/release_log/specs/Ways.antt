-- What prove and link answer, of a way down the tree. Assumes nothing.
use Rattle.std.specs.Prelude.{ℕ, ◌&&◌, List, length, nat_le}
use Rattle.hash.specs.Hash.{Hashing}
use Rattle.hash.specs.Collisions.{Bytes}
use Rattle.tree.specs.declared.ways.Way.{Way}
use Rattle.tree.specs.declared.ways.Way.TheVariants.{ToLeaf, ToEnd}
use Rattle.tree.specs.Ways.{in_way, way_leaves}
use Rattle.refusal.specs.Refusals.{Answer, must, ◌>>◌}
use Rattle.refusal.specs.declared.Refusal.TheVariants.{MadeOverLeaves, ImpossibleRequest}
use Rattle.record.specs.Records.{Record, proof, link, spelled}
use Rattle.release_log.specs.Buffers.{enough, fitting}
use Rattle.release_log.specs.Logs.{LogState, proof_over, link_over}

-- the number of the kind of its record: a proof or a link
abbrev pub way_kind : Way → ℕ
way_kind (ToLeaf i n) = 3
way_kind (ToEnd m n) = 4

module _ (c : Hashing) where
  -- the proof of leaf i among n, or the link from m to n, over the leaves of a log
  abbrev pub way_record : List Bytes → Way → Record
  way_record leaves (ToLeaf i n) = proof (proof_over c leaves i n)
  way_record leaves (ToEnd m n) = link (link_over c leaves m n)

  -- the record written at the front of an output of so many bytes
  abbrev pub way_answer : LogState → ℕ → ℕ → Way → Answer Bytes
  way_answer l cells out w = do
    must l.opened MadeOverLeaves
    enough cells
    must (in_way w && nat_le (way_leaves w) (length l.leaves)) ImpossibleRequest
    fitting out (spelled (way_record l.leaves w))
