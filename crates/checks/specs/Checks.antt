-- What the checks of proofs, links and collisions answer. Assumes nothing.
use Rattle.std.specs.Prelude.{ℕ, Bool, not, ◌&&◌, length, ◌==◌, nat_le}
use Rattle.std.specs.Str.{bytes_eq}
use Rattle.hash.specs.Hash.{Hashing}
use Rattle.hash.specs.Collisions.{Bytes, Input, same_input}
use Rattle.tree.specs.Digests.{leaf_digest, rebuilt, rebuilt_old, rebuilt_new}
use Rattle.tree.specs.Entries.{longest_entry}
use Rattle.refusal.specs.Refusals.{site, Answer, must, ◌>>=◌, ◌>>◌}
use Rattle.refusal.specs.declared.Refusal.TheVariants.{OtherNumbers, WrongRoot, NoCollision, TooLong}
use Rattle.record.specs.Records.{Head, Proof, Link, read_one, head_in, proof_in, link_in, collision_in}
use Rattle.release_log.specs.Buffers.{enough}

-- input i is an entry
abbrev pub entry_fits : ℕ → Bytes → Answer (Unit {0})
entry_fits i e = must (nat_le (length e) longest_entry) (TooLong i)

-- the sizes of a link are those of its heads
abbrev pub between : Head → Head → Link → Bool
between g h l = l.old == g.size && l.new == h.size

module _ (c : Hashing) where
  -- the path of a proof rebuilds the root of a head over an entry's leaf
  abbrev pub proves : Head → Bytes → Proof → Bool
  proves h e p = bytes_eq (rebuilt c p.index p.size (leaf_digest c e) p.path) h.root

  -- a link rebuilds the roots of both heads
  abbrev pub leads : Head → Head → Link → Bool
  leads g h l =
      bytes_eq (rebuilt_old c l.old l.new g.root l.digests) g.root
      && bytes_eq (rebuilt_new c l.old l.new g.root l.digests) h.root

  -- two inputs of the compression differ and have one output
  abbrev pub collide : Input → Input → Bool
  collide x y = not (same_input x y) && bytes_eq (c.out x.0 x.1) (c.out y.0 y.1)

  -- check proof: a head, an entry, a proof; so many stack cells are lent
  abbrev pub check_proof_answer : ℕ → Bytes → Bytes → Bytes → Answer (Unit {0})
  check_proof_answer cells head entry proof = do
    enough cells
    h ← read_one c.width 1 head_in head
    entry_fits 2 entry
    p ← read_one c.width 3 proof_in proof
    must (p.size == h.size) (OtherNumbers (site 3 0))
    must (proves h entry p) (WrongRoot (site 3 0))

  -- check link: an old head, a new head, a link
  abbrev pub check_link_answer : ℕ → Bytes → Bytes → Bytes → Answer (Unit {0})
  check_link_answer cells old new link = do
    enough cells
    g ← read_one c.width 1 head_in old
    h ← read_one c.width 2 head_in new
    l ← read_one c.width 3 link_in link
    must (between g h l) (OtherNumbers (site 3 0))
    must (leads g h l) (WrongRoot (site 3 0))

  -- check collision: a collision
  abbrev pub check_collision_answer : Bytes → Answer (Unit {0})
  check_collision_answer collision = do
    q ← read_one c.width 1 collision_in collision
    must (collide q.0 q.1) (NoCollision 1)
