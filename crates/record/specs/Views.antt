-- What the records of the code say, in the words of the definitions. Assumes nothing.
use Rattle.std.specs.Prelude.{◌≡◌, ℕ, ◌*◌, ◌/◌, Bool, List, length, Ok, Err, Result}
use Rattle.cipher.specs.Blocks.{block_bytes}
use Rattle.hash.specs.Hash.{cut}
use Rattle.hash.specs.Collisions.{Bytes, Input}
use Rattle.refusal.specs.Refusals.{Answer, must, ◌>>◌}
use Rattle.refusal.specs.declared.Refusal.TheVariants.{ImpossibleLength, ImpossibleNumbers}
use Rattle.refusal.specs.declared.Refusal.{Refusal}
use Rattle.refusal.specs.declared.Site.{Site}
use Rattle.record.specs.declared.records.Record.{Record as LentRecord}
use Rattle.record.specs.declared.records.Record.TheVariants.{Leaf, Head, Proof, Link, Entry, Collision}
use Rattle.record.specs.declared.records.Proof.{Proof as LentProof}
use Rattle.record.specs.declared.records.Link.{Link as LentLink}
use Rattle.record.specs.declared.records.InputBytes.{InputBytes}
use Rattle.record.specs.declared.heads.Head.{Head as WordHead}
use Rattle.record.specs.declared.collisions.Input.{Input as WordInput}
use Rattle.record.specs.declared.collisions.Collision.{Collision as WordCollision}
use Rattle.record.specs.Records as records

-- as many digests of w bytes as some bytes have
abbrev pub digests_in : ℕ → Bytes → List Bytes
digests_in w bs = cut w (length bs / w) bs

-- these bytes are whole digests, and none are left over
abbrev pub WholeDigests : ℕ → Bytes → Type 0
WholeDigests w bs = length bs ≡ w * (length bs / w)

-- the proof that the code has
abbrev pub proof_of : ℕ → LentProof → records.Proof
proof_of w p = record { index = p.index; size = p.size; path = digests_in w p.path.now }

-- the link that the code has
abbrev pub link_of : ℕ → LentLink → records.Link
link_of w l = record { old = l.old; new = l.new; digests = digests_in w l.digests.now }

-- the input of the compression that the code has as bytes
abbrev pub input_in : InputBytes → Input
input_in x = (x.h.now, x.m.now)

-- the record that the code has, with digests of w bytes
abbrev pub record_of : ℕ → LentRecord → records.Record
record_of w (Leaf d) = records.leaf d.now
record_of w (Head n r) = records.head (record { size = n; root = r.now })
record_of w (Proof p) = records.proof (proof_of w p)
record_of w (Link l) = records.link (link_of w l)
record_of w (Entry e) = records.entry e.now
record_of w (Collision x y) = records.collision (input_in x) (input_in y)

-- the digests of a proof or a link that the code has are whole
abbrev pub Whole : ℕ → LentRecord → Type 0
Whole w (Leaf d) = Unit {0}
Whole w (Head n r) = Unit {0}
Whole w (Proof p) = WholeDigests w p.path.now
Whole w (Link l) = WholeDigests w l.digests.now
Whole w (Entry e) = Unit {0}
Whole w (Collision x y) = Unit {0}

-- the head that the code has as words, whose bytes are given
abbrev pub head_of : {D : Type 0} → (D → Bytes) → WordHead D → records.Head
head_of bytes h = record { size = h.size; root = bytes h.root }

-- the input of the compression that the code has as words
abbrev pub input_of : {D : Type 0} → (D → Bytes) → WordInput D → Input
input_of bytes x = (bytes x.h, block_bytes x.m)

-- the collision that the code has as words
abbrev pub collision_of : {D : Type 0} → (D → Bytes) → WordCollision D → Input × Input
collision_of bytes c = (input_of bytes c.first, input_of bytes c.second)

-- a payload by the row of its kind, in a record at a place
abbrev pub parsed : Site → (ℕ → Bool) × (Bytes → records.Record) → Bytes → Answer records.Record
parsed s row bs = do
  must (row.0 (length bs)) (ImpossibleLength s)
  must (records.numbers_fit (row.1 bs)) (ImpossibleNumbers s)
  Ok (row.1 bs)

-- the answer of a reader that stands at place q after it
abbrev pub answer_of : ℕ → Result LentRecord Refusal → ℕ → Answer (records.Record × ℕ)
answer_of w (Ok r) q = Ok (record_of w r, q)
answer_of w (Err e) q = Err e

-- where a reader that stood at place p stands after an answer: past the record, or where it stood
abbrev pub place_after : ℕ → Answer (records.Record × ℕ) → ℕ
place_after p (Ok x) = x.1
place_after p (Err e) = p
