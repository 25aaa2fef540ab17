-- What the conflict calls answer: the record of a collision, or a refusal. Assumes nothing.
use Rattle.std.specs.Prelude.{ℕ, not, ◌&&◌, length, Ok, Option, ◌==◌, nat_le}
use Rattle.std.specs.Str.{bytes_eq}
use Rattle.hash.specs.Hash.{Hashing, hash_of, longest}
use Rattle.hash.specs.Collisions.{Bytes, Input, inputs_apart}
use Rattle.refusal.specs.Refusals.{site, Answer, must, given, ◌>>=◌, ◌>>◌}
use Rattle.refusal.specs.declared.Refusal.{Refusal}
use Rattle.refusal.specs.declared.Refusal.TheVariants.{OtherNumbers, WrongRoot, TooLong, EqualMessages, UnequalDigests, EqualPapers}
use Rattle.record.specs.Records.{Head, Proof, Link, collision, spelled, read_one, head_in, proof_in, link_in}
use Rattle.release_log.specs.Buffers.{enough, fitting}
use Rattle.checks.specs.Checks.{entry_fits, between, proves, leads}
use Rattle.tree.specs.Messages.{proof_messages, link_messages}
use Rattle.conflict.specs.Apart.{conflict_of}

-- the record of a pair of inputs for an output of so many bytes; `same` where there is no pair
abbrev pub pair_for : ℕ → Refusal → Option (Input × Input) → Answer Bytes
pair_for out same o = do
  q ← given o same
  fitting out (spelled (collision q.0 q.1))

module _ (c : Hashing) where
  -- conflict messages: two messages of one digest; an output of so many bytes is lent
  abbrev pub conflict_messages_answer : ℕ → Bytes → Bytes → Answer Bytes
  conflict_messages_answer out x y = do
    must (nat_le (length x) longest) (TooLong 1)
    must (nat_le (length y) longest) (TooLong 2)
    must (not (bytes_eq x y)) EqualMessages
    must (bytes_eq (hash_of c x) (hash_of c y)) UnequalDigests
    pair_for out EqualMessages (inputs_apart c x y)

  -- two proofs, each with its entry, that are accepted for one index under one head
  abbrev pub two_proofs : ℕ → Bytes → Bytes → Bytes → Bytes → Bytes → Answer (Proof × Proof)
  two_proofs cells head entry proof entry' proof' = do
    enough cells
    h ← read_one c.width 1 head_in head
    entry_fits 2 entry
    p ← read_one c.width 3 proof_in proof
    entry_fits 4 entry'
    p' ← read_one c.width 5 proof_in proof'
    must (p.size == h.size) (OtherNumbers (site 3 0))
    must (p'.size == h.size && p'.index == p.index) (OtherNumbers (site 5 0))
    must (proves c h entry p) (WrongRoot (site 3 0))
    must (proves c h entry' p') (WrongRoot (site 5 0))
    Ok (p, p')

  -- the messages of two such proofs part
  abbrev pub proofs_conflict : Bytes → Proof → Bytes → Proof → Option (Input × Input)
  proofs_conflict entry p entry' p' = conflict_of c (proof_messages c p.index p.size entry p.path) (proof_messages c p.index p.size entry' p'.path)

  -- conflict proofs: a head, and two entries, each with a proof of one index under it; so many stack cells are lent
  abbrev pub conflict_proofs_answer : ℕ → ℕ → Bytes → Bytes → Bytes → Bytes → Bytes → Answer Bytes
  conflict_proofs_answer cells out head entry proof entry' proof' = do
    t ← two_proofs cells head entry proof entry' proof'
    must (not (bytes_eq entry entry' && bytes_eq proof proof')) EqualPapers
    pair_for out EqualPapers (proofs_conflict entry t.0 entry' t.1)

  -- two links, each with its old head, that are accepted between the same sizes to one new head
  abbrev pub two_links : ℕ → Bytes → Bytes → Bytes → Bytes → Bytes → Answer ((Head × Link) × (Head × Link))
  two_links cells old link old' link' new = do
    enough cells
    g ← read_one c.width 1 head_in old
    l ← read_one c.width 2 link_in link
    g' ← read_one c.width 3 head_in old'
    l' ← read_one c.width 4 link_in link'
    h ← read_one c.width 5 head_in new
    must (between g h l) (OtherNumbers (site 2 0))
    must (between g' h l' && l'.old == l.old) (OtherNumbers (site 4 0))
    must (leads c g h l) (WrongRoot (site 2 0))
    must (leads c g' h l') (WrongRoot (site 4 0))
    Ok ((g, l), (g', l'))

  -- the messages of two such links part, the old root counting as part of the link
  abbrev pub links_conflict : Head → Link → Head → Link → Option (Input × Input)
  links_conflict g l g' l' = conflict_of c (link_messages c l.old l.new g.root l.digests) (link_messages c l.old l.new g'.root l'.digests)

  -- conflict links: two old heads of one size, each with a link from it to one new head
  abbrev pub conflict_links_answer : ℕ → ℕ → Bytes → Bytes → Bytes → Bytes → Bytes → Answer Bytes
  conflict_links_answer cells out old link old' link' new = do
    t ← two_links cells old link old' link' new
    must (not (bytes_eq old old' && bytes_eq link link')) EqualPapers
    pair_for out EqualPapers (links_conflict t.0.0 t.0.1 t.1.0 t.1.1)
