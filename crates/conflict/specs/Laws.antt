-- What is promised of the conflict calls, for every compression. Assumes nothing.
use Rattle.std.specs.Prelude.{◌≡◌, ℕ, ◌+◌, ◌*◌, ◌≤◌, ◌⊎◌, length, Ok, Err}
use Rattle.hash.specs.Hash.{Hashing, hash_of, longest}
use Rattle.hash.specs.Collisions.{Bytes, Input, Collides}
use Rattle.roots.specs.Roots.{cells_needed}
use Rattle.refusal.specs.Refusals.{Answer}
use Rattle.refusal.specs.declared.Refusal.{Refusal}
use Rattle.refusal.specs.declared.Refusal.TheVariants.{EqualMessages, EqualPapers}
use Rattle.record.specs.Frames.{AllBytes}
use Rattle.record.specs.Records.{Proof, Link, collision, spelled, read_one, proof_in, link_in}
use Rattle.checks.specs.Checks.{check_proof_answer, check_link_answer, check_collision_answer}
use Rattle.conflict.specs.Conflicts.{conflict_messages_answer, conflict_proofs_answer, conflict_links_answer}

-- how many bytes the record of a collision has
abbrev pub collision_size : Hashing → ℕ
collision_size c = 4 + 2 * (c.width + 16)

module _ (c : Hashing) where
  -- a conflict call refuses as equal exactly what is equal, and otherwise writes two inputs of the compression that collide
  abbrev pub Exactly : Answer Bytes → Refusal → Type 0 → Type 0
  Exactly a equal Same =
      (Same × (a ≡ Err equal)) ⊎ ((Same → ⊥) × ((x y : Input) × Collides c x y × (a ≡ Ok (spelled (collision x y)))))

  -- two messages of one digest, with room for a collision
  abbrev pub MessagesExact : Type 0
  MessagesExact = (out : ℕ) (x y : Bytes) → collision_size c ≤ out → length x ≤ longest → length y ≤ longest → hash_of c x ≡ hash_of c y →
      Exactly (conflict_messages_answer c out x y) EqualMessages (x ≡ y)

  -- two proofs that are accepted for one index and one head, each with its entry; the check may be given other cells than the call
  abbrev pub ProofsExact : Type 0
  ProofsExact = (cells out given : ℕ) (b e d e' d' : Bytes) (p p' : Proof) → cells_needed ≤ cells → collision_size c ≤ out → AllBytes d → AllBytes d' →
      check_proof_answer c given b e d ≡ Ok tt → check_proof_answer c given b e' d' ≡ Ok tt →
      read_one c.width 3 proof_in d ≡ Ok p → read_one c.width 3 proof_in d' ≡ Ok p' → p.index ≡ p'.index →
      Exactly (conflict_proofs_answer c cells out b e d e' d') EqualPapers ((e ≡ e') × (d ≡ d'))

  -- two links that are accepted from one old size to one new head, each with its old head; the same of cells
  abbrev pub LinksExact : Type 0
  LinksExact = (cells out given : ℕ) (b d b' d' g : Bytes) (l l' : Link) → cells_needed ≤ cells → collision_size c ≤ out →
      AllBytes b → AllBytes b' → AllBytes d → AllBytes d' →
      check_link_answer c given b g d ≡ Ok tt → check_link_answer c given b' g d' ≡ Ok tt →
      read_one c.width 3 link_in d ≡ Ok l → read_one c.width 3 link_in d' ≡ Ok l' → l.old ≡ l'.old →
      Exactly (conflict_links_answer c cells out b d b' d' g) EqualPapers ((b ≡ b') × (d ≡ d'))

  -- what a conflict call writes, whatever it was given, passes the check of collisions
  abbrev pub MessagesWritten : Type 0
  MessagesWritten = (out : ℕ) (x y r : Bytes) → conflict_messages_answer c out x y ≡ Ok r → check_collision_answer c r ≡ Ok tt

  abbrev pub ProofsWritten : Type 0
  ProofsWritten = (cells out : ℕ) (b e d e' d' r : Bytes) → conflict_proofs_answer c cells out b e d e' d' ≡ Ok r → check_collision_answer c r ≡ Ok tt

  abbrev pub LinksWritten : Type 0
  LinksWritten = (cells out : ℕ) (b d b' d' g r : Bytes) → conflict_links_answer c cells out b d b' d' g ≡ Ok r → check_collision_answer c r ≡ Ok tt
