-- Two accepted papers as the code has them, in the words of the definitions. Assumes nothing.
use Rattle.std.specs.Prelude.{ℕ, Ok, Err}
use Rattle.hash.specs.Collisions.{Bytes}
use Rattle.refusal.specs.Refusals.{Answer}
use Rattle.record.specs.Records.{Head, Proof, Link}
use Rattle.record.specs.Views.{proof_of, link_of}
use Rattle.conflict.specs.declared.two.TwoProofs.{TwoProofs}
use Rattle.conflict.specs.declared.two.TwoLinks.{TwoLinks}

-- two proofs
abbrev pub two_proofs_of : ℕ → TwoProofs → Proof × Proof
two_proofs_of w t = (proof_of w t.first, proof_of w t.second)

-- two links, each with its old root
abbrev pub two_links_of : {D : Type 0} → ℕ → (D → Bytes) → TwoLinks D → (Bytes × Link) × (Bytes × Link)
two_links_of w bytes t = ((bytes t.old, link_of w t.first), (bytes t.other_old, link_of w t.second))

-- the old roots in the place of the old heads
abbrev pub roots_of_links : Answer ((Head × Link) × (Head × Link)) → Answer ((Bytes × Link) × (Bytes × Link))
roots_of_links (Ok t) = Ok ((t.0.0.root, t.0.1), (t.1.0.root, t.1.1))
roots_of_links (Err r) = Err r
