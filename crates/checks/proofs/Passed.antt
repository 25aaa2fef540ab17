-- What an accepted proof and an accepted link met. Assumes nothing.
use Rattle.std.proofs.Common.{◌≡◌, ℕ, ◌≤◌, true, eqb, leb, length, Ok, sym, ◌∙◌, subst}
use Rattle.std.proofs.lemmas.Bool.{leb-true, eqb-true}
use Rattle.hash.specs.Hash.{Hashing}
use Rattle.hash.specs.Collisions.{Bytes}
use Rattle.tree.specs.Entries.{longest_entry}
use Rattle.roots.specs.Roots.{cells_needed}
use Rattle.refusal.specs.Refusals.{site}
use Rattle.refusal.specs.declared.Refusal.TheVariants.{OtherNumbers, WrongRoot, TooLong, TooFewCells}
use Rattle.refusal.proofs.Doing.{bind_ok, must_ok, must_last, ok_same}
use Rattle.record.specs.Records.{Head, Proof, Link, read_one, head_in, proof_in, link_in}
use Rattle.checks.specs.Checks.{between, proves, leads, check_proof_answer, check_link_answer}

module _ (c : Hashing) where
  -- what an accepted proof met
  pub record Checked (e : Bytes) (h : Head) (p : Proof) : Type 0 where
    pub small : length e ≤ longest_entry
    pub sizes : p.size ≡ h.size
    pub passes : proves c h e p ≡ true

  pub checked : (cells : ℕ) (b e d : Bytes) (p : Proof) → read_one c.width 3 proof_in d ≡ Ok p → check_proof_answer c cells b e d ≡ Ok tt →
      (h : Head) × (read_one c.width 1 head_in b ≡ Ok h) × Checked e h p
  checked cells b e d p r q =
      let m₁ = must_ok (leb cells_needed cells) TooFewCells _ tt q in
      let m₂ = bind_ok (read_one c.width 1 head_in b) _ tt m₁.1 in
      let h = m₂.0 in
      let m₃ = must_ok (leb (length e) longest_entry) (TooLong 2) _ tt m₂.2 in
      let m₄ = bind_ok (read_one c.width 3 proof_in d) _ tt m₃.1 in
      let k = m₄.0 in
      let m₅ = must_ok (eqb k.size h.size) (OtherNumbers (site 3 0)) _ tt m₄.2 in (
        h,
        m₂.1,
        subst (λ (z : Proof). Checked e h z) (ok_same (sym m₄.1 ∙ r))
            (record { small = leb-true (length e) longest_entry m₃.0; sizes = eqb-true k.size h.size m₅.0; passes = must_last (proves c h e k) (WrongRoot (site 3 0)) m₅.1 }),
      )

  -- what an accepted link met
  pub record Led (g h : Head) (l : Link) : Type 0 where
    pub meets : between g h l ≡ true
    pub passes : leads c g h l ≡ true

  pub led : (cells : ℕ) (b n d : Bytes) (l : Link) → read_one c.width 3 link_in d ≡ Ok l → check_link_answer c cells b n d ≡ Ok tt →
      (g : Head) × (h : Head) × (read_one c.width 1 head_in b ≡ Ok g) × (read_one c.width 2 head_in n ≡ Ok h) × Led g h l
  led cells b n d l r q =
      let m₁ = must_ok (leb cells_needed cells) TooFewCells _ tt q in
      let m₂ = bind_ok (read_one c.width 1 head_in b) _ tt m₁.1 in
      let g = m₂.0 in
      let m₃ = bind_ok (read_one c.width 2 head_in n) _ tt m₂.2 in
      let h = m₃.0 in
      let m₄ = bind_ok (read_one c.width 3 link_in d) _ tt m₃.2 in
      let k = m₄.0 in
      let m₅ = must_ok (between g h k) (OtherNumbers (site 3 0)) _ tt m₄.2 in (
        g,
        h,
        m₂.1,
        m₃.1,
        subst (λ (z : Link). Led g h z) (ok_same (sym m₄.1 ∙ r))
            (record { meets = m₅.0; passes = must_last (leads c g h k) (WrongRoot (site 3 0)) m₅.1 }),
      )
