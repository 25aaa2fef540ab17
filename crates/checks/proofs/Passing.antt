-- The checks accept what a log writes, under its heads. Assumes nothing.
use Rattle.std.proofs.Common.{◌≡◌, ℕ, ◌<◌, ◌≤◌, true, ◌&&◌, leb, List, length, Ok, sym, refl, ap, ◌∙◌, arith}
use Rattle.std.proofs.lemmas.Bool.{leb-true, le-leb, eq-eqb}
use Rattle.std.proofs.lemmas.Bool.Decides.{nat_tests}
use Rattle.hash.specs.Hash.{Hashing}
use Rattle.hash.specs.Collisions.{Bytes}
use Rattle.hash.specs.Widths.{Sized}
use Rattle.tree.specs.Digests.{Digests}
use Rattle.tree.specs.Entries.{longest_entry}
use Rattle.tree.specs.Spans.{largest, in_tree, in_link}
use Rattle.tree.proofs.Widths.{length_root}
use Rattle.roots.specs.Roots.{cells_needed}
use Rattle.refusal.specs.Refusals.{site}
use Rattle.refusal.specs.declared.Refusal.TheVariants.{MadeOverLeaves, ImpossibleRequest, OtherNumbers, WrongRoot, TooLong, TooFewCells, OutputShort}
use Rattle.refusal.proofs.Doing.{must_ok, ok_same, through, bound, passed, and_true, and_left, and_right}
use Rattle.record.specs.Records.{head, proof, link, spelled, head_in, proof_in, link_in, read_one, WellFormed}
use Rattle.record.proofs.Numbers.{fits_head, fits_proof, fits_link}
use Rattle.record.proofs.Spelling.{reads_one}
use Rattle.release_log.specs.Logs.{LogState, head_over, proof_over, link_over, head_answer, prove_answer, link_answer}
use Rattle.checks.specs.Laws.{ProofsPass, LinksPass}
use Rattle.checks.proofs.Accepted.{so_proves, so_leads, made_proves, made_leads}

in_tree_holds : (i n : ℕ) → in_tree i n ≡ true → (i < n) × (n ≤ largest)
in_tree_holds i n e = (grind (arith, nat_tests), grind (arith, nat_tests))

in_link_holds : (m n : ℕ) → in_link m n ≡ true → (1 ≤ m) × (m ≤ n) × (n ≤ largest)
in_link_holds m n e = (grind (arith, nat_tests), grind (arith, nat_tests), grind (arith, nat_tests))

module _ (c : Hashing) (l : LogState) (cells out : ℕ) (b : Bytes) where
  abbrev ls : List Bytes
  ls = l.leaves

  -- what a log wrote, and under which numbers
  head_wrote : (n : ℕ) → head_answer c l cells out n ≡ Ok b → (1 ≤ n) × (n ≤ largest) × (n ≤ length ls) × (b ≡ spelled (head (head_over c ls n)))
  head_wrote n q =
      let m₁ = must_ok l.opened MadeOverLeaves _ b q in
      let m₂ = must_ok (leb cells_needed cells) TooFewCells _ b m₁.1 in
      let m₃ = must_ok (leb 1 n && (leb n largest && leb n (length ls))) ImpossibleRequest _ b m₂.1 in
      let m₄ = must_ok (leb (length (spelled (head (head_over c ls n)))) out) OutputShort _ b m₃.1 in
      let r = and_right (leb 1 n) _ m₃.0 in
      (leb-true 1 n (and_left (leb 1 n) _ m₃.0), leb-true n largest (and_left (leb n largest) _ r), leb-true n (length ls) (and_right (leb n largest) _ r), sym (ok_same m₄.1))

  proof_wrote : (i n : ℕ) → prove_answer c l cells out i n ≡ Ok b → (i < n) × (n ≤ largest) × (n ≤ length ls) × (b ≡ spelled (proof (proof_over c ls i n)))
  proof_wrote i n q =
      let m₁ = must_ok l.opened MadeOverLeaves _ b q in
      let m₂ = must_ok (leb cells_needed cells) TooFewCells _ b m₁.1 in
      let m₃ = must_ok (in_tree i n && leb n (length ls)) ImpossibleRequest _ b m₂.1 in
      let m₄ = must_ok (leb (length (spelled (proof (proof_over c ls i n)))) out) OutputShort _ b m₃.1 in
      let r = in_tree_holds i n (and_left (in_tree i n) _ m₃.0) in
      (r.0, r.1, leb-true n (length ls) (and_right (in_tree i n) _ m₃.0), sym (ok_same m₄.1))

  link_wrote : (m n : ℕ) → link_answer c l cells out m n ≡ Ok b → (1 ≤ m) × (m ≤ n) × (n ≤ largest) × (n ≤ length ls) × (b ≡ spelled (link (link_over c ls m n)))
  link_wrote m n q =
      let m₁ = must_ok l.opened MadeOverLeaves _ b q in
      let m₂ = must_ok (leb cells_needed cells) TooFewCells _ b m₁.1 in
      let m₃ = must_ok (in_link m n && leb n (length ls)) ImpossibleRequest _ b m₂.1 in
      let m₄ = must_ok (leb (length (spelled (link (link_over c ls m n)))) out) OutputShort _ b m₃.1 in
      let r = in_link_holds m n (and_left (in_link m n) _ m₃.0) in
      (r.0, r.1, r.2, leb-true n (length ls) (and_right (in_link m n) _ m₃.0), sym (ok_same m₄.1))

module _ (c : Hashing) (sized : Sized c) where
  -- a head that a log wrote is read
  head_back : (ls : List Bytes) → Digests c.width ls → (j n : ℕ) (b : Bytes) → 1 ≤ n → n ≤ largest → n ≤ length ls → b ≡ spelled (head (head_over c ls n)) →
      read_one c.width j head_in b ≡ Ok (head_over c ls n)
  head_back ls d j n b some few there e =
      let wf : WellFormed c.width (head (head_over c ls n)) = (length_root c sized ls d n some there, fits_head (head_over c ls n) (some, few)) in
      ap (read_one c.width j head_in) e ∙ reads_one c.width sized.least sized.most j head_in (head (head_over c ls n)) (head_over c ls n) wf refl

  pub proofs_pass : ProofsPass c
  proofs_pass l cells out cells' out' i n h e p d q r leaf small given enough =
      let ls = l.leaves in
      let a = head_wrote c l cells out h n q in
      let b = proof_wrote c l cells' out' p i n r in
      let k = made_proves c sized ls d i n e b.0 b.2 small leaf in
      let wf : WellFormed c.width (proof (proof_over c ls i n)) = (k.digests, fits_proof (proof_over c ls i n) (b.0, b.1, k.count)) in
      let read : read_one c.width 3 proof_in p ≡ Ok (proof_over c ls i n) =
      ap (read_one c.width 3 proof_in) b.3 ∙ reads_one c.width sized.least sized.most 3 proof_in (proof (proof_over c ls i n)) (proof_over c ls i n) wf refl in
      through TooFewCells _ (le-leb cells_needed given enough)
      ∙ bound _ (head_back ls d 1 n h a.0 a.1 a.2 a.3)
      ∙ through (TooLong 2) _ (le-leb (length e) longest_entry small)
      ∙ bound _ read
      ∙ through (OtherNumbers (site 3 0)) _ (eq-eqb n n refl)
      ∙ passed (WrongRoot (site 3 0)) (so_proves c (head_over c ls n) e (proof_over c ls i n) refl k)

  pub links_pass : LinksPass c
  links_pass l cells out cells' out' cells'' out'' m n g h d wide q r s given enough =
      let ls = l.leaves in
      let a = head_wrote c l cells out g m q in
      let b = head_wrote c l cells' out' h n r in
      let f = link_wrote c l cells'' out'' d m n s in
      let k = made_leads c sized ls wide m n f.0 f.1 f.3 in
      let wf : WellFormed c.width (link (link_over c ls m n)) = (k.digests, fits_link (link_over c ls m n) (f.0, f.1, f.2, k.count)) in
      let read : read_one c.width 3 link_in d ≡ Ok (link_over c ls m n) =
      ap (read_one c.width 3 link_in) f.4 ∙ reads_one c.width sized.least sized.most 3 link_in (link (link_over c ls m n)) (link_over c ls m n) wf refl in
      through TooFewCells _ (le-leb cells_needed given enough)
      ∙ bound _ (head_back ls wide 1 m g a.0 a.1 a.2 a.3)
      ∙ bound _ (head_back ls wide 2 n h b.0 b.1 b.2 b.3)
      ∙ bound _ read
      ∙ through (OtherNumbers (site 3 0)) _ (and_true (eq-eqb m m refl) (eq-eqb n n refl))
      ∙ passed (WrongRoot (site 3 0)) (so_leads c (head_over c ls m) (head_over c ls n) (link_over c ls m n) k)
