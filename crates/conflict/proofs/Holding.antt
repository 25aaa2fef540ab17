-- What is known of two papers of one kind that were accepted. Assumes nothing.
use Rattle.std.proofs.Common.{◌≡◌, ℕ, ◌/◌, ◌≤◌, Bool, true, cond, ◌&&◌, eqb, leb, length, None, Ok, Err, Option, sym, refl, ap, ◌∙◌, subst, ap₂}
use Rattle.std.specs.Option.{ok_or}
use Rattle.std.proofs.lemmas.Bool.{leb-true, eqb-true}
use Rattle.hash.specs.Hash.{Hashing, cut}
use Rattle.hash.specs.Collisions.{Bytes, Input}
use Rattle.tree.specs.Entries.{longest_entry}
use Rattle.tree.specs.Messages.{proof_messages, link_messages}
use Rattle.tree.specs.Spans.{path_spans, link_spans}
use Rattle.roots.specs.Roots.{cells_needed}
use Rattle.paths.specs.Rebuilds.{path_reads, link_reads}
use Rattle.refusal.specs.Refusals.{site, Answer, ◌>>=◌}
use Rattle.refusal.specs.declared.Refusal.{Refusal}
use Rattle.refusal.specs.declared.Refusal.TheVariants.{OtherNumbers, WrongRoot, TooLong, TooFewCells}
use Rattle.refusal.proofs.Doing.{not_both, bind_ok, must_ok, ok_same, and_left, and_right}
use Rattle.record.specs.Records.{Head, Proof, Link, proof, link, read_one, head_in, proof_in, link_in, WellFormed}
use Rattle.record.specs.Views.{digests_in, WholeDigests}
use Rattle.checks.specs.Checks.{between, proves, leads}
use Rattle.checks.proofs.Roots.{path_read, path_count_holds, link_read, link_count_holds}
use Rattle.checks.proofs.Single.{head_read, proof_read}
use Rattle.checks.proofs.Single as single
use Rattle.conflict.specs.Apart.{conflict_of}
use Rattle.conflict.specs.Conflicts.{two_proofs, proofs_conflict, two_links, links_conflict}
use Rattle.conflict.specs.Pairs.{proofs_pair, links_pair}
use Rattle.conflict.specs.Two.{roots_of_links}

-- two proofs that were accepted for one index under a head
pub record ProofsHold (c : Hashing) (e e' : Bytes) (h : Head) (p p' : Proof) : Type 0 where
  pub small : leb (length e) longest_entry ≡ true
  pub small' : leb (length e') longest_entry ≡ true
  pub well : WellFormed c.width (proof p)
  pub well' : WellFormed c.width (proof p')
  pub size : p.size ≡ h.size
  pub size' : p'.size ≡ h.size
  pub index : p'.index ≡ p.index
  pub passes : proves c h e p ≡ true
  pub passes' : proves c h e' p' ≡ true

-- two links that were accepted from old heads of one size to a new one
pub record LinksHold (c : Hashing) (g g' h : Head) (l l' : Link) : Type 0 where
  pub wide : length g.root ≡ c.width
  pub wide' : length g'.root ≡ c.width
  pub well : WellFormed c.width (link l)
  pub well' : WellFormed c.width (link l')
  pub meets : between g h l ≡ true
  pub meets' : between g' h l' ≡ true
  pub olds : l'.old ≡ l.old
  pub passes : leads c g h l ≡ true
  pub passes' : leads c g' h l' ≡ true

-- the refusal of a value that was missing
pub none_err : {X : Type 0} {o : Option X} (r e : Refusal) → ◌≡◌ {A = Answer X} (Err e) (ok_or o r) → o ≡ None → e ≡ r
none_err {X} r e v n = let z : ◌≡◌ {A = Answer X} (Err e) (Err r) = v ∙ ap (λ (o : Option X). ok_or o r) n in cc

-- what follows from the value that was read
from_bind : {X Y Z : Type 0} (a : Answer X) (g : X → Answer Y) (y : Y) → a >>= g ≡ Ok y → ((x : X) → a ≡ Ok x → g x ≡ Ok y → Z) → Z
from_bind a g y e k = let b = bind_ok a g y e in k b.0 b.1 b.2

module _ (c : Hashing) (cells : ℕ) where
  abbrev w : ℕ
  w = c.width

  pub proofs_hold : (b e d e' d' : Bytes) (t : Proof × Proof) → two_proofs c cells b e d e' d' ≡ Ok t → (cells_needed ≤ cells) × ((h : Head) × ProofsHold c e e' h t.0 t.1)
  proofs_hold b e d e' d' t q =
      let m₁ = must_ok (leb cells_needed cells) TooFewCells _ t q in
      from_bind (read_one w 1 head_in b) _ t m₁.1
      (λ h eh q₁.
      let m₂ = must_ok (leb (length e) longest_entry) (TooLong 2) _ t q₁ in
      from_bind (read_one w 3 proof_in d) _ t m₂.1
      (λ p ep q₂.
      let m₃ = must_ok (leb (length e') longest_entry) (TooLong 4) _ t q₂ in
      from_bind (read_one w 5 proof_in d') _ t m₃.1
      (λ p' ep' q₃.
      let m₄ = must_ok (eqb p.size h.size) (OtherNumbers (site 3 0)) _ t q₃ in
      let m₅ = must_ok (eqb p'.size h.size && eqb p'.index p.index) (OtherNumbers (site 5 0)) _ t m₄.1 in
      let m₆ = must_ok (proves c h e p) (WrongRoot (site 3 0)) _ t m₅.1 in
      let m₇ = must_ok (proves c h e' p') (WrongRoot (site 5 0)) _ t m₆.1 in (
        leb-true cells_needed cells m₁.0,
        (
          h,
          subst (λ (z : Proof × Proof). ProofsHold c e e' h z.0 z.1) (ok_same m₇.1)
              (record {
                small = m₂.0;
                small' = m₃.0;
                well = (proof_read w 3 d p ep).0;
                well' = (proof_read w 5 d' p' ep').0;
                size = eqb-true p.size h.size m₄.0;
                size' = eqb-true p'.size h.size (and_left (eqb p'.size h.size) _ m₅.0);
                index = eqb-true p'.index p.index (and_right (eqb p'.size h.size) _ m₅.0);
                passes = m₆.0;
                passes' = m₇.0;
              }),
        ),
      ))))

  pub links_hold : (b d b' d' n : Bytes) (t : (Head × Link) × (Head × Link)) → two_links c cells b d b' d' n ≡ Ok t →
      (cells_needed ≤ cells) × ((h : Head) × LinksHold c t.0.0 t.1.0 h t.0.1 t.1.1)
  links_hold b d b' d' n t q =
      let m₁ = must_ok (leb cells_needed cells) TooFewCells _ t q in
      from_bind (read_one w 1 head_in b) _ t m₁.1
      (λ g eg q₁. from_bind (read_one w 2 link_in d) _ t q₁
      (λ l el q₂. from_bind (read_one w 3 head_in b') _ t q₂
      (λ g' eg' q₃. from_bind (read_one w 4 link_in d') _ t q₃
      (λ l' el' q₄. from_bind (read_one w 5 head_in n) _ t q₄
      (λ h eh q₅.
      let m₂ = must_ok (between g h l) (OtherNumbers (site 2 0)) _ t q₅ in
      let m₃ = must_ok (between g' h l' && eqb l'.old l.old) (OtherNumbers (site 4 0)) _ t m₂.1 in
      let m₄ = must_ok (leads c g h l) (WrongRoot (site 2 0)) _ t m₃.1 in
      let m₅ = must_ok (leads c g' h l') (WrongRoot (site 4 0)) _ t m₄.1 in (
        leb-true cells_needed cells m₁.0,
        (
          h,
          subst (λ (z : (Head × Link) × (Head × Link)). LinksHold c z.0.0 z.1.0 h z.0.1 z.1.1) (ok_same m₅.1)
              (record {
                wide = (head_read w 1 b g eg).0.0;
                wide' = (head_read w 3 b' g' eg').0.0;
                well = (single.link_read w 2 d l el).0;
                well' = (single.link_read w 4 d' l' el').0;
                meets = m₂.0;
                meets' = and_left (between g' h l') _ m₃.0;
                olds = eqb-true l'.old l.old (and_right (between g' h l') _ m₃.0);
                passes = m₄.0;
                passes' = m₅.0;
              }),
        ),
      ))))))

-- the pair that the code finds behind two such papers is their conflict
module _ (c : Hashing) (cells : ℕ) (enough : cells_needed ≤ cells) where
  all_true : (s t u : Bool) (x : Option (Input × Input)) → s ≡ true → t ≡ true → u ≡ true → cond s (cond t (cond u x None) None) None ≡ x
  all_true s t u x p q r = (λ i. cond (p i) (cond (q i) (cond (r i) x None) None) None)

  pub proofs_pair_holds : (e e' : Bytes) (h : Head) (i n i' n' : ℕ) (path path' : Bytes) →
      ProofsHold c e e' h (record { index = i; size = n; path = digests_in c.width path }) (record { index = i'; size = n'; path = digests_in c.width path' }) →
      WholeDigests c.width path → WholeDigests c.width path' →
      proofs_pair c i n cells e path e' path' ≡ proofs_conflict c e (record { index = i; size = n; path = digests_in c.width path }) e' (record { index = i'; size = n'; path = digests_in c.width path' })
  proofs_pair_holds e e' h i n i' n' path path' k whole whole' =
      let w = c.width in
      let same : (i' ≡ i) × (n' ≡ n) = (k.index, k.size' ∙ sym k.size) in
      let count = path_count_holds c cells enough i n path k.well whole in
      let count' : length path' / w ≡ length (path_spans i n) = path_count_holds c cells enough i' n' path' k.well' whole' ∙ ap₂ (λ (x y : ℕ). length (path_spans x y)) same.0 same.1 in
      let reads' : path_reads w i n cells (length path') ≡ true = sym (ap₂ (λ (x y : ℕ). path_reads w x y cells (length path')) same.0 same.1) ∙ path_read c cells enough i' n' path' k.well' whole' in
      ap₂ (λ (s t : Bool). cond (s && t) (cond (path_reads w i n cells (length path)) (cond (path_reads w i n cells (length path'))
      (conflict_of c (proof_messages c i n e (cut w (length (path_spans i n)) path)) (proof_messages c i n e' (cut w (length (path_spans i n)) path'))) None) None) None) k.small k.small'
      ∙ all_true true (path_reads w i n cells (length path)) (path_reads w i n cells (length path')) _ refl (path_read c cells enough i n path k.well whole) reads'
      ∙ ap₂ (λ (x y : ℕ). conflict_of c (proof_messages c i n e (cut w x path)) (proof_messages c i n e' (cut w y path'))) (sym count) (sym count')

  pub links_pair_holds : (g g' h : Head) (m n m' n' : ℕ) (ds ds' : Bytes) →
      LinksHold c g g' h (record { old = m; new = n; digests = digests_in c.width ds }) (record { old = m'; new = n'; digests = digests_in c.width ds' }) →
      WholeDigests c.width ds → WholeDigests c.width ds' →
      links_pair c m n cells g.root ds g'.root ds' ≡ links_conflict c g (record { old = m; new = n; digests = digests_in c.width ds }) g' (record { old = m'; new = n'; digests = digests_in c.width ds' })
  links_pair_holds g g' h m n m' n' ds ds' k whole whole' =
      let w = c.width in
      let news : n' ≡ n = eqb-true n' h.size (and_right (eqb m' g'.size) _ k.meets') ∙ sym (eqb-true n h.size (and_right (eqb m g.size) _ k.meets)) in
      let count = link_count_holds c cells enough m n ds k.well whole in
      let count' : length ds' / w ≡ length (link_spans m n) = link_count_holds c cells enough m' n' ds' k.well' whole' ∙ ap₂ (λ (x y : ℕ). length (link_spans x y)) k.olds news in
      let reads' : link_reads w m n cells (length ds') ≡ true = sym (ap₂ (λ (x y : ℕ). link_reads w x y cells (length ds')) k.olds news) ∙ link_read c cells enough m' n' ds' k.well' whole' in
      all_true true (link_reads w m n cells (length ds)) (link_reads w m n cells (length ds')) _ refl (link_read c cells enough m n ds k.well whole) reads'
      ∙ ap₂ (λ (x y : ℕ). conflict_of c (link_messages c m n g.root (cut w x ds)) (link_messages c m n g'.root (cut w y ds'))) (sym count) (sym count')

-- the old heads behind the old roots
pub roots_ok : (a : Answer ((Head × Link) × (Head × Link))) (x : (Bytes × Link) × (Bytes × Link)) → Ok x ≡ roots_of_links a →
    (t : (Head × Link) × (Head × Link)) × (a ≡ Ok t) × (x ≡ ((t.0.0.root, t.0.1), (t.1.0.root, t.1.1)))
roots_ok (Ok t) x e = (t, refl, ok_same e)
roots_ok (Err r) x e = absurd (not_both (sym e))

pub roots_err : (a : Answer ((Head × Link) × (Head × Link))) (r : Refusal) → Err r ≡ roots_of_links a → a ≡ Err r
roots_err (Ok t) r e = absurd (not_both e)
roots_err (Err q) r e = let z : q ≡ r = cc in ap Err z
