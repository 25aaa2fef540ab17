-- What the bytes of a proof or a link that was read rebuild, and what the digest of an entry tells of it. Assumes nothing.
use Rattle.std.proofs.Common.{◌≡◌, ℕ, ◌*◌, ◌/◌, ◌≤◌, Bool, true, false, cond, ◌&&◌, leb, length, Some, None, Ok, Err, sym, refl, ap, ◌∙◌}
use Rattle.std.specs.Str.{bytes_eq}
use Rattle.hash.specs.Hash.{Hashing, cut}
use Rattle.hash.specs.Collisions.{Bytes}
use Rattle.hash.proofs.Padded.{length_cut}
use Rattle.tree.specs.Digests.{leaf_digest, rebuilt, rebuilt_old, rebuilt_new}
use Rattle.tree.specs.Entries.{longest_entry, leaf_answer}
use Rattle.tree.specs.Spans.{span_of, path_spans, link_spans}
use Rattle.tree.specs.Tree.{shape_of}
use Rattle.tree.proofs.Lengths.{length_path}
use Rattle.roots.specs.Roots.{cells_needed}
use Rattle.paths.specs.Rebuilds.{path_reads, link_reads, path_root, link_roots}
use Rattle.paths.proofs.Readings.{path_reads_holds, link_reads_holds}
use Rattle.refusal.specs.Refusals.{Answer, must, ◌>>◌}
use Rattle.refusal.specs.declared.Refusal.{Refusal}
use Rattle.refusal.specs.declared.Refusal.TheVariants.{TooLong}
use Rattle.refusal.proofs.Doing.{not_both, ok_same}
use Rattle.record.specs.Records.{proof, link, WellFormed}
use Rattle.record.specs.Views.{digests_in, WholeDigests}
use Rattle.record.proofs.Numbers.{proof_fits, link_fits_holds}
use Rattle.checks.specs.Rebuilding.{root_is, roots_are}
use Rattle.checks.specs.Checks.{entry_fits}

-- a check that was refused ends the row
pub stopped : {Y : Type 0} {a : Answer (Unit {0})} {r : Refusal} (y : Answer Y) → a ≡ Err r → a >> y ≡ Err r
stopped y e = ap (λ t. t >> y) e

-- the digest of an entry's leaf, and a refusal of the entry
pub leaf_ok : (f : Hashing) (i : ℕ) (e d : Bytes) → Ok d ≡ leaf_answer f i e → (leb (length e) longest_entry ≡ true) × (d ≡ leaf_digest f e)
leaf_ok f i e d h = go (leb (length e) longest_entry) h
  where
    go : (b : Bool) → Ok d ≡ must b (TooLong i) >> Ok (leaf_digest f e) → (b ≡ true) × (d ≡ leaf_digest f e)
    go true k = (refl, ok_same k)
    go false k = absurd (not_both (sym k))

pub leaf_err : (f : Hashing) (i : ℕ) (e : Bytes) (r : Refusal) → Err r ≡ leaf_answer f i e → entry_fits i e ≡ Err r
leaf_err f i e r h = go (leb (length e) longest_entry) h
  where
    go : (b : Bool) → Err r ≡ must b (TooLong i) >> Ok (leaf_digest f e) → must b (TooLong i) ≡ Err r
    go true k = absurd (not_both k)
    go false k = let z : TooLong i ≡ r = cc in ap Err z

module _ (f : Hashing) (cells : ℕ) (enough : cells_needed ≤ cells) where
  abbrev w : ℕ
  w = f.width

  -- the path of a well formed proof reads, and rebuilds the root of its digests
  module _ (x n : ℕ) (path : Bytes) (well : WellFormed w (proof (record { index = x; size = n; path = digests_in w path }))) (whole : WholeDigests w path) where
    pub path_count_holds : length path / w ≡ length (path_spans x n)
    path_count_holds = sym (length_cut w (length path / w) path) ∙ (proof_fits (record { index = x; size = n; path = digests_in w path }) well.1).2 ∙ sym (length_path span_of (shape_of n) 0 x)

    pub path_fits_holds : length path ≡ w * length (path_spans x n)
    path_fits_holds = whole ∙ ap (λ (k : ℕ). w * k) path_count_holds

    pub path_read : path_reads w x n cells (length path) ≡ true
    path_read = let a = proof_fits (record { index = x; size = n; path = digests_in w path }) well.1 in path_reads_holds w x n cells (length path) a.0 a.1 enough path_fits_holds

    pub path_root_is : (leaf root : Bytes) → root_is (path_root f x n cells leaf path) root ≡ bytes_eq (rebuilt f x n leaf (digests_in w path)) root
    path_root_is leaf root =
        ap (λ (t : Bool). root_is (cond t (Some (rebuilt f x n leaf (cut w (length (path_spans x n)) path))) None) root) path_read
        ∙ ap (λ (k : ℕ). bytes_eq (rebuilt f x n leaf (cut w k path)) root) (sym path_count_holds)

  -- the same for a well formed link
  module _ (m n : ℕ) (digests : Bytes) (well : WellFormed w (link (record { old = m; new = n; digests = digests_in w digests }))) (whole : WholeDigests w digests) where
    pub link_count_holds : length digests / w ≡ length (link_spans m n)
    link_count_holds = sym (length_cut w (length digests / w) digests) ∙ (link_fits_holds (record { old = m; new = n; digests = digests_in w digests }) well.1).3

    pub link_whole : length digests ≡ w * length (link_spans m n)
    link_whole = whole ∙ ap (λ (k : ℕ). w * k) link_count_holds

    pub link_read : link_reads w m n cells (length digests) ≡ true
    link_read = let a = link_fits_holds (record { old = m; new = n; digests = digests_in w digests }) well.1 in link_reads_holds w m n cells (length digests) a.0 a.1 a.2 enough link_whole

    pub link_roots_are : (old new : Bytes) → roots_are (link_roots f m n cells old digests) old new ≡
        (bytes_eq (rebuilt_old f m n old (digests_in w digests)) old && bytes_eq (rebuilt_new f m n old (digests_in w digests)) new)
    link_roots_are old new =
        ap (λ (t : Bool). roots_are (cond t (Some (rebuilt_old f m n old (cut w (length (link_spans m n)) digests), rebuilt_new f m n old (cut w (length (link_spans m n)) digests))) None) old new) link_read
        ∙ ap (λ (k : ℕ). bytes_eq (rebuilt_old f m n old (cut w k digests)) old && bytes_eq (rebuilt_new f m n old (cut w k digests)) new) (sym link_count_holds)
