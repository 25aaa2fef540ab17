-- What the numbers of a record are held to, as facts. Assumes nothing.
use Rattle.std.proofs.Common.{◌≡◌, ◌<◌, ◌≤◌, Bool, true, false, ◌&&◌, eqb, ltb, leb, length, refl}
use Rattle.std.proofs.lemmas.Bool.{eqb-true, leb-true, ltb-true, eq-eqb, le-leb, lt-ltb, both_ways}
use Rattle.tree.specs.Tree.{shape_of, turns}
use Rattle.tree.specs.Spans.{largest, link_spans}
use Rattle.record.specs.Records.{Head, Proof, Link, head, proof, link, numbers_fit}
use Rattle.refusal.proofs.Doing.{and_true, and_left, and_right}

when_true : (b x : Bool) → (elim b as (λ _. Bool) [ false ↦ false | true ↦ x ]) ≡ true → (b ≡ true) × (x ≡ true)
when_true true x e = (refl, e)
when_true false x e = absurd (both_ways false refl e)

true_when : (b x : Bool) → b ≡ true → x ≡ true → (elim b as (λ _. Bool) [ false ↦ false | true ↦ x ]) ≡ true
true_when true x p q = q
true_when false x p q = p

abbrev pub HeadFits : Head → Type 0
HeadFits h = (1 ≤ h.size) × (h.size ≤ largest)

abbrev pub ProofFits : Proof → Type 0
ProofFits p = (p.index < p.size) × (p.size ≤ largest) × (length p.path ≡ length (turns (shape_of p.size) p.index))

abbrev pub LinkFits : Link → Type 0
LinkFits l = (1 ≤ l.old) × (l.old ≤ l.new) × (l.new ≤ largest) × (length l.digests ≡ length (link_spans l.old l.new))

pub head_fits : (h : Head) → numbers_fit (head h) ≡ true → HeadFits h
head_fits h e =
    let a = leb 1 h.size in
    let b = leb h.size largest in
    (leb-true 1 h.size (and_left a b e), leb-true h.size largest (and_right a b e))

pub fits_head : (h : Head) → HeadFits h → numbers_fit (head h) ≡ true
fits_head h f = and_true (le-leb 1 h.size f.0) (le-leb h.size largest f.1)

pub proof_fits : (p : Proof) → numbers_fit (proof p) ≡ true → ProofFits p
proof_fits p e =
    let a = ltb p.index p.size in
    let b = leb p.size largest in
    let w = when_true (a && b) (eqb (length p.path) (length (turns (shape_of p.size) p.index))) e in
    (ltb-true p.index p.size (and_left a b w.0), leb-true p.size largest (and_right a b w.0), eqb-true (length p.path) (length (turns (shape_of p.size) p.index)) w.1)

pub fits_proof : (p : Proof) → ProofFits p → numbers_fit (proof p) ≡ true
fits_proof p f =
    true_when (ltb p.index p.size && leb p.size largest) (eqb (length p.path) (length (turns (shape_of p.size) p.index)))
    (and_true (lt-ltb p.index p.size f.0) (le-leb p.size largest f.1)) (eq-eqb (length p.path) (length (turns (shape_of p.size) p.index)) f.2)

pub link_fits_holds : (l : Link) → numbers_fit (link l) ≡ true → LinkFits l
link_fits_holds l e =
    let a = leb 1 l.old in
    let b = leb l.old l.new in
    let d = leb l.new largest in
    let w = when_true (a && (b && d)) (eqb (length l.digests) (length (link_spans l.old l.new))) e in
    let v = and_right a (b && d) w.0 in (
      leb-true 1 l.old (and_left a (b && d) w.0),
      leb-true l.old l.new (and_left b d v),
      leb-true l.new largest (and_right b d v),
      eqb-true (length l.digests) (length (link_spans l.old l.new)) w.1,
    )

pub fits_link : (l : Link) → LinkFits l → numbers_fit (link l) ≡ true
fits_link l f =
    true_when (leb 1 l.old && (leb l.old l.new && leb l.new largest)) (eqb (length l.digests) (length (link_spans l.old l.new)))
    (and_true (le-leb 1 l.old f.0) (and_true (le-leb l.old l.new f.1) (le-leb l.new largest f.2)))
    (eq-eqb (length l.digests) (length (link_spans l.old l.new)) f.3)
