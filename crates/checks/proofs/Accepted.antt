-- Accepted proofs and links as facts: from the tests, back to the tests, and of what is made from the leaves. Assumes nothing.
use Rattle.std.proofs.Common.{◌≡◌, ℕ, ◌<◌, ◌≤◌, true, eqb, List, [], length, get_or, sym, ap, ◌∙◌, subst, arith}
use Rattle.std.proofs.lemmas.Bool.{eqb-true}
use Rattle.std.proofs.lemmas.Slice.Eq.{bytes_eq-Decides}
use Rattle.std.specs.Str.{bytes_eq}
use Rattle.hash.specs.Hash.{Hashing}
use Rattle.hash.specs.Collisions.{Bytes}
use Rattle.hash.specs.Widths.{Sized}
use Rattle.tree.specs.Tree.{shape_of, turns, part_by}
use Rattle.tree.specs.Digests.{Digests, leaf_digest, node_digest, root_at, path_of, link_of, rebuilt, rebuilt_old, rebuilt_new}
use Rattle.tree.specs.Entries.{longest_entry}
use Rattle.tree.specs.Spans.{span_of, link_spans}
use Rattle.tree.proofs.Shapes.{size_shape_of}
use Rattle.tree.proofs.Lengths.{length_path}
use Rattle.tree.proofs.Linking.{length_link}
use Rattle.tree.proofs.Widths.{length_root, digests_path, digests_sub}
use Rattle.tree.proofs.Stand.{paths, news, olds}
use Rattle.refusal.proofs.Doing.{and_true, and_left, and_right}
use Rattle.record.specs.Records.{Head, Proof, Link, proof, link, WellFormed}
use Rattle.record.proofs.Numbers.{proof_fits, link_fits_holds}
use Rattle.checks.specs.Checks.{between, proves, leads}

-- the path ps of leaf i among n is accepted for the entry e under a root
pub record Proves (c : Hashing) (n : ℕ) (root : Bytes) (i : ℕ) (e : Bytes) (ps : List Bytes) : Type 0 where
  pub inside : i < n
  pub count : length ps ≡ length (turns (shape_of n) i)
  pub digests : Digests c.width ps
  pub entry : length e ≤ longest_entry
  pub roots : rebuilt c i n (leaf_digest c e) ps ≡ root

-- the link ps from m leaves to n is accepted between two roots
pub record Leads (c : Hashing) (m n : ℕ) (old new : Bytes) (ps : List Bytes) : Type 0 where
  pub first : 1 ≤ m
  pub order : m ≤ n
  pub count : length ps ≡ length (link_spans m n)
  pub digests : Digests c.width ps
  pub root : length old ≡ c.width
  pub olds : rebuilt_old c m n old ps ≡ old
  pub news : rebuilt_new c m n old ps ≡ new

module _ (c : Hashing) where
  pub proves_so : (h : Head) (e : Bytes) (p : Proof) → WellFormed c.width (proof p) → length e ≤ longest_entry → p.size ≡ h.size → proves c h e p ≡ true →
      Proves c h.size h.root p.index e p.path
  proves_so h e p wf l s t =
      let f = proof_fits p wf.1 in
      subst (λ (n : ℕ). Proves c n h.root p.index e p.path) s
      (record {
        inside = f.0;
        count = f.2;
        digests = wf.0;
        entry = l;
        roots = (bytes_eq-Decides (rebuilt c p.index p.size (leaf_digest c e) p.path) h.root).0 t;
      })

  pub so_proves : (h : Head) (e : Bytes) (p : Proof) → p.size ≡ h.size → Proves c h.size h.root p.index e p.path → proves c h e p ≡ true
  so_proves h e p s k =
      (bytes_eq-Decides (rebuilt c p.index p.size (leaf_digest c e) p.path) h.root).1
      (ap (λ n. rebuilt c p.index n (leaf_digest c e) p.path) s ∙ k.roots)

  pub leads_so : (g h : Head) (l : Link) → WellFormed c.width (link l) → length g.root ≡ c.width → between g h l ≡ true → leads c g h l ≡ true →
      (l.old ≡ g.size) × (l.new ≡ h.size) × Leads c l.old l.new g.root h.root l.digests
  leads_so g h l wf r b t =
      let f = link_fits_holds l wf.1 in
      let o = bytes_eq (rebuilt_old c l.old l.new g.root l.digests) g.root in (
        eqb-true l.old g.size (and_left (eqb l.old g.size) _ b),
        eqb-true l.new h.size (and_right (eqb l.old g.size) _ b),
        record {
          first = f.0;
          order = f.1;
          count = f.3;
          digests = wf.0;
          root = r;
          olds = (bytes_eq-Decides (rebuilt_old c l.old l.new g.root l.digests) g.root).0 (and_left o _ t);
          news = (bytes_eq-Decides (rebuilt_new c l.old l.new g.root l.digests) h.root).0 (and_right o _ t);
        },
      )

  pub so_leads : (g h : Head) (l : Link) → Leads c l.old l.new g.root h.root l.digests → leads c g h l ≡ true
  so_leads g h l k =
      and_true ((bytes_eq-Decides (rebuilt_old c l.old l.new g.root l.digests) g.root).1 k.olds)
      ((bytes_eq-Decides (rebuilt_new c l.old l.new g.root l.digests) h.root).1 k.news)

  -- what is made from the leaves
  module _ (sized : Sized c) (xs : List Bytes) (d : Digests c.width xs) where
    pub made_proves : (i n : ℕ) (e : Bytes) → i < n → n ≤ length xs → length e ≤ longest_entry → get_or xs i [] ≡ leaf_digest c e →
        Proves c n (root_at c xs n) i e (path_of c xs i n)
    made_proves i n e a b l k = record {
      inside = a;
      count = length_path (part_by (node_digest c) [] xs) (shape_of n) 0 i;
      digests = digests_path c sized xs d (shape_of n) 0 i (omega (arith, size_shape_of n (omega arith), b));
      entry = l;
      roots = ap (λ z. rebuilt c i n z (path_of c xs i n)) (sym k) ∙ paths c xs i n a;
    }

    pub made_leads : (m n : ℕ) → 1 ≤ m → m ≤ n → n ≤ length xs → Leads c m n (root_at c xs m) (root_at c xs n) (link_of c xs m n)
    made_leads m n a b l = record {
      first = a;
      order = b;
      count = length_link (part_by (node_digest c) [] xs) (shape_of n) 0 m ∙ sym (length_link span_of (shape_of n) 0 m);
      digests = digests_sub c sized xs d (shape_of n) 0 m true (omega (arith, size_shape_of n (omega arith), l));
      root = length_root c sized xs d m a (omega arith);
      olds = olds c xs m n a b;
      news = news c xs m n a b;
    }
