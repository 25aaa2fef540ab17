-- Two accepted proofs of one index, and two accepted links of the same sizes: equal, or inputs of the compression that collide.
-- Assumes nothing.
use Rattle.std.proofs.Common.{◌≡◌, ℕ, ◌+◌, ◌≤◌, Bool, true, false, cond, List, [], ◌∷◌, reverse, length, Some, None, Option, sym, ap, ◌∙◌, subst, ap₂, arith, MatchOption}
use mathlib.Core.List.{reverse-reverse, tail-eq_of_cons-eq}
use Rattle.std.proofs.lemmas.List.{length-reverse}
use Rattle.std.proofs.lemmas.Slice.Eq.{bytes_eq-Decides}
use Rattle.std.specs.Str.{bytes_eq}
use Rattle.hash.specs.Hash.{Hashing}
use Rattle.hash.specs.Collisions.{Bytes, Input, Collides, parting, inputs_apart}
use Rattle.hash.specs.Widths.{Sized}
use Rattle.hash.proofs.Apart.{hash_apart}
use Rattle.hash.proofs.Chains.{at_heads, cases_none}
use Rattle.hash.proofs.Widths.{length_hash}
use Rattle.tree.specs.Tree.{Turn, turns, shape_of, climb}
use Rattle.tree.specs.Links.{link_turns, kept, base, above, climb_old}
use Rattle.tree.specs.Digests.{Digests, leaf_message, leaf_digest, node_digest}
use Rattle.tree.specs.Entries.{longest_entry}
use Rattle.tree.specs.Spans.{span_of}
use Rattle.tree.proofs.Linking.{length_link}
use Rattle.record.specs.Records.{Head, Proof, Link, proof, link, WellFormed}
use Rattle.checks.specs.Checks.{between, proves, leads}
use Rattle.checks.proofs.Accepted.{Proves, Leads, proves_so, leads_so}
use Rattle.tree.specs.Messages.{messages, proof_messages, link_messages}
use Rattle.conflict.specs.Apart.{conflict_of}
use Rattle.conflict.proofs.Ways.{Twins, digests_back, bytes_apart, ways_apart}

-- two inputs of the compression that collide
abbrev pub Pair : Hashing → Input × Input → Type 0
Pair f q = Collides f q.0 q.1

twins_collide : (f : Hashing) (N : Type 0) (ms ms' : List Bytes) → MatchOption (parting bytes_eq ms ms') N (Twins f) → MatchOption (conflict_of f ms ms') N (Pair f)
twins_collide f N ms ms' h = go (parting bytes_eq ms ms') h
  where
    go : (o : Option (Bytes × Bytes)) → MatchOption o N (Twins f) →
        MatchOption (elim o as (λ _. Option (Input × Input)) [ None ↦ None | Some p ↦ inputs_apart f p.0 p.1 ]) N (Pair f)
    go None k = k
    go (Some p) k = cases_none (inputs_apart f p.0 p.1) (p.0 ≡ p.1) N (Pair f) (λ e. absurd (k.0 e)) (hash_apart f p.0 p.1 k.2 k.3 k.1)

unreverse : (ps ps' : List Bytes) → reverse ps ≡ reverse ps' → ps ≡ ps'
unreverse ps ps' e = sym (reverse-reverse ps) ∙ ap reverse e ∙ reverse-reverse ps'

module _ (f : Hashing) (s : Sized f) where
  proofs_apart : (n i : ℕ) (root e e' : Bytes) (ps ps' : List Bytes) → Proves f n root i e ps → Proves f n root i e' ps' →
      MatchOption (conflict_of f (proof_messages f i n e ps) (proof_messages f i n e' ps')) ((e ≡ e') × (ps ≡ ps')) (Pair f)
  proofs_apart n i root e e' ps ps' a b =
      twins_collide f ((e ≡ e') × (ps ≡ ps')) (proof_messages f i n e ps) (proof_messages f i n e' ps')
      (cases_none (parting bytes_eq (proof_messages f i n e ps) (proof_messages f i n e' ps')) ((e ≡ e') × (reverse ps ≡ reverse ps')) ((e ≡ e') × (ps ≡ ps')) (Twins f)
      (λ h. (h.0, unreverse ps ps' h.1))
      (ways_apart f s (leaf_digest f e) (leaf_digest f e') (length_hash f s (leaf_message e)) (length_hash f s (leaf_message e')) (leaf_message e ∷ []) (leaf_message e' ∷ []) (e ≡ e')
      (λ q. at_heads bytes_eq (e ≡ e') (Twins f) (leaf_message e) (leaf_message e') [] []
      (λ t. tail-eq_of_cons-eq ((bytes_eq-Decides (leaf_message e) (leaf_message e')).0 t))
      (λ t. (bytes_apart (leaf_message e) (leaf_message e') t, q, omega (arith, a.entry), omega (arith, b.entry))))
      (turns (shape_of n) i) (reverse ps) (reverse ps') (length-reverse ps ∙ a.count) (length-reverse ps' ∙ b.count)
      (digests_back f.width ps [] a.digests tt) (digests_back f.width ps' [] b.digests tt) (a.roots ∙ sym b.roots)))

  links_at : (ts : List Turn) (b : Bool) (old old' : Bytes) (ps ps' : List Bytes) → length ps ≡ cond b 0 1 + length ts → length ps' ≡ cond b 0 1 + length ts →
      Digests f.width ps → Digests f.width ps' → length old ≡ f.width → length old' ≡ f.width →
      climb_old (node_digest f) ts (base b old ps) (reverse (above b ps)) ≡ old → climb_old (node_digest f) ts (base b old' ps') (reverse (above b ps')) ≡ old' →
      climb (node_digest f) ts (base b old ps) (reverse (above b ps)) ≡ climb (node_digest f) ts (base b old' ps') (reverse (above b ps')) →
      MatchOption (parting bytes_eq (messages f ts (base b old ps) (reverse (above b ps)) []) (messages f ts (base b old' ps') (reverse (above b ps')) [])) ((old ≡ old') × (ps ≡ ps')) (Twins f)
  links_at ts true old old' ps ps' l l' d d' k k' o o' q =
      cases_none (parting bytes_eq (messages f ts old (reverse ps) []) (messages f ts old' (reverse ps') [])) ((old ≡ old') × (reverse ps ≡ reverse ps')) ((old ≡ old') × (ps ≡ ps')) (Twins f)
      (λ h. (h.0, unreverse ps ps' h.1))
      (ways_apart f s old old' k k' [] [] (old ≡ old') (λ e. e) ts (reverse ps) (reverse ps') (length-reverse ps ∙ l ∙ omega arith) (length-reverse ps' ∙ l' ∙ omega arith)
      (digests_back f.width ps [] d tt) (digests_back f.width ps' [] d' tt) q)
  links_at ts false old old' [] ps' l l' d d' k k' o o' q = absurd (omega (arith, l))
  links_at ts false old old' (p ∷ ps) [] l l' d d' k k' o o' q = absurd (omega (arith, l'))
  links_at ts false old old' (p ∷ ps) (p' ∷ ps') l l' d d' k k' o o' q =
      cases_none (parting bytes_eq (messages f ts p (reverse ps) []) (messages f ts p' (reverse ps') [])) ((p ≡ p') × (reverse ps ≡ reverse ps')) ((old ≡ old') × ((p ∷ ps) ≡ (p' ∷ ps'))) (Twins f)
      (λ h. (sym o ∙ ap₂ (climb_old (node_digest f) ts) h.0 h.1 ∙ o', λ i. h.0 i ∷ unreverse ps ps' h.1 i))
      (ways_apart f s p p' d.0 d'.0 [] [] (p ≡ p') (λ e. e) ts (reverse ps) (reverse ps') (length-reverse ps ∙ omega (arith, l)) (length-reverse ps' ∙ omega (arith, l'))
      (digests_back f.width ps [] d.1 tt) (digests_back f.width ps' [] d'.1 tt) q)

  links_apart : (m n : ℕ) (old old' new : Bytes) (ps ps' : List Bytes) → Leads f m n old new ps → Leads f m n old' new ps' →
      MatchOption (conflict_of f (link_messages f m n old ps) (link_messages f m n old' ps')) ((old ≡ old') × (ps ≡ ps')) (Pair f)
  links_apart m n old old' new ps ps' a b =
      let ts = link_turns (shape_of n) m in
      let c = length_link span_of (shape_of n) 0 m in
      twins_collide f ((old ≡ old') × (ps ≡ ps')) (link_messages f m n old ps) (link_messages f m n old' ps')
      (links_at ts (kept ts) old old' ps ps' (a.count ∙ c) (b.count ∙ c) a.digests b.digests a.root b.root a.olds b.olds (a.news ∙ sym b.news))

  -- the same from the tests that were passed
  pub proofs_part : (h : Head) (e e' : Bytes) (p p' : Proof) → WellFormed f.width (proof p) → WellFormed f.width (proof p') →
      length e ≤ longest_entry → length e' ≤ longest_entry → p.size ≡ h.size → p'.size ≡ h.size → p'.index ≡ p.index → proves f h e p ≡ true → proves f h e' p' ≡ true →
      MatchOption (conflict_of f (proof_messages f p.index p.size e p.path) (proof_messages f p.index p.size e' p'.path)) ((e ≡ e') × (p.path ≡ p'.path)) (Pair f)
  proofs_part h e e' p p' wf wf' l l' n n' i t t' =
      let at : (x : Bytes) (ps : List Bytes) → Proves f h.size h.root p.index x ps → Proves f p.size h.root p.index x ps =
      λ x ps. subst (λ (k : ℕ). Proves f k h.root p.index x ps) (sym n) in
      proofs_apart p.size p.index h.root e e' p.path p'.path (at e p.path (proves_so f h e p wf l n t))
      (at e' p'.path (subst (λ (k : ℕ). Proves f h.size h.root k e' p'.path) i (proves_so f h e' p' wf' l' n' t')))

  pub links_part_holds : (g g' h : Head) (l l' : Link) → WellFormed f.width (link l) → WellFormed f.width (link l') → length g.root ≡ f.width → length g'.root ≡ f.width →
      between g h l ≡ true → between g' h l' ≡ true → l'.old ≡ l.old → leads f g h l ≡ true → leads f g' h l' ≡ true →
      MatchOption (conflict_of f (link_messages f l.old l.new g.root l.digests) (link_messages f l.old l.new g'.root l'.digests))
      ((g.root ≡ g'.root) × (l.digests ≡ l'.digests)) (Pair f)
  links_part_holds g g' h l l' wf wf' r r' b b' m t t' =
      let a = leads_so f g h l wf r b t in
      let a' = leads_so f g' h l' wf' r' b' t' in
      let n : l'.new ≡ l.new = a'.1 ∙ sym a.1 in
      links_apart l.old l.new g.root g'.root h.root l.digests l'.digests a.2
      (subst (λ (k : ℕ). Leads f l.old k g'.root h.root l'.digests) n (subst (λ (k : ℕ). Leads f k l'.new g'.root h.root l'.digests) m a'.2))
