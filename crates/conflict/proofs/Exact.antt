-- The conflict calls refuse as equal exactly what is equal, and otherwise write a collision. Assumes nothing.
use Rattle.std.proofs.Common.{◌≡◌, true, false, not, ◌&&◌, length, sym, ap, ◌∙◌, subst, arith}
use Rattle.std.proofs.lemmas.Bool.{le-leb, eq-eqb, both_ways}
use Rattle.std.proofs.lemmas.Slice.Eq.{bytes_eq-Decides}
use Rattle.std.specs.Str.{bytes_eq}
use Rattle.hash.specs.Hash.{Hashing, hash_of, longest}
use Rattle.hash.specs.Collisions.{Bytes, inputs_apart}
use Rattle.hash.specs.Widths.{Sized}
use Rattle.hash.proofs.Apart.{hash_apart}
use Rattle.tree.specs.Entries.{longest_entry}
use Rattle.roots.specs.Roots.{cells_needed}
use Rattle.refusal.specs.Refusals.{site, Answer, must, ◌>>◌}
use Rattle.refusal.specs.declared.Refusal.TheVariants.{OtherNumbers, WrongRoot, TooLong, TooFewCells, EqualMessages, UnequalDigests, EqualPapers}
use Rattle.refusal.proofs.Doing.{ok_same, through, bound, and_true, and_left, and_right}
use Rattle.record.specs.Records.{Head, head, proof, link, spelled, head_in, proof_in, link_in}
use Rattle.record.proofs.Reading.{any_input}
use Rattle.checks.proofs.Single.{head_read, proof_read, link_read}
use Rattle.checks.proofs.Accepted.{leads_so}
use Rattle.checks.proofs.Passed.{Checked, Led, checked, led}
use Rattle.tree.specs.Messages.{proof_messages, link_messages}
use Rattle.conflict.specs.Apart.{conflict_of}
use Rattle.conflict.specs.Conflicts.{pair_for, conflict_messages_answer, conflict_proofs_answer, conflict_links_answer}
use Rattle.conflict.specs.Laws.{Exactly, MessagesExact, ProofsExact, LinksExact}
use Rattle.conflict.proofs.Accepted.{proofs_part, links_part_holds}
use Rattle.conflict.proofs.Ending.{apart_wide, conflict_wide, exactly}

-- the test that two pairs are equal
both_same : (x y u v : Bytes) → (bytes_eq x y && bytes_eq u v) ≡ true → (x ≡ y) × (u ≡ v)
both_same x y u v t = ((bytes_eq-Decides x y).0 (and_left (bytes_eq x y) _ t), (bytes_eq-Decides u v).0 (and_right (bytes_eq x y) _ t))

not_same : (x y u v : Bytes) → (bytes_eq x y && bytes_eq u v) ≡ false → (x ≡ y) × (u ≡ v) → ⊥
not_same x y u v t e = both_ways (bytes_eq x y && bytes_eq u v) t (and_true ((bytes_eq-Decides x y).1 e.0) ((bytes_eq-Decides u v).1 e.1))

module _ (c : Hashing) (sized : Sized c) where
  pub messages_exact : MessagesExact c
  messages_exact out x y fits hx hy same =
      let t = bytes_eq x y in
      let run : conflict_messages_answer c out x y ≡ must (not t) EqualMessages >> pair_for out EqualMessages (inputs_apart c x y) =
      through (TooLong 1) _ (le-leb (length x) longest hx)
      ∙ through (TooLong 2) _ (le-leb (length y) longest hy)
      ∙ ap (λ (a : Answer Bytes). must (not t) EqualMessages >> a)
      (through UnequalDigests (pair_for out EqualMessages (inputs_apart c x y)) ((bytes_eq-Decides (hash_of c x) (hash_of c y)).1 same)) in
      subst (λ (a : Answer Bytes). Exactly c a EqualMessages (x ≡ y)) (sym run)
      (exactly c out EqualMessages (x ≡ y) (x ≡ y) (inputs_apart c x y) t fits (bytes_eq-Decides x y).0 (λ f e. both_ways t f ((bytes_eq-Decides x y).1 e)) (λ e. e)
      (apart_wide c sized x y) (hash_apart c x y (omega (arith, hx)) (omega (arith, hy)) same))

  pub proofs_exact : ProofsExact c
  proofs_exact cells out given b e d e' d' p p' enough fits all all' q q' r r' same =
      let w = c.width in
      let k = checked c given b e d p r q in
      let h = k.0 in
      let j = checked c given b e' d' p' r' q' in
      let k' : Checked c e' h p' = subst (λ (z : Head). Checked c e' z p') (ok_same (sym j.1 ∙ k.1)) j.2 in
      let pr = proof_read w 3 d p r in
      let pr' = proof_read w 3 d' p' r' in
      let sizes : p.size ≡ p'.size = k.2.sizes ∙ sym k'.sizes in
      let ms = proof_messages c p.index p.size e p.path in
      let ms' = proof_messages c p.index p.size e' p'.path in
      let t = bytes_eq e e' && bytes_eq d d' in
      let run : conflict_proofs_answer c cells out b e d e' d' ≡ must (not t) EqualPapers >> pair_for out EqualPapers (conflict_of c ms ms') =
      bound _ (through TooFewCells _ (le-leb cells_needed cells enough)
      ∙ bound _ k.1
      ∙ through (TooLong 2) _ (le-leb (length e) longest_entry k.2.small)
      ∙ bound _ r
      ∙ through (TooLong 4) _ (le-leb (length e') longest_entry k'.small)
      ∙ bound _ (any_input w 3 5 proof_in d' p' r')
      ∙ through (OtherNumbers (site 3 0)) _ (eq-eqb p.size h.size k.2.sizes)
      ∙ through (OtherNumbers (site 5 0)) _ (and_true (eq-eqb p'.size h.size k'.sizes) (eq-eqb p'.index p.index (sym same)))
      ∙ through (WrongRoot (site 3 0)) _ k.2.passes
      ∙ through (WrongRoot (site 5 0)) _ k'.passes) in
      subst (λ (a : Answer Bytes). Exactly c a EqualPapers ((e ≡ e') × (d ≡ d'))) (sym run)
      (exactly c out EqualPapers ((e ≡ e') × (d ≡ d')) ((e ≡ e') × (p.path ≡ p'.path)) (conflict_of c ms ms') t fits (both_same e e' d d') (not_same e e' d d')
      (λ z. (z.0, pr.1 all ∙ (λ i. spelled (proof (record { index = same i; size = sizes i; path = z.1 i }))) ∙ sym (pr'.1 all')))
      (conflict_wide c sized ms ms')
      (proofs_part c sized h e e' p p' pr.0 pr'.0 k.2.small k'.small k.2.sizes k'.sizes (sym same) k.2.passes k'.passes))

  pub links_exact : LinksExact c
  links_exact cells out given b d b' d' n l l' enough fits ab ab' all all' q q' r r' same =
      let w = c.width in
      let k = led c given b n d l r q in
      let g = k.0 in
      let h = k.1 in
      let j = led c given b' n d' l' r' q' in
      let g' = j.0 in
      let k' : Led c g' h l' = subst (λ (z : Head). Led c g' z l') (ok_same (sym j.3 ∙ k.3)) j.4 in
      let lr = link_read w 3 d l r in
      let lr' = link_read w 3 d' l' r' in
      let gr = head_read w 1 b g k.2 in
      let gr' = head_read w 1 b' g' j.2 in
      let a = leads_so c g h l lr.0 gr.0.0 k.4.meets k.4.passes in
      let a' = leads_so c g' h l' lr'.0 gr'.0.0 k'.meets k'.passes in
      let ms = link_messages c l.old l.new g.root l.digests in
      let ms' = link_messages c l.old l.new g'.root l'.digests in
      let t = bytes_eq b b' && bytes_eq d d' in
      let run : conflict_links_answer c cells out b d b' d' n ≡ must (not t) EqualPapers >> pair_for out EqualPapers (conflict_of c ms ms') =
      bound _ (through TooFewCells _ (le-leb cells_needed cells enough)
      ∙ bound _ k.2
      ∙ bound _ (any_input w 3 2 link_in d l r)
      ∙ bound _ (any_input w 1 3 head_in b' g' j.2)
      ∙ bound _ (any_input w 3 4 link_in d' l' r')
      ∙ bound _ (any_input w 2 5 head_in n h k.3)
      ∙ through (OtherNumbers (site 2 0)) _ k.4.meets
      ∙ through (OtherNumbers (site 4 0)) _ (and_true k'.meets (eq-eqb l'.old l.old (sym same)))
      ∙ through (WrongRoot (site 2 0)) _ k.4.passes
      ∙ through (WrongRoot (site 4 0)) _ k'.passes) in
      let heads : g.size ≡ g'.size = sym a.0 ∙ same ∙ a'.0 in
      let news : l.new ≡ l'.new = a.1 ∙ sym a'.1 in
      subst (λ (x : Answer Bytes). Exactly c x EqualPapers ((b ≡ b') × (d ≡ d'))) (sym run)
      (exactly c out EqualPapers ((b ≡ b') × (d ≡ d')) ((g.root ≡ g'.root) × (l.digests ≡ l'.digests)) (conflict_of c ms ms') t fits (both_same b b' d d') (not_same b b' d d')
      (λ z. (
        gr.1 ab ∙ (λ i. spelled (head (record { size = heads i; root = z.0 i }))) ∙ sym (gr'.1 ab'),
        lr.1 all ∙ (λ i. spelled (link (record { old = same i; new = news i; digests = z.1 i }))) ∙ sym (lr'.1 all'),
      ))
      (conflict_wide c sized ms ms')
      (links_part_holds c sized g g' h l l' lr.0 lr'.0 gr.0.0 gr'.0.0 k.4.meets k'.meets (sym same) k.4.passes k'.passes))
