-- What a conflict call writes passes the check of collisions, whatever the call was given. Assumes nothing.
use Rattle.std.proofs.Common.{◌≡◌, not, ◌&&◌, leb, length, arith}
use Rattle.std.proofs.lemmas.Bool.{leb-true}
use Rattle.std.proofs.lemmas.Slice.Eq.{bytes_eq-Decides}
use Rattle.std.specs.Str.{bytes_eq}
use Rattle.hash.specs.Hash.{Hashing, hash_of, longest}
use Rattle.hash.specs.Collisions.{inputs_apart}
use Rattle.hash.specs.Widths.{Sized}
use Rattle.hash.proofs.Apart.{hash_apart}
use Rattle.tree.specs.Entries.{longest_entry}
use Rattle.refusal.specs.declared.Refusal.TheVariants.{TooLong, EqualMessages, UnequalDigests, EqualPapers}
use Rattle.refusal.proofs.Doing.{bind_ok, must_ok}
use Rattle.tree.specs.Messages.{proof_messages, link_messages}
use Rattle.conflict.specs.Apart.{conflict_of}
use Rattle.conflict.specs.Conflicts.{two_proofs, two_links}
use Rattle.conflict.specs.Laws.{MessagesWritten, ProofsWritten, LinksWritten}
use Rattle.conflict.proofs.Accepted.{proofs_part, links_part_holds}
use Rattle.conflict.proofs.Holding.{proofs_hold, links_hold}
use Rattle.conflict.proofs.Ending.{apart_wide, conflict_wide, pair_passes}

module _ (c : Hashing) (sized : Sized c) where
  pub messages_written : MessagesWritten c
  messages_written out x y r q =
      let m₁ = must_ok (leb (length x) longest) (TooLong 1) _ r q in
      let m₂ = must_ok (leb (length y) longest) (TooLong 2) _ r m₁.1 in
      let m₃ = must_ok (not (bytes_eq x y)) EqualMessages _ r m₂.1 in
      let m₄ = must_ok (bytes_eq (hash_of c x) (hash_of c y)) UnequalDigests _ r m₃.1 in
      let hx = leb-true (length x) longest m₁.0 in
      let hy = leb-true (length y) longest m₂.0 in
      pair_passes c sized out EqualMessages (x ≡ y) (inputs_apart c x y) r (apart_wide c sized x y)
      (hash_apart c x y (omega (arith, hx)) (omega (arith, hy)) ((bytes_eq-Decides (hash_of c x) (hash_of c y)).0 m₄.0)) m₄.1

  pub proofs_written : ProofsWritten c
  proofs_written cells out b e d e' d' r q =
      let t = bind_ok (two_proofs c cells b e d e' d') _ r q in
      let p = t.0.0 in
      let p' = t.0.1 in
      let held = (proofs_hold c cells b e d e' d' t.0 t.1).1 in
      let k = held.1 in
      let m = must_ok (not (bytes_eq e e' && bytes_eq d d')) EqualPapers _ r t.2 in
      let ms = proof_messages c p.index p.size e p.path in
      let ms' = proof_messages c p.index p.size e' p'.path in
      pair_passes c sized out EqualPapers ((e ≡ e') × (p.path ≡ p'.path)) (conflict_of c ms ms') r (conflict_wide c sized ms ms')
      (proofs_part c sized held.0 e e' p p' k.well k.well' (leb-true (length e) longest_entry k.small) (leb-true (length e') longest_entry k.small')
      k.size k.size' k.index k.passes k.passes')
      m.1

  pub links_written : LinksWritten c
  links_written cells out b d b' d' n r q =
      let t = bind_ok (two_links c cells b d b' d' n) _ r q in
      let g = t.0.0.0 in
      let l = t.0.0.1 in
      let g' = t.0.1.0 in
      let l' = t.0.1.1 in
      let held = (links_hold c cells b d b' d' n t.0 t.1).1 in
      let k = held.1 in
      let m = must_ok (not (bytes_eq b b' && bytes_eq d d')) EqualPapers _ r t.2 in
      let ms = link_messages c l.old l.new g.root l.digests in
      let ms' = link_messages c l.old l.new g'.root l'.digests in
      pair_passes c sized out EqualPapers ((g.root ≡ g'.root) × (l.digests ≡ l'.digests)) (conflict_of c ms ms') r (conflict_wide c sized ms ms')
      (links_part_holds c sized g g' held.0 l l' k.well k.well' k.wide k.wide' k.meets k.meets' k.olds k.passes k.passes')
      m.1
