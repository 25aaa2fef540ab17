use Rattle.std.proofs.Common.{◌≡◌, ℕ, ◌≤◌, Bool, not, length, Err, sym, ap, ◌∙◌, subst, arith}
use Rattle.std.specs.Option.{option_map}
use Rattle.std.proofs.lemmas.Result.{err_from_is_err_and}
use Rattle.hash.specs.Hash.{from_zeros}
use Rattle.hash.specs.Collisions.{Bytes}
use Rattle.refusal.specs.Refusals.{Answer, must}
use Rattle.refusal.specs.declared.Refusal.TheVariants.{EqualPapers}
use Rattle.refusal.proofs.Doing.{must_last, through, bound, halted}
use Rattle.checks.proofs.Roots.{stopped}
use Rattle.release_log.specs.Buffers.{length_of, output_after}
use Rattle.record.specs.Records.{Link}
use Rattle.record.specs.Views.{link_of, collision_of}
use Rattle.conflict.specs.Conflicts.{pair_for, two_links, links_conflict, conflict_links_answer}
use Rattle.conflict.specs.Pairs.{links_pair}
use Rattle.conflict.specs.Two.{two_links_of}
use Rattle.conflict.proofs.Holding.{none_err, LinksHold, links_hold, links_pair_holds, roots_ok, roots_err}
use Rattle.conflict.proofs.links.found.Goals as goal

pub returns-in_err-two : goal.returns-in_err-two
returns-in_err-two g c =
    let w : ℕ = g.C.Value.Words.width in
    let F = from_zeros w g.C.Compression.f in
    let cells : ℕ = length c.args.spans.now in
    let out : Bytes = c.args.out.now in
    let r = err_from_is_err_and c.from_residual.result c.from_residual.ensures.1 in
    let e = c.in_err-two.field-0.0 in
    let refused : conflict_links_answer F cells (length out) c.args.old.now c.args.link.now c.args.other_old.now c.args.other_link.now c.args.new.now ≡ Err e =
    halted _ (roots_err (two_links F cells c.args.old.now c.args.link.now c.args.other_old.now c.args.other_link.now c.args.new.now) e c.in_err-two.ensures.answer) in
    record { answer = r.1 ∙ ap (λ z. Err z) r.2 ∙ sym (ap length_of refused); output = sym (ap (λ (a : Answer Bytes). output_after a out) refused) }

pub returns-in_err-must : goal.returns-in_err-must
returns-in_err-must g c =
    let w : ℕ = g.C.Value.Words.width in
    let b = g.C.Value.Words.bytes in
    let F = from_zeros w g.C.Compression.f in
    let cells : ℕ = length c.args.spans.now in
    let out : Bytes = c.args.out.now in
    let t = c.in_ok-two.two in
    let r = err_from_is_err_and c.from_residual-in_err-must.result c.from_residual-in_err-must.ensures.1 in
    let e = c.in_err-must.field-0.0 in
    let found = roots_ok (two_links F cells c.args.old.now c.args.link.now c.args.other_old.now c.args.other_link.now c.args.new.now) (two_links_of w b t) c.in_ok-two.ensures.answer in
    let heads = found.0 in
    let refused : conflict_links_answer F cells (length out) c.args.old.now c.args.link.now c.args.other_old.now c.args.other_link.now c.args.new.now ≡ Err e =
    bound _ found.1 ∙ stopped _ (ap (λ (z : Bool). must z EqualPapers) (sym c.ne.ensures) ∙ sym c.in_err-must.ensures) in
    record { answer = r.1 ∙ ap (λ z. Err z) r.2 ∙ sym (ap length_of refused); output = sym (ap (λ (a : Answer Bytes). output_after a out) refused) }

pub returns-in_err-pair : goal.returns-in_err-pair
returns-in_err-pair g c =
    let w : ℕ = g.C.Value.Words.width in
    let b = g.C.Value.Words.bytes in
    let F = from_zeros w g.C.Compression.f in
    let cells : ℕ = length c.args.spans.now in
    let out : Bytes = c.args.out.now in
    let t = c.in_ok-two.two in
    let found = roots_ok (two_links F cells c.args.old.now c.args.link.now c.args.other_old.now c.args.other_link.now c.args.new.now) (two_links_of w b t) c.in_ok-two.ensures.answer in
    let heads = found.0 in
    let later : ℕ = length c.accepted.new.spans in
    let kept = c.accepted.auto.spans in
    let l = t.first in
    let m = t.second in
    let held = links_hold F cells c.args.old.now c.args.link.now c.args.other_old.now c.args.other_link.now c.args.new.now heads found.1 in
    let least = held.0 in
    let enough : 21 ≤ later = omega arith in
    let whole = c.in_ok-two.ensures.whole in
    let same = found.2 in
    let one : link_of w l ≡ heads.0.1 = ap (λ (z : (Bytes × Link) × (Bytes × Link)). z.0.1) same in
    let two : link_of w m ≡ heads.1.1 = ap (λ (z : (Bytes × Link) × (Bytes × Link)). z.1.1) same in
    let hold = subst (λ (z : Link). LinksHold F heads.0.0 heads.1.0 held.1.0 (link_of w l) z) (sym two)
    (subst (λ (z : Link). LinksHold F heads.0.0 heads.1.0 held.1.0 z heads.1.1) (sym one) held.1.1) in
    let is : links_pair F l.old l.new later (b t.old) l.digests.now (b t.other_old) m.digests.now ≡ links_conflict F heads.0.0 heads.0.1 heads.1.0 heads.1.1 =
    (λ i. links_pair F l.old l.new later (same i).0.0 l.digests.now (same i).1.0 m.digests.now)
    ∙ links_pair_holds F later enough heads.0.0 heads.1.0 held.1.0 l.old l.new m.old m.new l.digests.now m.digests.now hold whole.0 whole.1
    ∙ (λ i. links_conflict F heads.0.0 (one i) heads.1.0 (two i)) in
    let run : conflict_links_answer F cells (length out) c.args.old.now c.args.link.now c.args.other_old.now c.args.other_link.now c.args.new.now
    ≡ pair_for (length out) EqualPapers (links_conflict F heads.0.0 heads.0.1 heads.1.0 heads.1.1) =
    bound _ found.1 ∙ through EqualPapers _ (sym c.ne.ensures ∙ must_last c.ne.result EqualPapers (sym c.in_ok-must.ensures)) in
    let refused = run ∙ ap (pair_for (length out) EqualPapers) (sym is ∙ sym (ap (option_map (collision_of b)) (sym c.in_err-pair.ensures.ok_part) ∙ c.links_apart.ensures)) in
    let r = err_from_is_err_and c.from_residual-in_err-pair.result c.from_residual-in_err-pair.ensures.1 in
    let e = none_err EqualPapers c.in_err-pair.field-0.0 c.in_err-pair.ensures.value c.in_err-pair.ensures.ok_part in
    record { answer = r.1 ∙ ap (λ z. Err z) (r.2 ∙ e) ∙ sym (ap length_of refused); output = sym (ap (λ (a : Answer Bytes). output_after a out) refused) }

pub returns : goal.returns
returns g c =
    let w : ℕ = g.C.Value.Words.width in
    let b = g.C.Value.Words.bytes in
    let F = from_zeros w g.C.Compression.f in
    let cells : ℕ = length c.args.spans.now in
    let out : Bytes = c.args.out.now in
    let t = c.in_ok-two.two in
    let found = roots_ok (two_links F cells c.args.old.now c.args.link.now c.args.other_old.now c.args.other_link.now c.args.new.now) (two_links_of w b t) c.in_ok-two.ensures.answer in
    let heads = found.0 in
    let later : ℕ = length c.accepted.new.spans in
    let kept = c.accepted.auto.spans in
    let l = t.first in
    let m = t.second in
    let held = links_hold F cells c.args.old.now c.args.link.now c.args.other_old.now c.args.other_link.now c.args.new.now heads found.1 in
    let least = held.0 in
    let enough : 21 ≤ later = omega arith in
    let whole = c.in_ok-two.ensures.whole in
    let same = found.2 in
    let one : link_of w l ≡ heads.0.1 = ap (λ (z : (Bytes × Link) × (Bytes × Link)). z.0.1) same in
    let two : link_of w m ≡ heads.1.1 = ap (λ (z : (Bytes × Link) × (Bytes × Link)). z.1.1) same in
    let hold = subst (λ (z : Link). LinksHold F heads.0.0 heads.1.0 held.1.0 (link_of w l) z) (sym two)
    (subst (λ (z : Link). LinksHold F heads.0.0 heads.1.0 held.1.0 z heads.1.1) (sym one) held.1.1) in
    let is : links_pair F l.old l.new later (b t.old) l.digests.now (b t.other_old) m.digests.now ≡ links_conflict F heads.0.0 heads.0.1 heads.1.0 heads.1.1 =
    (λ i. links_pair F l.old l.new later (same i).0.0 l.digests.now (same i).1.0 m.digests.now)
    ∙ links_pair_holds F later enough heads.0.0 heads.1.0 held.1.0 l.old l.new m.old m.new l.digests.now m.digests.now hold whole.0 whole.1
    ∙ (λ i. links_conflict F heads.0.0 (one i) heads.1.0 (two i)) in
    let run : conflict_links_answer F cells (length out) c.args.old.now c.args.link.now c.args.other_old.now c.args.other_link.now c.args.new.now
    ≡ pair_for (length out) EqualPapers (links_conflict F heads.0.0 heads.0.1 heads.1.0 heads.1.1) =
    bound _ found.1 ∙ through EqualPapers _ (sym c.ne.ensures ∙ must_last c.ne.result EqualPapers (sym c.in_ok-must.ensures)) in
    let wrote = run ∙ ap (pair_for (length out) EqualPapers) (sym is ∙ sym (ap (option_map (collision_of b)) (sym c.in_ok-pair.ensures.ok_part) ∙ c.links_apart.ensures)) in
    record {
      answer = c.write_pair.ensures.answer ∙ sym (ap length_of wrote);
      output = c.write_pair.ensures.output ∙ sym (ap (λ (a : Answer Bytes). output_after a out) wrote);
    }
