use Rattle.std.proofs.Common.{◌≡◌, ℕ, ◌≤◌, not, length, Err, sym, ap, ◌∙◌, arith}
use Rattle.std.specs.Option.{option_map}
use Rattle.std.proofs.lemmas.Result.{err_from_is_err_and}
use Rattle.hash.specs.Hash.{from_zeros}
use Rattle.hash.specs.Collisions.{Bytes}
use Rattle.refusal.specs.Refusals.{Answer}
use Rattle.refusal.specs.declared.Refusal.TheVariants.{EqualPapers}
use Rattle.refusal.proofs.Doing.{must_last, through, bound}
use Rattle.release_log.specs.Buffers.{length_of, output_after}
use Rattle.record.specs.Views.{proof_of, collision_of}
use Rattle.conflict.specs.Conflicts.{pair_for, proofs_conflict, conflict_proofs_answer}
use Rattle.conflict.proofs.Holding.{none_err, proofs_hold, proofs_pair_holds}
use Rattle.conflict.proofs.proofs.found.Goals as goal

pub returns-in_err-pair : goal.returns-in_err-pair
returns-in_err-pair g c =
    let w : ℕ = g.C.Value.Words.width in
    let b = g.C.Value.Words.bytes in
    let F = from_zeros w g.C.Compression.f in
    let cells : ℕ = length c.args.spans.now in
    let later : ℕ = length c.accepted.new.spans in
    let kept = c.accepted.auto.spans in
    let out : Bytes = c.args.out.now in
    let e : Bytes = c.args.entry.now in
    let d : Bytes = c.args.other_entry.now in
    let p = c.in_ok-two.two.first in
    let q = c.in_ok-two.two.second in
    let two = sym c.in_ok-two.ensures.answer in
    let k = proofs_hold F cells c.args.head.now e c.args.proof.now d c.args.other_proof.now (proof_of w p, proof_of w q) two in
    let least = k.0 in
    let enough : 21 ≤ later = omega arith in
    let whole = c.in_ok-two.ensures.whole in
    let is = proofs_pair_holds F later enough e d k.1.0 p.index p.size q.index q.size p.path.now q.path.now k.1.1 whole.0 whole.1 in
    let run : conflict_proofs_answer F cells (length out) c.args.head.now e c.args.proof.now d c.args.other_proof.now ≡ pair_for (length out) EqualPapers (proofs_conflict F e (proof_of w p) d (proof_of w q)) =
    bound _ two ∙ through EqualPapers _ (sym c.ne.ensures ∙ must_last c.ne.result EqualPapers (sym c.in_ok-must.ensures)) in
    let refused = run ∙ ap (pair_for (length out) EqualPapers) (sym is ∙ sym (ap (option_map (collision_of b)) (sym c.in_err-pair.ensures.ok_part) ∙ c.proofs_apart.ensures)) in
    let r = err_from_is_err_and c.from_residual-in_err-pair.result c.from_residual-in_err-pair.ensures.1 in
    let e = none_err EqualPapers c.in_err-pair.field-0.0 c.in_err-pair.ensures.value c.in_err-pair.ensures.ok_part in
    record { answer = r.1 ∙ ap (λ z. Err z) (r.2 ∙ e) ∙ sym (ap length_of refused); output = sym (ap (λ (a : Answer Bytes). output_after a out) refused) }

pub returns : goal.returns
returns g c =
    let w : ℕ = g.C.Value.Words.width in
    let b = g.C.Value.Words.bytes in
    let F = from_zeros w g.C.Compression.f in
    let cells : ℕ = length c.args.spans.now in
    let later : ℕ = length c.accepted.new.spans in
    let kept = c.accepted.auto.spans in
    let out : Bytes = c.args.out.now in
    let e : Bytes = c.args.entry.now in
    let d : Bytes = c.args.other_entry.now in
    let p = c.in_ok-two.two.first in
    let q = c.in_ok-two.two.second in
    let two = sym c.in_ok-two.ensures.answer in
    let k = proofs_hold F cells c.args.head.now e c.args.proof.now d c.args.other_proof.now (proof_of w p, proof_of w q) two in
    let least = k.0 in
    let enough : 21 ≤ later = omega arith in
    let whole = c.in_ok-two.ensures.whole in
    let is = proofs_pair_holds F later enough e d k.1.0 p.index p.size q.index q.size p.path.now q.path.now k.1.1 whole.0 whole.1 in
    let run : conflict_proofs_answer F cells (length out) c.args.head.now e c.args.proof.now d c.args.other_proof.now ≡ pair_for (length out) EqualPapers (proofs_conflict F e (proof_of w p) d (proof_of w q)) =
    bound _ two ∙ through EqualPapers _ (sym c.ne.ensures ∙ must_last c.ne.result EqualPapers (sym c.in_ok-must.ensures)) in
    let wrote = run ∙ ap (pair_for (length out) EqualPapers) (sym is ∙ sym (ap (option_map (collision_of b)) (sym c.in_ok-pair.ensures.ok_part) ∙ c.proofs_apart.ensures)) in
    record {
      answer = c.write_pair.ensures.answer ∙ sym (ap length_of wrote);
      output = c.write_pair.ensures.output ∙ sym (ap (λ (a : Answer Bytes). output_after a out) wrote);
    }
