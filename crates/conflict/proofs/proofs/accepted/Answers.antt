use Rattle.std.proofs.Common.{◌≡◌, ℕ, ◌≤◌, true, ◌&&◌, eqb, leb, length, Err, sym, ap, ◌∙◌, arith}
use Rattle.std.specs.Str.{bytes_eq}
use Rattle.std.specs.Result.{result_map_both}
use Rattle.std.proofs.lemmas.Result.{err_from_is_err_and}
use Rattle.hash.specs.Hash.{from_zeros}
use Rattle.hash.specs.Collisions.{Bytes}
use Rattle.tree.specs.Digests.{rebuilt}
use Rattle.refusal.specs.Refusals.{site, must}
use Rattle.refusal.specs.declared.Refusal.{Refusal}
use Rattle.refusal.specs.declared.Refusal.TheVariants.{TooFewCells, TooLong, OtherNumbers, WrongRoot}
use Rattle.refusal.proofs.Doing.{must_last, through, bound}
use Rattle.release_log.proofs.Fitting.{leb_from}
use Rattle.record.specs.Views.{proof_of, digests_in}
use Rattle.checks.proofs.Roots.{stopped, leaf_ok, leaf_err, path_root_is}
use Rattle.checks.proofs.Single.{proof_read}
use Rattle.conflict.specs.Two.{two_proofs_of}
use Rattle.conflict.proofs.proofs.accepted.Goals as goal

pub returns-in_err-x : goal.returns-in_err-x
returns-in_err-x g c =
    let w : ℕ = g.C.Value.Words.width in
    let b = g.C.Value.Words.bytes in
    let F = from_zeros w g.C.Compression.f in
    let cells : ℕ = length c.args.spans.now in
    let some = must_last (leb 21 cells) TooFewCells (sym c.in_ok-enough.ensures) in
    let r = err_from_is_err_and c.from_residual-in_err-x.result c.from_residual-in_err-x.ensures.1 in
    record {
      answer = ap (result_map_both (two_proofs_of w) (λ (z : Refusal). z)) r.1 ∙ ap (λ (z : Refusal). Err z) r.2
          ∙ sym (through TooFewCells _ some ∙ bound _ (sym c.in_ok-h.ensures) ∙ stopped _ (leaf_err F 2 c.args.entry.now c.in_err-x.field-0.0 c.in_err-x.ensures));
      whole = rw r.1 tt;
    }

pub returns-in_err-y : goal.returns-in_err-y
returns-in_err-y g c =
    let w : ℕ = g.C.Value.Words.width in
    let b = g.C.Value.Words.bytes in
    let F = from_zeros w g.C.Compression.f in
    let cells : ℕ = length c.args.spans.now in
    let some = must_last (leb 21 cells) TooFewCells (sym c.in_ok-enough.ensures) in
    let x = leaf_ok F 2 c.args.entry.now (b c.in_ok-x.x) c.in_ok-x.ensures in
    let read = sym c.in_ok-first.ensures.answer in
    let r = err_from_is_err_and c.from_residual-in_err-y.result c.from_residual-in_err-y.ensures.1 in
    record {
      answer = ap (result_map_both (two_proofs_of w) (λ (z : Refusal). z)) r.1 ∙ ap (λ (z : Refusal). Err z) r.2
          ∙ sym (through TooFewCells _ some ∙ bound _ (sym c.in_ok-h.ensures) ∙ through (TooLong 2) _ x.0 ∙ bound _ read
          ∙ stopped _ (leaf_err F 4 c.args.other_entry.now c.in_err-y.field-0.0 c.in_err-y.ensures));
      whole = rw r.1 tt;
    }

pub returns-in_err-proven : goal.returns-in_err-proven
returns-in_err-proven g c =
    let w : ℕ = g.C.Value.Words.width in
    let b = g.C.Value.Words.bytes in
    let F = from_zeros w g.C.Compression.f in
    let cells : ℕ = length c.args.spans.now in
    let some = must_last (leb 21 cells) TooFewCells (sym c.in_ok-enough.ensures) in
    let enough : 21 ≤ cells = leb_from 21 cells TooFewCells c.in_ok-enough.ensures in
    let e : Bytes = c.args.entry.now in
    let d : Bytes = c.args.other_entry.now in
    let h = c.in_ok-h.h in
    let x = leaf_ok F 2 e (b c.in_ok-x.x) c.in_ok-x.ensures in
    let y = leaf_ok F 4 d (b c.in_ok-y.y) c.in_ok-y.ensures in
    let p = c.in_ok-first.first in
    let q = c.in_ok-second.second in
    let read = sym c.in_ok-first.ensures.answer in
    let read' = sym c.in_ok-second.ensures.answer in
    let size : eqb p.size h.size ≡ true = ap (eqb p.size) (sym c.size.ensures.0) ∙ must_last (eqb p.size c.size.result) _ (sym c.in_ok-must.ensures) in
    let size' : (eqb q.size h.size && eqb q.index p.index) ≡ true =
    ap (λ (n : ℕ). eqb q.size n && eqb q.index p.index) (sym c.size-2.ensures.0) ∙ sym c.same_leaf.ensures ∙ must_last c.same_leaf.result _ (sym c.in_ok-must-2.ensures) in
    let first =
    path_root_is F cells enough p.index p.size p.path.now (proof_read w 3 c.args.proof.now (proof_of w p) read).0 c.in_ok-first.ensures.whole (b c.in_ok-x.x) (b h.root)
    ∙ ap (λ (z : Bytes). bytes_eq (rebuilt F p.index p.size z (digests_in w p.path.now)) (b h.root)) x.1 in
    let r = err_from_is_err_and c.from_residual-in_err-proven.result c.from_residual-in_err-proven.ensures.1 in
    record {
      answer = ap (result_map_both (two_proofs_of w) (λ (z : Refusal). z)) r.1 ∙ ap (λ (z : Refusal). Err z) r.2
          ∙ sym (through TooFewCells _ some ∙ bound _ (sym c.in_ok-h.ensures) ∙ through (TooLong 2) _ x.0 ∙ bound _ read ∙ through (TooLong 4) _ y.0 ∙ bound _ read'
          ∙ through (OtherNumbers (site 3 0)) _ size ∙ through (OtherNumbers (site 5 0)) _ size'
          ∙ stopped _ (sym (c.in_err-proven.ensures ∙ (λ j. must (first j) (WrongRoot (c.start_of-3.ensures j))))));
      whole = rw r.1 tt;
    }

pub returns-in_err-proven-2 : goal.returns-in_err-proven-2
returns-in_err-proven-2 g c =
    let w : ℕ = g.C.Value.Words.width in
    let b = g.C.Value.Words.bytes in
    let F = from_zeros w g.C.Compression.f in
    let cells : ℕ = length c.args.spans.now in
    let some = must_last (leb 21 cells) TooFewCells (sym c.in_ok-enough.ensures) in
    let enough : 21 ≤ cells = leb_from 21 cells TooFewCells c.in_ok-enough.ensures in
    let e : Bytes = c.args.entry.now in
    let d : Bytes = c.args.other_entry.now in
    let h = c.in_ok-h.h in
    let x = leaf_ok F 2 e (b c.in_ok-x.x) c.in_ok-x.ensures in
    let y = leaf_ok F 4 d (b c.in_ok-y.y) c.in_ok-y.ensures in
    let p = c.in_ok-first.first in
    let q = c.in_ok-second.second in
    let read = sym c.in_ok-first.ensures.answer in
    let read' = sym c.in_ok-second.ensures.answer in
    let size : eqb p.size h.size ≡ true = ap (eqb p.size) (sym c.size.ensures.0) ∙ must_last (eqb p.size c.size.result) _ (sym c.in_ok-must.ensures) in
    let size' : (eqb q.size h.size && eqb q.index p.index) ≡ true =
    ap (λ (n : ℕ). eqb q.size n && eqb q.index p.index) (sym c.size-2.ensures.0) ∙ sym c.same_leaf.ensures ∙ must_last c.same_leaf.result _ (sym c.in_ok-must-2.ensures) in
    let first =
    path_root_is F cells enough p.index p.size p.path.now (proof_read w 3 c.args.proof.now (proof_of w p) read).0 c.in_ok-first.ensures.whole (b c.in_ok-x.x) (b h.root)
    ∙ ap (λ (z : Bytes). bytes_eq (rebuilt F p.index p.size z (digests_in w p.path.now)) (b h.root)) x.1 in
    let later : ℕ = length c.proven.new.spans in
    let kept = c.proven.auto.spans in
    let enough' : 21 ≤ later = omega arith in
    let second =
    path_root_is F later enough' q.index q.size q.path.now (proof_read w 5 c.args.other_proof.now (proof_of w q) read').0 c.in_ok-second.ensures.whole (b c.in_ok-y.y) (b h.root)
    ∙ ap (λ (z : Bytes). bytes_eq (rebuilt F q.index q.size z (digests_in w q.path.now)) (b h.root)) y.1 in
    let r = err_from_is_err_and c.from_residual-in_err-proven-2.result c.from_residual-in_err-proven-2.ensures.1 in
    record {
      answer = ap (result_map_both (two_proofs_of w) (λ (z : Refusal). z)) r.1 ∙ ap (λ (z : Refusal). Err z) r.2
          ∙ sym (through TooFewCells _ some ∙ bound _ (sym c.in_ok-h.ensures) ∙ through (TooLong 2) _ x.0 ∙ bound _ read ∙ through (TooLong 4) _ y.0 ∙ bound _ read'
          ∙ through (OtherNumbers (site 3 0)) _ size ∙ through (OtherNumbers (site 5 0)) _ size'
          ∙ through (WrongRoot (site 3 0)) _ (sym first ∙ must_last _ _ (sym c.in_ok-proven.ensures))
          ∙ stopped _ (sym (c.in_err-proven-2.ensures ∙ (λ j. must (second j) (WrongRoot (c.start_of-4.ensures j))))));
      whole = rw r.1 tt;
    }

pub returns : goal.returns
returns g c =
    let w : ℕ = g.C.Value.Words.width in
    let b = g.C.Value.Words.bytes in
    let F = from_zeros w g.C.Compression.f in
    let cells : ℕ = length c.args.spans.now in
    let some = must_last (leb 21 cells) TooFewCells (sym c.in_ok-enough.ensures) in
    let enough : 21 ≤ cells = leb_from 21 cells TooFewCells c.in_ok-enough.ensures in
    let e : Bytes = c.args.entry.now in
    let d : Bytes = c.args.other_entry.now in
    let h = c.in_ok-h.h in
    let x = leaf_ok F 2 e (b c.in_ok-x.x) c.in_ok-x.ensures in
    let y = leaf_ok F 4 d (b c.in_ok-y.y) c.in_ok-y.ensures in
    let p = c.in_ok-first.first in
    let q = c.in_ok-second.second in
    let read = sym c.in_ok-first.ensures.answer in
    let read' = sym c.in_ok-second.ensures.answer in
    let size : eqb p.size h.size ≡ true = ap (eqb p.size) (sym c.size.ensures.0) ∙ must_last (eqb p.size c.size.result) _ (sym c.in_ok-must.ensures) in
    let size' : (eqb q.size h.size && eqb q.index p.index) ≡ true =
    ap (λ (n : ℕ). eqb q.size n && eqb q.index p.index) (sym c.size-2.ensures.0) ∙ sym c.same_leaf.ensures ∙ must_last c.same_leaf.result _ (sym c.in_ok-must-2.ensures) in
    let first =
    path_root_is F cells enough p.index p.size p.path.now (proof_read w 3 c.args.proof.now (proof_of w p) read).0 c.in_ok-first.ensures.whole (b c.in_ok-x.x) (b h.root)
    ∙ ap (λ (z : Bytes). bytes_eq (rebuilt F p.index p.size z (digests_in w p.path.now)) (b h.root)) x.1 in
    let later : ℕ = length c.proven.new.spans in
    let kept = c.proven.auto.spans in
    let enough' : 21 ≤ later = omega arith in
    let second =
    path_root_is F later enough' q.index q.size q.path.now (proof_read w 5 c.args.other_proof.now (proof_of w q) read').0 c.in_ok-second.ensures.whole (b c.in_ok-y.y) (b h.root)
    ∙ ap (λ (z : Bytes). bytes_eq (rebuilt F q.index q.size z (digests_in w q.path.now)) (b h.root)) y.1 in
    record {
      answer = sym (through TooFewCells _ some ∙ bound _ (sym c.in_ok-h.ensures) ∙ through (TooLong 2) _ x.0 ∙ bound _ read ∙ through (TooLong 4) _ y.0 ∙ bound _ read'
          ∙ through (OtherNumbers (site 3 0)) _ size ∙ through (OtherNumbers (site 5 0)) _ size'
          ∙ through (WrongRoot (site 3 0)) _ (sym first ∙ must_last _ _ (sym c.in_ok-proven.ensures))
          ∙ through (WrongRoot (site 5 0)) _ (sym second ∙ must_last _ _ (sym c.in_ok-proven-2.ensures)));
      whole = (c.in_ok-first.ensures.whole, c.in_ok-second.ensures.whole);
    }
