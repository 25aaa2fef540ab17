use Rattle.std.proofs.Common.{ℕ, ◌≤◌, eqb, leb, length, Err, sym, ap, ◌∙◌}
use Rattle.std.specs.Str.{bytes_eq}
use Rattle.std.proofs.lemmas.Result.{err_from_is_err_and}
use Rattle.hash.specs.Hash.{from_zeros}
use Rattle.hash.specs.Collisions.{Bytes}
use Rattle.tree.specs.Digests.{rebuilt}
use Rattle.refusal.specs.Refusals.{site, must}
use Rattle.refusal.specs.declared.Refusal.TheVariants.{TooFewCells, TooLong, OtherNumbers, WrongRoot}
use Rattle.refusal.proofs.Doing.{must_last, through, bound}
use Rattle.release_log.proofs.Fitting.{leb_from}
use Rattle.record.specs.Views.{proof_of, digests_in}
use Rattle.checks.proofs.Roots.{stopped, leaf_ok, leaf_err, path_root_is}
use Rattle.checks.proofs.Single.{proof_read}
use Rattle.checks.proofs.proofs.checked.Goals as goal

pub returns-in_err-leaf : goal.returns-in_err-leaf
returns-in_err-leaf g c =
    let F = from_zeros g.C.Value.Words.width g.C.Compression.f in
    let cells : ℕ = length c.args.spans.now in
    let some = must_last (leb 21 cells) TooFewCells (sym c.in_ok-enough.ensures) in
    let p = err_from_is_err_and c.from_residual-in_err-leaf.result c.from_residual-in_err-leaf.ensures.1 in
    p.1 ∙ ap (λ r. Err r) p.2
    ∙ sym (through TooFewCells _ some ∙ bound _ (sym c.in_ok-head.ensures)
    ∙ stopped _ (leaf_err F 2 c.args.entry.now c.in_err-leaf.field-0.0 c.in_err-leaf.ensures))

pub returns : goal.returns
returns g c =
    let w : ℕ = g.C.Value.Words.width in
    let F = from_zeros w g.C.Compression.f in
    let cells : ℕ = length c.args.spans.now in
    let e : Bytes = c.args.entry.now in
    let h = c.in_ok-head.head in
    let p = c.in_ok-proof.proof in
    let some = must_last (leb 21 cells) TooFewCells (sym c.in_ok-enough.ensures) in
    let enough : 21 ≤ cells = leb_from 21 cells TooFewCells c.in_ok-enough.ensures in
    let leaf = leaf_ok F 2 e (g.C.Value.Words.bytes c.in_ok-leaf.leaf) c.in_ok-leaf.ensures in
    let read = sym c.in_ok-proof.ensures.answer in
    let same = must_last (eqb p.size c.size.result) _ (sym c.in_ok-must.ensures) in
    let roots = path_root_is F cells enough p.index p.size p.path.now (proof_read w 3 c.args.proof.now (proof_of w p) read).0 c.in_ok-proof.ensures.whole
    (g.C.Value.Words.bytes c.in_ok-leaf.leaf) (g.C.Value.Words.bytes h.root)
    ∙ ap (λ (d : Bytes). bytes_eq (rebuilt F p.index p.size d (digests_in w p.path.now)) (g.C.Value.Words.bytes h.root)) leaf.1 in
    c.proven.ensures
    ∙ (λ j. must (roots j) (WrongRoot (c.start_of-site.ensures j)))
    ∙ sym (through TooFewCells _ some ∙ bound _ (sym c.in_ok-head.ensures) ∙ through (TooLong 2) _ leaf.0 ∙ bound _ read ∙ through (OtherNumbers (site 3 0)) _ (ap (eqb p.size) (sym c.size.ensures.0) ∙ same))
