use Rattle.std.proofs.Common.{ℕ, ◌≤◌, leb, length, sym, ◌∙◌}
use Rattle.hash.specs.Hash.{from_zeros}
use Rattle.refusal.specs.Refusals.{site, must}
use Rattle.refusal.specs.declared.Refusal.TheVariants.{TooFewCells, OtherNumbers, WrongRoot}
use Rattle.refusal.proofs.Doing.{must_last, through, bound}
use Rattle.release_log.proofs.Fitting.{leb_from}
use Rattle.record.specs.Views.{link_of}
use Rattle.checks.proofs.Roots.{link_roots_are}
use Rattle.checks.proofs.Single.{link_read}
use Rattle.checks.proofs.links.checked.Goals as goal

pub returns : goal.returns
returns g c =
    let w : ℕ = g.C.Value.Words.width in
    let F = from_zeros w g.C.Compression.f in
    let cells : ℕ = length c.args.spans.now in
    let l = c.in_ok-link.link in
    let some = must_last (leb 21 cells) TooFewCells (sym c.in_ok-enough.ensures) in
    let enough : 21 ≤ cells = leb_from 21 cells TooFewCells c.in_ok-enough.ensures in
    let read = sym c.in_ok-link.ensures.answer in
    let roots = link_roots_are F cells enough l.old l.new l.digests.now (link_read w 3 c.args.link.now (link_of w l) read).0 c.in_ok-link.ensures.whole
    (g.C.Value.Words.bytes c.in_ok-old.old.root) (g.C.Value.Words.bytes c.in_ok-new.new.root) in
    c.linked.ensures
    ∙ (λ j. must (roots j) (WrongRoot (c.start_of-site.ensures j)))
    ∙ sym (through TooFewCells _ some ∙ bound _ (sym c.in_ok-old.ensures) ∙ bound _ (sym c.in_ok-new.ensures) ∙ bound _ read ∙ through (OtherNumbers (site 3 0)) _ (sym c.joins.ensures ∙ must_last c.joins.result _ (sym c.in_ok-must.ensures)))
