use Rattle.std.proofs.Common.{ℕ, ◌≤◌, leb, length, Ok, Err, sym, ap, ◌∙◌, arith}
use Rattle.std.specs.Result.{result_map_both}
use Rattle.std.proofs.lemmas.Result.{err_from_is_err_and}
use Rattle.hash.specs.Hash.{from_zeros}
use Rattle.refusal.specs.Refusals.{site, must}
use Rattle.refusal.specs.declared.Refusal.{Refusal}
use Rattle.refusal.specs.declared.Refusal.TheVariants.{TooFewCells, OtherNumbers, WrongRoot}
use Rattle.refusal.proofs.Doing.{must_last, through, bound}
use Rattle.release_log.proofs.Fitting.{leb_from}
use Rattle.record.specs.Views.{link_of}
use Rattle.checks.proofs.Roots.{stopped, link_roots_are}
use Rattle.checks.proofs.Single.{link_read}
use Rattle.conflict.specs.Two.{two_links_of, roots_of_links}
use Rattle.conflict.proofs.links.accepted.Goals as goal

pub returns-in_err-linked : goal.returns-in_err-linked
returns-in_err-linked g c =
    let w : ℕ = g.C.Value.Words.width in
    let b = g.C.Value.Words.bytes in
    let F = from_zeros w g.C.Compression.f in
    let cells : ℕ = length c.args.spans.now in
    let some = must_last (leb 21 cells) TooFewCells (sym c.in_ok-enough.ensures) in
    let enough : 21 ≤ cells = leb_from 21 cells TooFewCells c.in_ok-enough.ensures in
    let o = c.in_ok-g.g in
    let k = c.in_ok-k.k in
    let n = c.in_ok-h.h in
    let l = c.in_ok-first.first in
    let m = c.in_ok-second.second in
    let read = sym c.in_ok-first.ensures.answer in
    let read' = sym c.in_ok-second.ensures.answer in
    let sizes = sym c.joins.ensures ∙ must_last c.joins.result _ (sym c.in_ok-must.ensures) in
    let sizes' = sym c.joins_too.ensures ∙ must_last c.joins_too.result _ (sym c.in_ok-must-2.ensures) in
    let first = link_roots_are F cells enough l.old l.new l.digests.now (link_read w 2 c.args.link.now (link_of w l) read).0 c.in_ok-first.ensures.whole (b o.root) (b n.root) in
    let r = err_from_is_err_and c.from_residual-in_err-linked.result c.from_residual-in_err-linked.ensures.1 in
    record {
      answer = ap (result_map_both (two_links_of w b) (λ (z : Refusal). z)) r.1 ∙ ap (λ (z : Refusal). Err z) r.2
          ∙ sym (ap roots_of_links (through TooFewCells _ some ∙ bound _ (sym c.in_ok-g.ensures) ∙ bound _ read ∙ bound _ (sym c.in_ok-k.ensures) ∙ bound _ read' ∙ bound _ (sym c.in_ok-h.ensures)
          ∙ through (OtherNumbers (site 2 0)) _ sizes ∙ through (OtherNumbers (site 4 0)) _ sizes'
          ∙ stopped _ (sym (c.in_err-linked.ensures ∙ (λ j. must (first j) (WrongRoot (c.start_of-3.ensures j)))))));
      whole = rw r.1 tt;
    }

pub returns-in_err-linked-2 : goal.returns-in_err-linked-2
returns-in_err-linked-2 g c =
    let w : ℕ = g.C.Value.Words.width in
    let b = g.C.Value.Words.bytes in
    let F = from_zeros w g.C.Compression.f in
    let cells : ℕ = length c.args.spans.now in
    let some = must_last (leb 21 cells) TooFewCells (sym c.in_ok-enough.ensures) in
    let enough : 21 ≤ cells = leb_from 21 cells TooFewCells c.in_ok-enough.ensures in
    let o = c.in_ok-g.g in
    let k = c.in_ok-k.k in
    let n = c.in_ok-h.h in
    let l = c.in_ok-first.first in
    let m = c.in_ok-second.second in
    let read = sym c.in_ok-first.ensures.answer in
    let read' = sym c.in_ok-second.ensures.answer in
    let sizes = sym c.joins.ensures ∙ must_last c.joins.result _ (sym c.in_ok-must.ensures) in
    let sizes' = sym c.joins_too.ensures ∙ must_last c.joins_too.result _ (sym c.in_ok-must-2.ensures) in
    let first = link_roots_are F cells enough l.old l.new l.digests.now (link_read w 2 c.args.link.now (link_of w l) read).0 c.in_ok-first.ensures.whole (b o.root) (b n.root) in
    let later : ℕ = length c.linked.new.spans in
    let kept = c.linked.auto.spans in
    let enough' : 21 ≤ later = omega arith in
    let second = link_roots_are F later enough' m.old m.new m.digests.now (link_read w 4 c.args.other_link.now (link_of w m) read').0 c.in_ok-second.ensures.whole (b k.root) (b n.root) in
    let r = err_from_is_err_and c.from_residual-in_err-linked-2.result c.from_residual-in_err-linked-2.ensures.1 in
    record {
      answer = ap (result_map_both (two_links_of w b) (λ (z : Refusal). z)) r.1 ∙ ap (λ (z : Refusal). Err z) r.2
          ∙ sym (ap roots_of_links (through TooFewCells _ some ∙ bound _ (sym c.in_ok-g.ensures) ∙ bound _ read ∙ bound _ (sym c.in_ok-k.ensures) ∙ bound _ read' ∙ bound _ (sym c.in_ok-h.ensures)
          ∙ through (OtherNumbers (site 2 0)) _ sizes ∙ through (OtherNumbers (site 4 0)) _ sizes'
          ∙ through (WrongRoot (site 2 0)) _ (sym first ∙ must_last _ _ (sym c.in_ok-linked.ensures))
          ∙ stopped _ (sym (c.in_err-linked-2.ensures ∙ (λ j. must (second j) (WrongRoot (c.start_of-4.ensures j)))))));
      whole = rw r.1 tt;
    }

pub returns : goal.returns
returns g c =
    let w : ℕ = g.C.Value.Words.width in
    let b = g.C.Value.Words.bytes in
    let F = from_zeros w g.C.Compression.f in
    let cells : ℕ = length c.args.spans.now in
    let some = must_last (leb 21 cells) TooFewCells (sym c.in_ok-enough.ensures) in
    let enough : 21 ≤ cells = leb_from 21 cells TooFewCells c.in_ok-enough.ensures in
    let o = c.in_ok-g.g in
    let k = c.in_ok-k.k in
    let n = c.in_ok-h.h in
    let l = c.in_ok-first.first in
    let m = c.in_ok-second.second in
    let read = sym c.in_ok-first.ensures.answer in
    let read' = sym c.in_ok-second.ensures.answer in
    let sizes = sym c.joins.ensures ∙ must_last c.joins.result _ (sym c.in_ok-must.ensures) in
    let sizes' = sym c.joins_too.ensures ∙ must_last c.joins_too.result _ (sym c.in_ok-must-2.ensures) in
    let first = link_roots_are F cells enough l.old l.new l.digests.now (link_read w 2 c.args.link.now (link_of w l) read).0 c.in_ok-first.ensures.whole (b o.root) (b n.root) in
    let later : ℕ = length c.linked.new.spans in
    let kept = c.linked.auto.spans in
    let enough' : 21 ≤ later = omega arith in
    let second = link_roots_are F later enough' m.old m.new m.digests.now (link_read w 4 c.args.other_link.now (link_of w m) read').0 c.in_ok-second.ensures.whole (b k.root) (b n.root) in
    record {
      answer = (λ i. Ok ((b (c.root.ensures i), link_of w l), (b (c.root-2.ensures i), link_of w m))) ∙ sym (ap roots_of_links (through TooFewCells _ some ∙ bound _ (sym c.in_ok-g.ensures) ∙ bound _ read ∙ bound _ (sym c.in_ok-k.ensures) ∙ bound _ read' ∙ bound _ (sym c.in_ok-h.ensures)
          ∙ through (OtherNumbers (site 2 0)) _ sizes ∙ through (OtherNumbers (site 4 0)) _ sizes'
          ∙ through (WrongRoot (site 2 0)) _ (sym first ∙ must_last _ _ (sym c.in_ok-linked.ensures))
          ∙ through (WrongRoot (site 4 0)) _ (sym second ∙ must_last _ _ (sym c.in_ok-linked-2.ensures))));
      whole = (c.in_ok-first.ensures.whole, c.in_ok-second.ensures.whole);
    }
