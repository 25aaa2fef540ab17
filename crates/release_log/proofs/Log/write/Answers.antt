use Rattle.std.proofs.Common.{◌≡◌, ℕ, ◌+◌, ◌-◌, ◌*◌, ◌<◌, ◌≤◌, min, Bool, true, cond, ◌++◌, length, take, drop, Ok, Err, sym, refl, ap, ◌∙◌, arith, length-drop, length-take}
use Rattle.std.proofs.lemmas.Result.{err_from_is_err_and}
use Rattle.cipher.specs.Bytes.{little, written, stored}
use Rattle.hash.specs.Hash.{from_zeros}
use Rattle.hash.specs.Collisions.{Bytes}
use Rattle.hash.specs.Widths.{Sized}
use Rattle.hash.proofs.Widths.{sized_from}
use Rattle.refusal.specs.Refusals.{Answer}
use Rattle.refusal.specs.declared.Refusal.TheVariants.{MadeOverLeaves, TooFewCells, OutputShort}
use Rattle.tree.specs.Ways.{in_way, way_leaves, way_spans}
use Rattle.paths.specs.Payloads.{way_size, way_payload, way_fits}
use Rattle.record.specs.Frames.{framed, frame_of}
use Rattle.record.specs.Records.{spelled}
use Rattle.record.proofs.Framing.{length_framed}
use Rattle.release_log.specs.Buffers.{length_of, output_after}
use Rattle.release_log.specs.Logs.{LogState}
use Rattle.release_log.specs.Ways.{way_kind, way_record, way_answer}
use Rattle.release_log.specs.States.{state_of}
use Rattle.release_log.proofs.Fitting.{given_some, must_err, leb_from, lt_from, fitting_ok, fitting_short}
use Rattle.release_log.proofs.Written.{recorded, fits_true, counted, asked_checked, length_way, way_framed}
use Rattle.release_log.proofs.Log.write.Goals as goal

pub returns-in_err-fits : goal.returns-in_err-fits
returns-in_err-fits g c =
    let w : ℕ = g.C.Value.Words.width in
    let F = from_zeros w g.C.Compression.f in
    let sized : Sized F = sized_from w g.C.Compression.f g.met.C.Value.Words.least g.met.C.Value.Words.most g.met.C.Compression.outputs in
    let l : LogState = state_of g.S.Leaves.items g.S.Store.space c.args.self.now in
    let way = c.args.way in
    let n : ℕ = way_leaves way in
    let cells : ℕ = min (length c.args.spans.now) (length c.args.cells.now) in
    let out : Bytes = c.args.out.now in
    let asked = counted (in_way way) c.in-Some.digests (length (way_spans way)) c.in-Some.ensures.count in
    let started : l.opened ≡ true = given_some c.args.self.now.used MadeOverLeaves _ c.in_ok-open.ensures in
    let lent : 21 ≤ c.min.result = leb_from 21 c.min.result TooFewCells c.in_ok-enough.ensures in
    let some : 21 ≤ cells = omega (arith, c.min.ensures) in
    let there : n ≤ length l.leaves = omega (arith, c.count.ensures.value, c.if-leaves-count.false, c.leaves.ensures) in
    let r : Bytes = spelled (way_record F l.leaves way) in
    let long : length r ≡ 12 + w * length (way_spans way) = length_way F sized l.leaves c.count.ensures.wide way asked.0 there in
    let size : c.size.result * c.in-Some.digests ≡ w * length (way_spans way) = ap (λ (k : ℕ). k * c.in-Some.digests) c.size.ensures ∙ ap (λ (k : ℕ). w * k) asked.1 in
    let short : length out < 4 + (8 + c.size.result * c.in-Some.digests) = lt_from (4 + (8 + c.size.result * c.in-Some.digests)) (length out) OutputShort _ c.in_err-fits.ensures in
    let refused : way_answer F l cells (length out) way ≡ Err OutputShort =
    asked_checked F l cells (length out) n started some (in_way way) r asked.0 there ∙ fitting_short (length out) r (omega arith) in
    let p = err_from_is_err_and c.from_residual-in_err-fits.result c.from_residual-in_err-fits.ensures.1 in
    let e = (must_err _ OutputShort _ c.in_err-fits.ensures).1 in
    record {
      answer = p.1 ∙ ap (λ r. Err r) (p.2 ∙ e) ∙ sym (ap length_of refused);
      output = sym (ap (λ (a : Answer Bytes). output_after a out) refused);
    }

pub returns : goal.returns
returns g c =
    let w : ℕ = g.C.Value.Words.width in
    let F = from_zeros w g.C.Compression.f in
    let sized : Sized F = sized_from w g.C.Compression.f g.met.C.Value.Words.least g.met.C.Value.Words.most g.met.C.Compression.outputs in
    let l : LogState = state_of g.S.Leaves.items g.S.Store.space c.args.self.now in
    let way = c.args.way in
    let n : ℕ = way_leaves way in
    let cells : ℕ = min (length c.args.spans.now) (length c.args.cells.now) in
    let out : Bytes = c.args.out.now in
    let asked = counted (in_way way) c.in-Some.digests (length (way_spans way)) c.in-Some.ensures.count in
    let started : l.opened ≡ true = given_some c.args.self.now.used MadeOverLeaves _ c.in_ok-open.ensures in
    let lent : 21 ≤ c.min.result = leb_from 21 c.min.result TooFewCells c.in_ok-enough.ensures in
    let some : 21 ≤ cells = omega (arith, c.min.ensures) in
    let there : n ≤ length l.leaves = omega (arith, c.count.ensures.value, c.if-leaves-count.false, c.leaves.ensures) in
    let pay : Bytes = way_payload F l.leaves way in
    let r : Bytes = spelled (way_record F l.leaves way) in
    let framed-is : r ≡ framed (frame_of (way_kind way) pay) = way_framed F l.leaves way in
    let size : ℕ = 8 + c.size.result * c.in-Some.digests in
    let long : length r ≡ 12 + w * length (way_spans way) = length_way F sized l.leaves c.count.ensures.wide way asked.0 there in
    let same : c.size.result * c.in-Some.digests ≡ w * length (way_spans way) = ap (λ (k : ℕ). k * c.in-Some.digests) c.size.ensures ∙ ap (λ (k : ℕ). w * k) asked.1 in
    let full : length r ≡ 4 + length pay = ap length framed-is ∙ length_framed _ in
    let room : 4 + size ≤ length out = leb_from (4 + size) (length out) OutputShort c.in_ok-fits.ensures in
    let accepted : way_answer F l cells (length out) way ≡ Ok r =
    asked_checked F l cells (length out) n started some (in_way way) r asked.0 there ∙ fitting_ok (length out) r (omega arith) in
    let new : Bytes = c.write_header.new.into in
    let kept : length new ≡ length out = omega arith in
    let part : Bytes = take (length new - 4) (drop 4 new) in
    let long-part : length part ≡ length out - 4 = length-take (length new - 4) (drop 4 new) ∙ omega (arith, length-drop 4 new) in
    let fitted : way_fits w way (length l.leaves) (length c.args.spans.now) (length c.args.cells.now) (length part) ≡ true =
    fits_true _ n (length l.leaves) (length c.args.spans.now) (length c.args.cells.now) (way_size w way) (length part) asked.0 there (omega arith) (omega arith) (omega arith) in
    let wrote = c.way_into.ensures.bytes ∙ ap (λ (b : Bool). cond b (written 0 pay part) part) fitted in
    record {
      answer = ap (λ (k : ℕ). Ok k) (omega arith) ∙ sym (ap length_of accepted);
      output = recorded (way_kind way) size pay out new c.way_into.new.out _ (omega arith) room kept (c.write_header.ensures ∙ ap (λ (k : ℕ). stored 0 (little 2 size ++ little 2 k) out) c.kind_of.ensures) wrote refl ∙ ap (λ (x : Bytes). written 0 x out) (sym framed-is) ∙ sym (ap (λ (a : Answer Bytes). output_after a out) accepted);
    }
