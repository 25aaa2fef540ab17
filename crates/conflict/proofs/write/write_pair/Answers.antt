use Rattle.std.proofs.Common.{◌≡◌, ℕ, ◌<◌, ◌≤◌, length, Ok, Err, sym, ap, ◌∙◌, arith}
use Rattle.std.proofs.lemmas.Result.{err_from_is_err_and}
use Rattle.cipher.proofs.Littles.{length_block}
use Rattle.cipher.proofs.Pieces.{stored_there}
use Rattle.hash.specs.Collisions.{Bytes, Input}
use Rattle.refusal.specs.Refusals.{Answer}
use Rattle.refusal.specs.declared.Refusal.TheVariants.{OutputShort}
use Rattle.release_log.specs.Buffers.{fitting, length_of, output_after}
use Rattle.release_log.proofs.Fitting.{must_err, leb_from, lt_from, fitting_ok, fitting_short}
use Rattle.record.specs.Records.{collision, spelled}
use Rattle.record.specs.Views.{input_of}
use Rattle.conflict.proofs.write.write_pair.Goals as goal

pub returns-in_err-fits : goal.returns-in_err-fits
returns-in_err-fits g c =
    let b = g.D.Words.bytes in
    let x : Input = input_of b c.args.pair.first in
    let y : Input = input_of b c.args.pair.second in
    let r : Bytes = spelled (collision x y) in
    let out : Bytes = c.args.out.now in
    let wide = g.met.D.Words.sized in
    let long : length r ≡ c.collision_len-len.result =
    c.collision_len-len.ensures.spells x y (wide c.args.pair.first.h, length_block c.args.pair.first.m, wide c.args.pair.second.h, length_block c.args.pair.second.m) in
    let short : length out < c.collision_len-len.result = lt_from c.collision_len-len.result (length out) OutputShort _ c.in_err-fits.ensures in
    let refused : fitting (length out) r ≡ Err OutputShort = fitting_short (length out) r (omega arith) in
    let p = err_from_is_err_and c.from_residual.result c.from_residual.ensures.1 in
    let e = (must_err _ OutputShort _ c.in_err-fits.ensures).1 in
    record {
      answer = p.1 ∙ ap (λ q. Err q) (p.2 ∙ e) ∙ sym (ap length_of refused);
      output = sym (ap (λ (a : Answer Bytes). output_after a out) refused);
    }

pub returns : goal.returns
returns g c =
    let b = g.D.Words.bytes in
    let x : Input = input_of b c.args.pair.first in
    let y : Input = input_of b c.args.pair.second in
    let r : Bytes = spelled (collision x y) in
    let out : Bytes = c.args.out.now in
    let wide = g.met.D.Words.sized in
    let long : length r ≡ c.collision_len-len.result =
    c.collision_len-len.ensures.spells x y (wide c.args.pair.first.h, length_block c.args.pair.first.m, wide c.args.pair.second.h, length_block c.args.pair.second.m) in
    let room : c.collision_len-len.result ≤ length out = leb_from c.collision_len-len.result (length out) OutputShort c.in_ok-fits.ensures in
    let accepted : fitting (length out) r ≡ Ok r = fitting_ok (length out) r (omega arith) in
    record {
      answer = ap (λ (k : ℕ). Ok k) (sym long) ∙ sym (ap length_of accepted);
      output = c.write_collision.ensures ∙ stored_there 0 r out (omega arith) ∙ sym (ap (λ (a : Answer Bytes). output_after a out) accepted);
    }
