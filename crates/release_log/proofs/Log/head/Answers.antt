use Rattle.std.proofs.Common.{◌≡◌, ℕ, ◌+◌, ◌<◌, ◌≤◌, true, length, Ok, Err, sym, ap, ◌∙◌, arith}
use Rattle.std.specs.Option.{option_map}
use Rattle.std.proofs.lemmas.Option.{MatchOption-at_some}
use Rattle.std.proofs.lemmas.Result.{err_from_is_err_and}
use Rattle.cipher.specs.Bytes.{written, stored}
use Rattle.cipher.proofs.Pieces.{stored_there}
use Rattle.hash.specs.Hash.{from_zeros}
use Rattle.hash.specs.Collisions.{Bytes}
use Rattle.refusal.specs.Refusals.{Answer}
use Rattle.refusal.specs.declared.Refusal.TheVariants.{MadeOverLeaves, TooFewCells, OutputShort}
use Rattle.tree.specs.Digests.{root_at}
use Rattle.record.specs.Records.{Head, head, spelled}
use Rattle.record.specs.Views.{head_of}
use Rattle.release_log.specs.Buffers.{length_of, output_after}
use Rattle.release_log.specs.Logs.{LogState, head_over, head_answer}
use Rattle.release_log.specs.States.{state_of}
use Rattle.release_log.proofs.Fitting.{given_some, must_err, leb_from, lt_from, fitting_ok, fitting_short}
use Rattle.release_log.proofs.Written.{root_found, head_checked, length_head}
use Rattle.release_log.proofs.Log.head.Goals as goal

pub returns-in_err-fits : goal.returns-in_err-fits
returns-in_err-fits g c =
    let F = from_zeros g.C.Value.Words.width g.C.Compression.f in
    let l : LogState = state_of g.S.Leaves.items g.S.Store.space c.args.self.now in
    let n : ℕ = c.args.n in
    let cells : ℕ = length c.args.cells.now in
    let out : Bytes = c.args.out.now in
    let b = g.C.Value.Words.bytes in
    let found = root_found F l.leaves n cells (b c.in_ok-root.root) (ap (option_map b) (sym c.in_ok-root.ensures.ok_part) ∙ c.range_root.ensures) in
    let started : l.opened ≡ true = given_some c.args.self.now.used MadeOverLeaves _ c.in_ok-open.ensures in
    let some : 21 ≤ cells = leb_from 21 cells TooFewCells c.in_ok-enough.ensures in
    let wide : length (root_at F l.leaves n) ≡ g.C.Value.Words.width = ap length (sym found.3) ∙ g.met.C.Value.Words.sized c.in_ok-root.root in
    let long : length (spelled (head (head_over F l.leaves n))) ≡ 8 + g.C.Value.Words.width = length_head (head_over F l.leaves n) ∙ ap (λ (k : ℕ). 8 + k) wide in
    let short : length out < c.head_len-len.result = lt_from c.head_len-len.result (length out) OutputShort _ c.in_err-fits.ensures in
    let refused : head_answer F l cells (length out) n ≡ Err OutputShort =
    head_checked F l cells (length out) n started some found.0 found.2 found.1
    ∙ fitting_short (length out) (spelled (head (head_over F l.leaves n))) (omega (arith, c.head_len-len.ensures.value)) in
    let p = err_from_is_err_and c.from_residual-in_err-fits.result c.from_residual-in_err-fits.ensures.1 in
    let e = (must_err _ OutputShort _ c.in_err-fits.ensures).1 in
    record {
      answer = p.1 ∙ ap (λ r. Err r) (p.2 ∙ e) ∙ sym (ap length_of refused);
      output = sym (ap (λ (a : Answer Bytes). output_after a out) refused);
    }

pub returns : goal.returns
returns g c =
    let F = from_zeros g.C.Value.Words.width g.C.Compression.f in
    let l : LogState = state_of g.S.Leaves.items g.S.Store.space c.args.self.now in
    let n : ℕ = c.args.n in
    let cells : ℕ = length c.args.cells.now in
    let out : Bytes = c.args.out.now in
    let b = g.C.Value.Words.bytes in
    let found = root_found F l.leaves n cells (b c.in_ok-root.root) (ap (option_map b) (sym c.in_ok-root.ensures.ok_part) ∙ c.range_root.ensures) in
    let started : l.opened ≡ true = given_some c.args.self.now.used MadeOverLeaves _ c.in_ok-open.ensures in
    let some : 21 ≤ cells = leb_from 21 cells TooFewCells c.in_ok-enough.ensures in
    let r : Bytes = spelled (head (head_over F l.leaves n)) in
    let wide : length (root_at F l.leaves n) ≡ g.C.Value.Words.width = ap length (sym found.3) ∙ g.met.C.Value.Words.sized c.in_ok-root.root in
    let long : length r ≡ 8 + g.C.Value.Words.width = length_head (head_over F l.leaves n) ∙ ap (λ (k : ℕ). 8 + k) wide in
    let room : c.head_len-len.result ≤ length out = leb_from c.head_len-len.result (length out) OutputShort c.in_ok-fits.ensures in
    let accepted : head_answer F l cells (length out) n ≡ Ok r =
    head_checked F l cells (length out) n started some found.0 found.2 found.1
    ∙ fitting_ok (length out) r (omega (arith, c.head_len-len.ensures.value)) in
    let made = MatchOption-at_some _ _ c.in_ok-head.head c.in_ok-head.ensures.ok_part c.new.ensures in
    let same : head_of g.C.Value.Words.bytes c.in_ok-head.head ≡ head_over F l.leaves n =
    λ i. record { size = made.0 i; root = (ap g.C.Value.Words.bytes made.1 ∙ found.3) i } in
    let written-there : stored 0 r out ≡ written 0 r out = stored_there 0 r out (omega (arith, c.head_len-len.ensures.value)) in
    record {
      answer = ap (λ (k : ℕ). Ok k) (c.head_len-len.ensures.value ∙ sym long) ∙ sym (ap length_of accepted);
      output = c.write_head.ensures ∙ ap (λ (h : Head). stored 0 (spelled (head h)) out) same ∙ written-there ∙ sym (ap (λ (a : Answer Bytes). output_after a out) accepted);
    }
