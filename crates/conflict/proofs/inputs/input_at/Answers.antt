use Rattle.std.proofs.Common.{ℕ, List, Some, sym, ap, ◌∙◌}
use Rattle.std.specs.Option.{option_map}
use Rattle.cipher.specs.Blocks.{block_bytes}
use Rattle.hash.specs.Hash.{from_zeros}
use Rattle.record.specs.Views.{input_of}
use Rattle.conflict.proofs.Positions.{input_there, input_gone}
use Rattle.conflict.proofs.inputs.input_at.Goals as goal

pub returns : goal.returns
returns g c =
    let F = from_zeros g.C.Value.Words.width g.C.Compression.f in
    let b : List ℕ = block_bytes c.in_ok-m.m in
    ap (λ (h : List ℕ). Some (h, b)) c.value_before-h.ensures ∙ sym (input_there F c.args.message.now c.args.k b (sym c.in_ok-m.ensures))

pub returns-in_err-m : goal.returns-in_err-m
returns-in_err-m g c =
    ap (option_map (input_of g.C.Value.Words.bytes)) c.from_residual.ensures
    ∙ sym (input_gone (from_zeros g.C.Value.Words.width g.C.Compression.f) c.args.message.now c.args.k (sym c.in_err-m.ensures))
