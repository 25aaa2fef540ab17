use Rattle.std.proofs.Common.{ap, ◌∙◌}
use Rattle.std.specs.Bool.{then_some}
use Rattle.std.specs.Vec.{with_items}
use Rattle.std.proofs.lemmas.List.{with_items_is}
use Rattle.hexadecimal.proofs.Reading.{odd_spells_none, read}
use Rattle.hexadecimal.proofs.decode.Goals as goal

pub returns : goal.returns
returns c =
    let out = c.decode_to_slice-read.new.out in
    let bytes = with_items c.in_ok-bytes.bytes out in
    read (λ v. v.items) c.args.text.now out _ c.decode_to_slice-read.result bytes c.then_some.result
    (c.as_mut_slice.ensures.len ∙ c.in_ok-bytes.ensures.len) c.decode_to_slice-read.ensures.value (with_items_is c.in_ok-bytes.bytes out (c.decode_to_slice-read.auto.out ∙ c.as_mut_slice.ensures.len)) (c.then_some.ensures ∙ ap (λ t. then_some t bytes) c.is_ok.ensures.value)

pub returns-then-text-eq1 : goal.returns-then-text-eq1
returns-then-text-eq1 c bs = odd_spells_none c.args.text.now bs c.if-text-eq1.true
