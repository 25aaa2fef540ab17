use Rattle.std.proofs.Common.{◌≡◌, ◌/◌, ◌%◌, get_or, refl, ap, ◌∙◌}
use Rattle.aes.specs.Field.{S}
use Rattle.aes.specs.Fours.{four_of}
use Rattle.aes.proofs.columns.shifted.Goals as goal

pub returns : goal.returns
returns c =
    let a : c.sub.result ≡ S (c.args.a % 256) = c.sub.ensures.value ∙ ap (λ l. S (get_or l 0 0)) c.to_le_bytes.ensures in
    let b : c.sub-2.result ≡ S (c.args.b / 256 % 256) = c.sub-2.ensures.value ∙ ap (λ l. S (get_or l 1 0)) c.to_le_bytes-2.ensures in
    let d : c.sub-3.result ≡ S (c.args.c / 65536 % 256) = c.sub-3.ensures.value ∙ ap (λ l. S (get_or l 2 0)) c.to_le_bytes-3.ensures in
    let e : c.sub-4.result ≡ S (c.args.d / 16777216 % 256) = c.sub-4.ensures.value ∙ ap (λ l. S (get_or l 3 0)) c.to_le_bytes-4.ensures in
    four_of c.sub.result c.sub-2.result c.sub-3.result c.sub-4.result c.from_le_bytes.result c.sub.type_inv c.sub-2.type_inv c.sub-3.type_inv c.sub-4.type_inv c.from_le_bytes.ensures
    ∙ rw (a, b, d, e) refl
