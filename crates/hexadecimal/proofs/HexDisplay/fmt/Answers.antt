use Rattle.std.proofs.Common.{subst, rules}
use Rattle.std.specs.Fmt.{HasWritten}
use Rattle.std.proofs.lemmas.List.{take_all}
use Rattle.hex.specs.Hex.{encode_lower}
use Rattle.hexadecimal.proofs.Shown.{none_yet, byte_more}
use Rattle.hexadecimal.proofs.HexDisplay.fmt.Goals as goal

pub loop-byte-init : goal.loop-byte-init
loop-byte-init g c = none_yet g.W.Write.write_str_gives c.args.f.now

pub loop-byte-preserved : goal.loop-byte-preserved
loop-byte-preserved g c =
    byte_more g.W.Write.write_str_gives c.args.self.now.0.now c.loop-byte.byte-index c.digit.result c.digit-in-loop-byte.result
    c.args.f.now c.loop-byte.f c.write_char.new.self c.write_char-in-loop-byte.new.self
    c.write_char.result c.write_char-in-loop-byte.result _ _
    c.loop-byte-test.true (search rules) c.digit.ensures c.digit-in-loop-byte.ensures c.loop-byte.invariant
    c.write_char.ensures.writes c.in_ok-write_char.was
    c.write_char-in-loop-byte.ensures.writes c.in_ok-write_char-2.was

pub returns-clause-writes : goal.returns-clause-writes
returns-clause-writes g c plain ok =
    let whole = take_all c.loop-byte.byte-index c.args.self.now.0.now c.loop-byte-test.false in
    subst (λ l. HasWritten g.W.Write.write_str_gives c.args.f.now (encode_lower l) c.loop-byte.f) whole (c.loop-byte.invariant plain)
