use Rattle.std.proofs.Common.{◌≡◌, ◌+◌, length, Ok}
use Rattle.record.specs.Records.{read_at}
use Rattle.record.specs.Kinds.{row_of}
use Rattle.record.specs.Views.{record_of}
use Rattle.record.proofs.Steps.{moves, a_record}
use Rattle.record.proofs.reader.Reader.next.Goals as goal

pub returns-clause-answer : goal.returns-clause-answer
returns-clause-answer g c =
    let w = g.D.Words.width in
    let s = c.args.self.now in
    let bs = s.input.now in
    let r = record_of w c.in_ok-read.read in
    let t = c.in_ok-header.header in
    let a = c.in_ok-header.ensures in
    let b = c.in_ok-payload.ensures in
    let pay = c.in_ok-payload.payload.now in
    let e : read_at w s.number bs s.place ≡ Ok (r, s.place + 4 + length pay) =
    a_record w s.number bs s.place t.len t.kind a.0 a.1 a.2 pay b.0 b.1 (row_of w c.in_ok-kind.kind) (c.in_ok-kind.ensures w) r c.in_ok-read.ensures.answer in
    (moves s.place c.drop-guard-2.new.self.0 (read_at w s.number bs s.place) r (s.place + 4 + length pay) c.drop-guard-2.ensures e).0

pub returns-clause-place : goal.returns-clause-place
returns-clause-place g c =
    let w = g.D.Words.width in
    let s = c.args.self.now in
    let bs = s.input.now in
    let r = record_of w c.in_ok-read.read in
    let t = c.in_ok-header.header in
    let a = c.in_ok-header.ensures in
    let b = c.in_ok-payload.ensures in
    let pay = c.in_ok-payload.payload.now in
    let e : read_at w s.number bs s.place ≡ Ok (r, s.place + 4 + length pay) =
    a_record w s.number bs s.place t.len t.kind a.0 a.1 a.2 pay b.0 b.1 (row_of w c.in_ok-kind.kind) (c.in_ok-kind.ensures w) r c.in_ok-read.ensures.answer in
    (moves s.place c.drop-guard-2.new.self.0 (read_at w s.number bs s.place) r (s.place + 4 + length pay) c.drop-guard-2.ensures e).1
