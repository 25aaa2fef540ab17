use Rattle.std.proofs.Common.{rules}
use Rattle.record.specs.Views.{record_of}
use Rattle.record.proofs.Loaded.{said}
use Rattle.record.proofs.single.read_one.Goals as goal

pub returns-in_err-found-clause-answer : goal.returns-in_err-found-clause-answer
returns-in_err-found-clause-answer g c =
    let w = g.D.Words.width in
    let s = c.new-reader.result in
    let q = c.next.new.self.place in
    let r = record_of w c.in_ok-next.field-0 in
    let h = said g.T.Single.says g.T.Single.wanted w c.args.number s.number c.args.bytes.now s.input.now s.place q r c.of.result c.new-reader.ensures c.in_ok-next.ensures.answer c.of.ensures.says in
    search (rules, h)

pub returns-in_err-must-clause-answer : goal.returns-in_err-must-clause-answer
returns-in_err-must-clause-answer g c =
    let w = g.D.Words.width in
    let s = c.new-reader.result in
    let q = c.next.new.self.place in
    let r = record_of w c.in_ok-next.field-0 in
    let h = said g.T.Single.says g.T.Single.wanted w c.args.number s.number c.args.bytes.now s.input.now s.place q r c.of.result c.new-reader.ensures c.in_ok-next.ensures.answer c.of.ensures.says in
    search (rules, h)

pub returns-clause-answer : goal.returns-clause-answer
returns-clause-answer g c =
    let w = g.D.Words.width in
    let s = c.new-reader.result in
    let q = c.next.new.self.place in
    let r = record_of w c.in_ok-next.field-0 in
    let h = said g.T.Single.says g.T.Single.wanted w c.args.number s.number c.args.bytes.now s.input.now s.place q r c.of.result c.new-reader.ensures c.in_ok-next.ensures.answer c.of.ensures.says in
    search (rules, h)
