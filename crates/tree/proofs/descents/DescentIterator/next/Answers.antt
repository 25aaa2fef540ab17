use Rattle.std.proofs.Common.{rules, sym, ◌∙◌}
use Rattle.tree.proofs.Onward.{on_second}
use Rattle.tree.proofs.descents.DescentIterator.next.Goals as goal

pub returns-clause-steps : goal.returns-clause-steps
returns-clause-steps c =
    let d = c.args.self.now in
    (on_second d.part c.halves.result.0 c.halves.result.1 c.halves.ensures d.way d.inside (sym c.ends_with.ensures ∙ c.if-ends_with.false)
    (sym c.passes_low.ensures ∙ c.if-passes_low.false)).1

pub returns-clause-goes : goal.returns-clause-goes
returns-clause-goes c =
    let e = returns-clause-steps c in
    search rules
