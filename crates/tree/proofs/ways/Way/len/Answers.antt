use Rattle.std.proofs.Common.{Some, refl, ap, ◌∙◌}
use Rattle.std.proofs.lemmas.Iterator.Consumers.{YieldsList-from_first, count_from_yields_List}
use Rattle.tree.specs.Descents.{spans_left}
use Rattle.tree.proofs.Onward.{counted}
use Rattle.tree.proofs.ways.Way.len.Goals as goal

pub returns-clause-count : goal.returns-clause-count
returns-clause-count c =
    let left = spans_left c.in_ok-descent.field-0 in
    ap Some (count_from_yields_List c.in_ok-descent.field-0 c.count.result c.count.ensures.ran (YieldsList-from_first (λ x. x) spans_left left refl))
    ∙ counted c.args.self left c.in_ok-descent.ensures.spans
