use Rattle.std.proofs.Common.{◌≡◌, ◌++◌, reverse, length}
use Rattle.stack.specs.Held.{held}
use Rattle.tree.specs.Descents.{spans_left}
use Rattle.tree.specs.Ways.{way_spans}
use Rattle.paths.proofs.beside.beside.Given as goal

abbrev pub invariant-loop-span : goal.invariant-loop-span
invariant-loop-span l =
    (held l.spans ++ spans_left l.span-iterator ≡ reverse (way_spans l.fn.way)) × (length l.spans.cells.now ≡ length l.fn.cells)
