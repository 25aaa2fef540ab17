-- The ranges that a descent has still to give. Assumes nothing.
use Rattle.std.specs.Prelude.{List, reverse}
use Rattle.tree.specs.declared.descents.Descent.{Descent}
use Rattle.tree.specs.declared.spans.Span.{Span}
use Rattle.tree.specs.Ways.{spans_in}

-- the topmost first
abbrev pub spans_left : Descent → List Span
spans_left d = reverse (spans_in d.way d.part)
