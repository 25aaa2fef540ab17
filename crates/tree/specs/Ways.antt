-- Ways from the root of a tree down, and the ranges of leaves beside them. Assumes nothing.
use Rattle.std.specs.Prelude.{◌≡◌, ℕ, ◌-◌, Bool, true, false, cond, List, length, Some, None, Option, ◌==◌, nat_le, nat_lt}
use Rattle.tree.specs.declared.spans.Span.{Span}
use Rattle.tree.specs.declared.ways.Way.{Way}
use Rattle.tree.specs.declared.ways.Way.TheVariants.{ToLeaf, ToEnd}
use Rattle.tree.specs.declared.ways.Side.{Side}
use Rattle.tree.specs.declared.ways.Side.TheVariants.{Low, High, Through}
use Rattle.tree.specs.Links.{sub, link_turns, kept}
use Rattle.tree.specs.Spans.{span_of, path_spans, link_spans, in_tree, in_link}
use Rattle.tree.specs.Tree.{shape_of, path, Turn, turns}

-- whether there is such a way, and how many leaves its tree has
abbrev pub in_way : Way → Bool
in_way (ToLeaf i n) = in_tree i n
in_way (ToEnd m n) = in_link m n

abbrev pub way_leaves : Way → ℕ
way_leaves (ToLeaf i n) = n
way_leaves (ToEnd m n) = n

-- whether it stays before leaf a
abbrev pub passes_low : Way → ℕ → Bool
passes_low (ToLeaf i n) a = nat_lt i a
passes_low (ToEnd m n) a = nat_le m a

-- how it goes by a range: before it, after it, or through it
abbrev pub side_of : Way → Span → Side
side_of w s = cond (passes_low w s.from) Low (cond (passes_low w s.to) Through High)

-- the turns from the root down, and whether it ends with a part that begins the tree or with a leaf, so that its digest is known
abbrev pub way_turns : Way → List Turn
way_turns (ToLeaf i n) = turns (shape_of n) i
way_turns (ToEnd m n) = link_turns (shape_of n) m

abbrev pub way_kept : Way → Bool
way_kept (ToLeaf i n) = true
way_kept (ToEnd m n) = kept (link_turns (shape_of n) m)

-- the ranges beside it, the lowest first: those of a path or of a link
abbrev pub way_spans : Way → List Span
way_spans (ToLeaf i n) = path_spans i n
way_spans (ToEnd m n) = link_spans m n

-- how many there are, where there is such a way, and how many at most
abbrev pub way_count : Way → Option ℕ
way_count w = cond (in_way w) (Some (length (way_spans w))) None

abbrev pub most_spans : Way → ℕ
most_spans (ToLeaf i n) = 20
most_spans (ToEnd m n) = 21

-- that it goes through a part of the tree
abbrev pub Inside : Way → Span → Type 0
Inside w part = (passes_low w part.from ≡ false) × (passes_low w part.to ≡ true)

-- whether it ends with such a part
abbrev pub ends_with : Way → Span → Bool
ends_with (ToLeaf i n) part = part.to - part.from == 1
ends_with (ToEnd m n) part = part.to == m

-- the ranges that lie in such a part
abbrev pub spans_in : Way → Span → List Span
spans_in (ToLeaf i n) part = path span_of (shape_of (part.to - part.from)) part.from (i - part.from)
spans_in (ToEnd m n) part = sub span_of (shape_of (part.to - part.from)) part.from (m - part.from) (part.from == 0)
