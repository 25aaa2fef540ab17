-- When a path or a link reads. Assumes nothing.
use Rattle.std.proofs.Common.{◌≡◌, ℕ, ◌*◌, ◌<◌, ◌≤◌, Bool, true, false, cond, eqb, leb, length, ap, ◌∙◌}
use Rattle.std.proofs.lemmas.Bool.{le-leb, eq-eqb}
use Rattle.tree.specs.Spans.{largest, path_spans, link_spans}
use Rattle.tree.specs.declared.ways.Way.{Way}
use Rattle.tree.specs.declared.ways.Way.TheVariants.{ToLeaf, ToEnd}
use Rattle.tree.specs.Ways.{in_way, way_spans}
use Rattle.tree.proofs.Descent.{in_tree_holds, in_link_holds}
use Rattle.roots.specs.Roots.{cells_needed}
use Rattle.paths.specs.Rebuilds.{way_reads, path_reads, link_reads}

way_reads_holds : (w cells long : ℕ) (way : Way) → in_way way ≡ true → cells_needed ≤ cells → long ≡ w * length (way_spans way) → way_reads w way cells long ≡ true
way_reads_holds w cells long way a k e =
    ap (λ (t : Bool). cond t (cond (leb cells_needed cells) (eqb long (w * length (way_spans way))) false) false) a
    ∙ ap (λ (t : Bool). cond t (eqb long (w * length (way_spans way))) false) (le-leb cells_needed cells k)
    ∙ eq-eqb long (w * length (way_spans way)) e

pub path_reads_holds : (w i n cells long : ℕ) → i < n → n ≤ largest → cells_needed ≤ cells → long ≡ w * length (path_spans i n) → path_reads w i n cells long ≡ true
path_reads_holds w i n cells long a b = way_reads_holds w cells long (ToLeaf i n) (in_tree_holds i n a b)

pub link_reads_holds : (w m n cells long : ℕ) → 0 < m → m ≤ n → n ≤ largest → cells_needed ≤ cells → long ≡ w * length (link_spans m n) → link_reads w m n cells long ≡ true
link_reads_holds w m n cells long z a b = way_reads_holds w cells long (ToEnd m n) (in_link_holds m n z a b)
