use Rattle.std.proofs.Common.{◌≡◌, ℕ, List, Bool, cond, ◌&&◌, length, Some, sym, ap, ap₂, ◌∙◌}
use Rattle.std.specs.Str.{bytes_eq}
use Rattle.paths.specs.Parts.{node_of, apart_of}
use Rattle.paths.specs.declared.apart.Node.{Node}
use Rattle.paths.proofs.Nodes.{same_append}
use Rattle.paths.proofs.apart.topmost.Goals as goal

-- nodes are equal where their messages are
same : {D : Type 0} (b : D → List ℕ) (x y : Node D) (l r t : Bool) → length (b x.left) ≡ length (b y.left) → l ≡ bytes_eq (b x.left) (b y.left) → r ≡ bytes_eq (b x.right) (b y.right) → t ≡ (l && r) →
    bytes_eq (node_of b x) (node_of b y) ≡ t
same b x y l r t long p q e = same_append (b x.left) (b y.left) (b x.right) (b y.right) long ∙ sym (ap₂ (λ (s u : Bool). s && u) p q) ∙ sym e

pub returns-then-eq : goal.returns-then-eq
returns-then-eq g c o =
    let b = g.D.Words.bytes in
    let x = c.args.first in
    let y = c.args.second in
    let is = same b x y _ _ c.eq.result (g.met.D.Words.sized x.left ∙ sym (g.met.D.Words.sized y.left)) (g.met.D.Words.equals x.left y.left) (g.met.D.Words.equals x.right y.right) c.eq.ensures in
    sym (ap (λ t. cond t (apart_of b o c.args.below) (Some (node_of b x, node_of b y))) (is ∙ c.if-eq.true))

pub returns : goal.returns
returns g c o =
    let b = g.D.Words.bytes in
    let x = c.args.first in
    let y = c.args.second in
    let is = same b x y _ _ c.eq.result (g.met.D.Words.sized x.left ∙ sym (g.met.D.Words.sized y.left)) (g.met.D.Words.equals x.left y.left) (g.met.D.Words.equals x.right y.right) c.eq.ensures in
    sym (ap (λ t. cond t (apart_of b o c.args.below) (Some (node_of b x, node_of b y))) (is ∙ c.if-eq.false))
