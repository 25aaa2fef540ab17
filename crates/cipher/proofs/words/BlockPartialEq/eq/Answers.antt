use Rattle.std.proofs.Common.{◌≡◌, eqb, ◌++◌, Decides, ap, ◌∙◌, rules, eq-eqb, eqb-true}
use Rattle.std.proofs.lemmas.Slice.Eq.{bytes_eq-Decides}
use Rattle.cipher.specs.Bytes.{little}
use Rattle.cipher.specs.Blocks.{block_bytes}
use Rattle.cipher.proofs.Littles.{length_little, little_apart}
use Rattle.cipher.proofs.Pieces.{fronts, backs}
use Rattle.cipher.proofs.words.BlockPartialEq.eq.Goals as goal

pub returns-then-self-other : goal.returns-then-self-other
returns-then-self-other c =
    let a = c.args.self.now in
    let b = c.args.other.now in
    let decided : Decides (eqb a.hi b.hi) (block_bytes a ≡ block_bytes b) = (
      λ e. ap (λ w. little 8 w ++ little 8 a.hi) c.if-self-other.true ∙ ap (λ w. little 8 b.lo ++ little 8 w) (eqb-true a.hi b.hi e),
      λ e. eq-eqb a.hi b.hi (little_apart 8 a.hi b.hi (search rules) (search rules) (backs 8 (little 8 a.lo) (little 8 a.hi) (little 8 b.lo) (little 8 b.hi) (length_little 8 a.lo) (length_little 8 b.lo) e)),
    ) in
    search (rules, bytes_eq-Decides)

pub returns-else-self-other : goal.returns-else-self-other
returns-else-self-other c =
    let a = c.args.self.now in
    let b = c.args.other.now in
    let decided : Decides (eqb a.lo b.lo) (block_bytes a ≡ block_bytes b) = (
      λ e. absurd (c.if-self-other.false (eqb-true a.lo b.lo e)),
      λ e. eq-eqb a.lo b.lo (little_apart 8 a.lo b.lo (search rules) (search rules) (fronts 8 (little 8 a.lo) (little 8 a.hi) (little 8 b.lo) (little 8 b.hi) (length_little 8 a.lo) (length_little 8 b.lo) e)),
    ) in
    search (rules, bytes_eq-Decides)
