use Rattle.std.proofs.Common.{◌≡◌, map, take, ap, ◌∙◌}
use Rattle.std.proofs.lemmas.Iterator.{YieldsList-from_take}
use Rattle.std.proofs.lemmas.Iterator.Consumers.{YieldsList-from_first}
use Rattle.cipher.specs.Blocks.{block_bytes}
use Rattle.hash.specs.Hash.{Hashing, blocks, chain, from_zeros}
use Rattle.hash.specs.Left.{blocks_left}
use Rattle.hash.proofs.Runs.{items_taken}
use Rattle.hash.proofs.digest.value_before.Goals as goal

pub returns : goal.returns
returns g c =
    let F : Hashing = from_zeros g.C.Value.Words.width g.C.Compression.f in
    let bs = blocks c.args.message.now in
    let k = c.args.k in
    let e = c.after_blocks.ensures in
    let left : blocks_left c.take.result.iter ≡ bs = ap blocks_left c.take.ensures.source ∙ c.padded_blocks.ensures in
    let all : map block_bytes e.0 ≡ take k bs = items_taken e.0 e.1 (YieldsList-from_take k (YieldsList-from_first block_bytes blocks_left bs left) c.take.ensures.count) in
    e.2 ∙ ap (chain F F.start) all
