use Rattle.std.proofs.Common.{◌≡◌, map, ap, ◌∙◌}
use Rattle.std.proofs.lemmas.Iterator.Consumers.{YieldsList-from_first}
use Rattle.cipher.specs.Blocks.{block_bytes}
use Rattle.hash.specs.Hash.{Hashing, blocks, chain, from_zeros}
use Rattle.hash.specs.Left.{blocks_left}
use Rattle.hash.proofs.Runs.{items_taken}
use Rattle.hash.proofs.digest.digest.Goals as goal

pub returns : goal.returns
returns g c =
    let F : Hashing = from_zeros g.C.Value.Words.width g.C.Compression.f in
    let e = c.after_blocks.ensures in
    let all : map block_bytes e.0 ≡ blocks c.args.message.now = items_taken e.0 e.1 (YieldsList-from_first block_bytes blocks_left (blocks c.args.message.now) c.padded_blocks.ensures) in
    e.2 ∙ ap (chain F F.start) all
