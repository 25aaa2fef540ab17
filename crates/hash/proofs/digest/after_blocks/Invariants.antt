use Rattle.std.proofs.Common.{◌≡◌, map}
use Rattle.cipher.specs.Blocks.{block_bytes}
use Rattle.hash.specs.Hash.{chain, from_zeros, start_of}
use Rattle.hash.proofs.digest.after_blocks.Given as goal

abbrev pub invariant-loop-block : goal.invariant-loop-block
invariant-loop-block g l =
    g.C.Value.Words.bytes l.h ≡ chain (from_zeros g.C.Value.Words.width g.C.Compression.f) (start_of g.C.Value.Words.width) (map block_bytes l.yielded)
