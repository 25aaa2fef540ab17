-- The bytes of a block. Assumes nothing.
use Rattle.std.specs.Prelude.{ℕ, List, ◌++◌}
use Rattle.cipher.specs.Bytes.{little}
use Rattle.cipher.specs.declared.words.Block.{Block}

-- sixteen bytes, from two words of eight
abbrev pub block_bytes : Block → List ℕ
block_bytes b = little 8 b.lo ++ little 8 b.hi
