-- The blocks that an iterator over a padded message has not given. Assumes nothing.
use Rattle.std.specs.Prelude.{ℕ, List, drop}
use Rattle.hash.specs.Hash.{blocks}
use Rattle.hash.specs.declared.padding.PaddedBlocks.{PaddedBlocks}

abbrev pub blocks_left : PaddedBlocks → List (List ℕ)
blocks_left s = drop s.at (blocks s.message.now)
