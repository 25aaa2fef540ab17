use Rattle.std.proofs.Common.{ℕ, ◌≡◌, ◌+◌, ◌<◌, List, [], length, drop, sym, arith, rules, length-drop}
use Rattle.cipher.specs.Blocks.{block_bytes}
use Rattle.hash.specs.Hash.{blocks}
use Rattle.hash.proofs.Padded.{nth_there, nth_gone, length_blocks}
use Rattle.hash.proofs.padding.PaddedBlocksIterator.next.Goals as goal

pub returns-in_err-block-clause-steps : goal.returns-in_err-block-clause-steps
returns-in_err-block-clause-steps c =
    let s = c.args.self.now in
    let gone : drop s.at (blocks s.message.now) ≡ [] = nth_gone (blocks s.message.now) s.at (sym c.in_err-block.ensures) in
    search rules

pub overflow_add-self : goal.overflow_add-self
overflow_add-self c =
    let s = c.args.self.now in
    let there = nth_there (blocks s.message.now) s.at (block_bytes c.in_ok-block.block) (sym c.in_ok-block.ensures) in
    record { fits = omega (arith, there.0, length_blocks s.message.now) }

pub returns-clause-steps : goal.returns-clause-steps
returns-clause-steps c =
    let s = c.args.self.now in
    (nth_there (blocks s.message.now) s.at (block_bytes c.in_ok-block.block) (sym c.in_ok-block.ensures)).1

pub returns-clause-goes : goal.returns-clause-goes
returns-clause-goes c =
    let s = c.args.self.now in
    let bs : List (List ℕ) = blocks s.message.now in
    let there = nth_there bs s.at (block_bytes c.in_ok-block.block) (sym c.in_ok-block.ensures) in
    let fewer : length (drop (s.at + 1) bs) < length (drop s.at bs) = omega (arith, there.0, length-drop s.at bs, length-drop (s.at + 1) bs) in
    search rules
