use Rattle.std.proofs.Common.{◌≡◌, ℕ, ◌+◌, ◌-◌, ◌*◌, ◌≤◌, List, length, take, drop, replicate, sym, ap, ◌∙◌, arith, take_all}
use Rattle.cipher.specs.Blocks.{block_bytes}
use Rattle.cipher.proofs.Littles.{length_block}
use Rattle.cipher.proofs.Pieces.{stored_there, written_front}
use Rattle.aes.specs.Aes.{expanded}
use Rattle.aes.specs.Expansion.{expanded_none, grown, newest}
use Rattle.aes.proofs.keys.round_keys.Goals as goal

pub loop-i-init : goal.loop-i-init
loop-i-init c = (sym (expanded_none 4 _), c.load_word-last.ensures, omega arith)

pub loop-i-preserved : goal.loop-i-preserved
loop-i-preserved c =
    let i = c.loop-i.i in
    let xs = c.loop-i.keys in
    let key = take 16 c.store.new.into in
    let back = c.load_word.result in
    let st = c.temp.result in
    let far = c.load_word.ensures in
    let room : 4 * i + 4 ≤ length xs = omega arith in
    let from : 4 ≤ i = omega arith in
    let a = grown 4 i key xs back st c.loop-i.last (omega arith) from room c.loop-i.invariant.0 c.loop-i.invariant.1 far c.temp.ensures in
    let b = newest 4 i key xs back st c.loop-i.last (omega arith) from room c.loop-i.invariant.0 c.loop-i.invariant.1 far c.temp.ensures in
    let e = c.store_word.ensures in (
      ap (λ (l : List ℕ). take (4 * (i + 1)) l) e ∙ a,
      b ∙ ap (λ (l : List ℕ). take 4 (drop (4 * (i + 1) - 4) l)) (sym e),
      omega arith,
    )

pub returns : goal.returns
returns c =
    let i = c.loop-i.i in
    let xs = c.loop-i.keys in
    let key : List ℕ = block_bytes c.args.key in
    let full : List ℕ = c.store.new.into in
    let e : i - 4 ≡ 40 = omega arith in
    let long : length key ≡ 16 = length_block c.args.key in
    let front : take 16 full ≡ key =
    ap (λ (l : List ℕ). take 16 l) (c.store.ensures ∙ stored_there 0 key (replicate 176 0) (omega arith)) ∙ written_front key (replicate 176 0) 16 long in
    sym (take_all (4 * i) xs (omega arith)) ∙ c.loop-i.invariant.0 ∙ ap (λ (k : ℕ). expanded 4 (take 16 full) k) e ∙ ap (λ (l : List ℕ). expanded 4 l 40) front
