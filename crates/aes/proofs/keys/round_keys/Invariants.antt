use Rattle.std.proofs.Common.{◌≡◌, ◌-◌, ◌*◌, length, take, drop}
use Rattle.cipher.specs.Bytes.{little}
use Rattle.aes.specs.Aes.{expanded}
use Rattle.aes.proofs.keys.round_keys.Given as goal

abbrev pub invariant-loop-i : goal.invariant-loop-i
invariant-loop-i l =
    (take (4 * l.i) l.keys ≡ expanded 4 (take 16 l.initial.keys) (l.i - 4))
    × (little 4 l.last ≡ take 4 (drop (4 * l.i - 4) l.keys))
    × (length l.keys ≡ 176)
