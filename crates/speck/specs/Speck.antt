-- Speck128: Speck with words of 64 bits, for a key of m words and any number of rounds. Speck128/128 has 2 key words
-- and 32 rounds. A word is a number below 2 ^ 64. Assumes nothing.
use Rattle.std.specs.Prelude.{ℕ, zero, suc, ◌+◌, ◌-◌, ◌*◌, ◌/◌, ◌%◌, ◌^◌, List, [], ◌∷◌, ◌++◌, take, drop, get_or}
use Rattle.std.specs.Int.Bits.{bit_or, bit_xor}
use Rattle.cipher.specs.Bytes.{little, number}

-- a word rotated left by j bits, for j from 1 to 63
abbrev pub rotl : ℕ → ℕ → ℕ
rotl j w = bit_or ((w * 2 ^ j) % 2 ^ 64) (w / 2 ^ (64 - j))

-- a word rotated right by j bits, for j from 1 to 63
abbrev pub rotr : ℕ → ℕ → ℕ
rotr j w = bit_or (w / 2 ^ j) ((w * 2 ^ (64 - j)) % 2 ^ 64)

-- the round function: under the round key k, x becomes x' = (rotr 8 x + y) xor k, and y becomes rotl 3 y xor x'
abbrev pub round : ℕ → ℕ × ℕ → ℕ × ℕ
round k p = let x = bit_xor ((rotr 8 p.0 + p.1) % 2 ^ 64) k in (x, bit_xor (rotl 3 p.1) x)

-- the word l(i + m - 1) of the key schedule, from k(i) and l(i)
abbrev pub next_l : ℕ → ℕ → ℕ → ℕ
next_l i k l = bit_xor ((k + rotr 8 l) % 2 ^ 64) i

-- from k(i) and l(i) .. l(i + m - 2) to the same at i + 1, for a key of two words or more
abbrev pub key_step : ℕ → List ℕ → List ℕ
key_step i [] = []
key_step i (k ∷ []) = k ∷ []
key_step i (k ∷ l ∷ ls) = bit_xor (rotl 3 k) (next_l i k l) ∷ (ls ++ next_l i k l ∷ [])

-- k(i) and l(i) .. l(i + m - 2), from the key, which is k(0) and l(0) .. l(m - 2)
unfoldable pub key_schedule : List ℕ → ℕ → List ℕ
key_schedule key zero = key
key_schedule key (suc i) = key_step i (key_schedule key i)

-- x and y after rounds 0 to n - 1, where round i is under k(i)
unfoldable pub rounds : List ℕ → ℕ × ℕ → ℕ → ℕ × ℕ
rounds key p zero = p
rounds key p (suc i) = round (get_or (key_schedule key i) 0 0) (rounds key p i)

-- the m words of a key: eight bytes to a word, the lowest byte first
unfoldable pub key_words : ℕ → List ℕ → List ℕ
key_words zero bs = []
key_words (suc m) bs = number (take 8 bs) ∷ key_words m (drop 8 bs)

-- the words x and y of a block: bytes 0 to 7 are y, and bytes 8 to 15 are x
unfoldable pub block_words : List ℕ → ℕ × ℕ
block_words bs = (number (take 8 (drop 8 bs)), number (take 8 bs))

-- the block of the words x and y
abbrev pub block_of : ℕ × ℕ → List ℕ
block_of p = little 8 p.1 ++ little 8 p.0

-- Speck128 with m key words and n rounds, on bytes
abbrev pub speck128 : ℕ → ℕ → List ℕ → List ℕ → List ℕ
speck128 m n key block = block_of (rounds (key_words m key) (block_words block) n)
