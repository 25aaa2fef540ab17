-- AES as FIPS 197 defines it, for a key of Nk words and Nr rounds; AES-128 has Nk = 4 and Nr = 10. A word is four bytes, the
-- key schedule is the bytes of its words, and the state is its sixteen bytes, column by column. Assumes nothing.
use Rattle.std.specs.Prelude.{ℕ, zero, suc, ◌+◌, ◌-◌, ◌*◌, ◌/◌, ◌%◌, cond, List, [], ◌∷◌, ◌++◌, map, take, drop, ◌==◌, bit_xor, nat_lt, slice_index}
use Rattle.cipher.specs.Bytes.{xors}
use Rattle.aes.specs.Field.{S, times}

-- the byte in row r and column c of a state
abbrev pub byte_at : List ℕ → ℕ → ℕ → ℕ
byte_at s r c = slice_index s (r + 4 * c)

-- the state that has the byte f r c in row r and column c
abbrev pub state : (ℕ → ℕ → ℕ) → List ℕ
state f =
    f 0 0 ∷ f 1 0 ∷ f 2 0 ∷ f 3 0 ∷ f 0 1 ∷ f 1 1 ∷ f 2 1 ∷ f 3 1 ∷
    f 0 2 ∷ f 1 2 ∷ f 2 2 ∷ f 3 2 ∷ f 0 3 ∷ f 1 3 ∷ f 2 3 ∷ f 3 3 ∷ []

-- SUBBYTES and SUBWORD: S of each byte
abbrev pub sub_bytes : List ℕ → List ℕ
sub_bytes s = map S s

-- SHIFTROWS: row r rotated left by r bytes
unfoldable pub shift_rows : List ℕ → List ℕ
shift_rows s = state (λ r c. byte_at s r ((c + r) % 4))

-- a byte of a mixed column: 02 a + 03 b + c + d, where a was in its place and b, c, d below it, going round
unfoldable pub mixed_byte : ℕ → ℕ → ℕ → ℕ → ℕ
mixed_byte a b c d = bit_xor (bit_xor (bit_xor (times 2 a) (times 3 b)) c) d

-- MIXCOLUMNS: each column mixed
unfoldable pub mix_columns : List ℕ → List ℕ
mix_columns s = state (λ r c. mixed_byte (byte_at s r c) (byte_at s ((r + 1) % 4) c) (byte_at s ((r + 2) % 4) c) (byte_at s ((r + 3) % 4) c))

-- the first bytes of the round constants Rcon[1] to Rcon[10]
abbrev pub constants : List ℕ
constants = 0x01 ∷ 0x02 ∷ 0x04 ∷ 0x08 ∷ 0x10 ∷ 0x20 ∷ 0x40 ∷ 0x80 ∷ 0x1b ∷ 0x36 ∷ []

-- the round constant Rcon[j], for j from 1 to 10
abbrev pub rcon : ℕ → List ℕ
rcon j = slice_index constants (j - 1) ∷ 0 ∷ 0 ∷ 0 ∷ []

-- ROTWORD: the first byte of a word goes last
abbrev pub rot_word : List ℕ → List ℕ
rot_word w = drop 1 w ++ take 1 w

-- w[i] of the key schedule ws
abbrev pub word_at : List ℕ → ℕ → List ℕ
word_at ws i = take 4 (drop (4 * i) ws)

-- temp: what is xored onto w[i - Nk] to give w[i], from w[i - 1]
abbrev pub temp : ℕ → ℕ → List ℕ → List ℕ
temp nk i w =
    cond (i % nk == 0) (xors (sub_bytes (rot_word w)) (rcon (i / nk)))
    (cond (nat_lt 6 nk) (cond (i % nk == 4) (sub_bytes w) w) w)

-- w[i], from the words before it
abbrev pub next_word : ℕ → ℕ → List ℕ → List ℕ
next_word nk i ws = xors (word_at ws (i - nk)) (temp nk i (word_at ws (i - 1)))

-- the key and the j words of the key schedule after it
unfoldable pub expanded : ℕ → List ℕ → ℕ → List ℕ
expanded nk key zero = key
expanded nk key (suc j) = expanded nk key j ++ next_word nk (nk + j) (expanded nk key j)

-- KEYEXPANSION: the key schedule, four words for each round and four more
abbrev pub key_expansion : ℕ → ℕ → List ℕ → List ℕ
key_expansion nk nr key = expanded nk key (4 * (nr + 1) - nk)

-- round key j, which ADDROUNDKEY xors onto the state
abbrev pub round_key : List ℕ → ℕ → List ℕ
round_key ws j = take 16 (drop (16 * j) ws)

-- the state s after rounds 1 to j, none of them the last
unfoldable pub rounds : List ℕ → List ℕ → ℕ → List ℕ
rounds ws s zero = s
rounds ws s (suc j) = xors (mix_columns (shift_rows (sub_bytes (rounds ws s j)))) (round_key ws (suc j))

-- CIPHER: the first round key, then nr rounds, the last without mix_columns
abbrev pub cipher : ℕ → List ℕ → List ℕ → List ℕ
cipher nr ws block = xors (shift_rows (sub_bytes (rounds ws (xors block (round_key ws 0)) (nr - 1)))) (round_key ws nr)

-- AES with a key of nk words and nr rounds
abbrev pub aes : ℕ → ℕ → List ℕ → List ℕ → List ℕ
aes nk nr key block = cipher nr (key_expansion nk nr key) block
