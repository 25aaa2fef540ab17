-- Byte lists: numbers as bytes, xor, reading and writing at a place. A byte is a number below 256. Assumes nothing.
use Rattle.std.specs.Prelude.{ℕ, zero, suc, ◌+◌, ◌*◌, ◌/◌, ◌%◌, cond, List, [], ◌∷◌, ◌++◌, length, take, drop, Some, None, Option, bit_xor, nat_le}

-- a number as k bytes, the lowest first
unfoldable pub little : ℕ → ℕ → List ℕ
little zero n = []
little (suc k) n = n % 256 ∷ little k (n / 256)

-- the number that bytes stand for, the lowest first
abbrev pub number : List ℕ → ℕ
number [] = 0
number (b ∷ bs) = b + 256 * number bs

-- xor, byte by byte, as far as both go
abbrev pub xors : List ℕ → List ℕ → List ℕ
xors [] ys = []
xors (x ∷ xs) [] = []
xors (x ∷ xs) (y ∷ ys) = bit_xor x y ∷ xors xs ys

-- the w bytes from place i on, if they are all there
abbrev pub piece : ℕ → ℕ → List ℕ → Option (List ℕ)
piece i w xs = cond (nat_le (i + w) (length xs)) (Some (take w (drop i xs))) None

-- old, with new written over it from place i on
abbrev pub written : ℕ → List ℕ → List ℕ → List ℕ
written i new old = take i old ++ (new ++ drop (i + length new) old)

-- the same where there is room for all of new, and old otherwise
abbrev pub stored : ℕ → List ℕ → List ℕ → List ℕ
stored i new old = cond (nat_le (i + length new) (length old)) (written i new old) old
