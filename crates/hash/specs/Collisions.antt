-- Where the hashes of two messages part, and what is found there. Assumes nothing.
use Rattle.std.specs.Prelude.{◌≡◌, ℕ, ◌^◌, ◌<◌, Bool, cond, ◌&&◌, ◌≢◌, List, [], ◌∷◌, reverse, length, Some, None, Option, MatchOption}
use Rattle.std.specs.Str.{bytes_eq}
use Rattle.hash.specs.Hash.{Hashing, blocks, hash_of}

abbrev pub Bytes : Type 0
Bytes = List ℕ

-- one input of the compression: a chaining value and a block
abbrev pub Input : Type 0
Input = Bytes × Bytes

-- two inputs that differ and have one output
abbrev pub Collides : Hashing → Input → Input → Type 0
Collides f x y = (x ≢ y) × (f.out x.0 x.1 ≡ f.out y.0 y.1)

-- whether two inputs are equal
abbrev pub same_input : Input → Input → Bool
same_input x y = bytes_eq x.0 y.0 && bytes_eq x.1 y.1

-- the first pair of two lists that differs, by a test
abbrev pub parting : {P : Type 0} → (P → P → Bool) → List P → List P → Option (P × P)
parting same [] ys = None
parting same (x ∷ xs) [] = None
parting same (x ∷ xs) (y ∷ ys) = cond (same x y) (parting same xs ys) (Some (x, y))

-- the inputs of the compression over some blocks, from the chaining value h on
abbrev pub inputs : Hashing → Bytes → List Bytes → List Input
inputs f h [] = []
inputs f h (b ∷ bs) = (h, b) ∷ inputs f (f.out h b) bs

-- of the inputs of two hashes the first pair, counted from the end, that differs
abbrev pub inputs_apart : Hashing → Bytes → Bytes → Option (Input × Input)
inputs_apart f m m' = parting same_input (reverse (inputs f f.start (blocks m))) (reverse (inputs f f.start (blocks m')))

-- two messages of one digest are equal, or the first pair of inputs, counted from the end, that differs is a collision
abbrev pub EqualDigests : Hashing → Type 0
EqualDigests f = (m m' : Bytes) → length m < 2 ^ 64 → length m' < 2 ^ 64 → hash_of f m ≡ hash_of f m' →
    MatchOption (inputs_apart f m m') (m ≡ m') (λ p. Collides f p.0 p.1)
