-- The arguments of commands: numbers, and how many bytes there may be. Assumes nothing.
use Rattle.std.specs.Prelude.{◌≡◌, ℕ, ◌^◌, ◌<◌, true, List, length}
use Rattle.std.specs.Str.Parse.{digits_value}
use Rattle.std.specs.Str.{all_ascii_digits}

-- digits and nothing else, of a number of at most 64 bits
abbrev pub Number : List ℕ → Type 0
Number bs = (all_ascii_digits bs ≡ true) × (0 < length bs) × (digits_value 10 bs < 2 ^ 64)

-- how many bytes a command's arguments may have
abbrev pub most_bytes : ℕ
most_bytes = 16777216
