-- Names, and the bytes that are kept under them. Assumes nothing.
use Rattle.std.specs.Prelude.{ℕ, Bool, ◌&&◌, ◌||◌, List, vec_items, Option, Vec, String, ◌==◌, slice_index}
use Rattle.std.specs.BTreeMap.{BTreeMap}
use Rattle.std.specs.BTreeMap.{get_by_text}
use Rattle.std.specs.Option.{option_map}
use Rattle.std.specs.Char.{is_ascii_alphabetic, is_ascii_alphanumeric}
use Rattle.std.specs.List.{list_all}

-- a letter, a digit, `-` or `_`
abbrev pub name_byte : ℕ → Bool
name_byte b = is_ascii_alphanumeric b || b == 45 || b == 95

-- such bytes, of which the first is a letter
abbrev pub is_name : List ℕ → Bool
is_name bs = is_ascii_alphabetic (slice_index bs 0) && list_all name_byte bs

-- the bytes under a name
abbrev pub held : {X : Type 0} → BTreeMap (String X) (Vec ℕ X) → List ℕ → Option (List ℕ)
held m name = option_map vec_items (get_by_text m name)
