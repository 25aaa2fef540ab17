-- Comments. Assumes nothing.
use Rattle.std.specs.Prelude.{◌≡◌, ℕ, List, [], ◌∷◌}

-- nothing, or what begins with `#`
abbrev pub Comment : List ℕ → Type 0
Comment [] = Unit {0}
Comment (c ∷ cs) = c ≡ 35
