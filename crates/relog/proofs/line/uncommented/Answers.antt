use Rattle.std.proofs.Common.{◌≡◌, ℕ, ◌<◌, List, [], ◌∷◌, ◌++◌, length, get_or, Option, Some, None, Bor, sym, refl, append-nil, arith, rules}
use Rattle.std.specs.Prelude.{◌≢◌, MatchOption}
use Rattle.std.proofs.lemmas.Str.Pattern.{split_parts}
use Rattle.relog.specs.Comments.{Comment}
use Rattle.relog.proofs.line.uncommented.Goals as goal

-- what stands before a cut at `#`, or the whole text where there is none
abbrev IsCut : List ℕ → List ℕ → Type 0
IsCut text code = ((rest : List ℕ) × (text ≡ code ++ rest) × Comment rest) × ((i : ℕ) → i < length code → get_or code i 0 ≢ 35)

cut : (text code : Bor (List ℕ)) (parts : Option (Bor (List ℕ) × Bor (List ℕ))) → MatchOption parts ((i : ℕ) → i < length text.now → get_or text.now i 0 ≢ 35) (λ x. (text.now ≡ x.0.now ++ (35 ∷ x.1.now)) × ((i : ℕ) → i < length x.0.now → get_or x.0.now i 0 ≢ 35)) → MatchOption parts (code ≡ text) (λ x. code ≡ x.0) → IsCut text.now code.now
cut text code None none is = rw is (([], sym (append-nil text.now), tt), none)
cut text code (Some x) some is = rw is ((35 ∷ x.1.now, some.0, refl), some.1)

pub returns : goal.returns
returns c =
    let is = cut c.args.text c.map_or.result c.split_once.result (split_parts 35 c.args.text.now c.split_once.result c.split_once.ensures.cases (omega arith)) (search rules) in
    record { cut = is.0; code = is.1 }
