use Rattle.std.proofs.Common.{◌≡◌, Result, Ok, Err, ap, ◌∙◌, arith}
use Rattle.std.specs.Prelude.{MatchResult}
use Rattle.std.specs.Result.{IsErrAnd, OkIff, result_unwrap_or}
use Rattle.std.proofs.lemmas.Str.Parse.{numerals_by_value, tells_all_ascii_digits, parse_plain}
use Rattle.std.proofs.lemmas.Str.Pattern.{starts_char}
use Rattle.std.proofs.lemmas.Bool.Decides.{not_from_Decides}
use Rattle.relog.proofs.argument.number.Goals as goal

-- another error changes nothing of when there is a value
other_error : {T E F : Type 0} (Q : E → F → Type 0) (r : Result T E) (s : Result T F) (P : Type 0) (v : T) → OkIff r P v → MatchResult r (λ x. s ≡ Ok x) (λ e. IsErrAnd s (Q e)) → MatchResult s (λ n. P × (n ≡ v)) (λ _. P → ⊥)
other_error Q (Ok x) (Ok y) P v iff same = (iff.0, ap (λ t. result_unwrap_or t x) same ∙ iff.1)
other_error Q (Ok x) (Err e) P v iff same = cc same
other_error Q (Err e) (Ok y) P v iff same = absurd same
other_error Q (Err e) (Err f) P v iff same = iff

pub returns : goal.returns
returns c =
    let word = c.args.word.now in
    let no_plus = not_from_Decides _ (starts_char 43 word _ c.starts_with.ensures.cases (omega arith) (omega arith)) c.if-starts_with.false in
    other_error _ c.parse.result c.map_err.result _ _ (parse_plain (numerals_by_value _ tells_all_ascii_digits) 64 word _ c.parse.ensures.value.0 no_plus) c.map_err.ensures.cases
