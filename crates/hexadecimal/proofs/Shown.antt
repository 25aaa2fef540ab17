-- What is written of bytes, digit by digit. Assumes nothing.
use Rattle.std.proofs.Common.{◌≡◌, ℕ, ◌+◌, ◌/◌, ◌%◌, ◌<◌, List, [], ◌∷◌, ◌++◌, length, get_or, slice_index, take, is_ok, Ok, Result, true, nat_lt, refl, sym, ap, ◌∙◌, arith}
use lib.Utf8.{encode}
use Rattle.std.specs.declared.fmt.Error.{Error}
use Rattle.std.specs.declared.fmt.Formatter.{Formatter}
use Rattle.std.specs.Fmt.{IsPlainFormatter, HasWritten, WritesOnOk}
use Rattle.std.proofs.Output.{writes_in_calls_nil, has_written_append, has_written_of_eq}
use Rattle.std.proofs.lemmas.Str.Ascii.{encode_ascii}
use Rattle.std.proofs.lemmas.List.{take_more}
use Rattle.std.proofs.lemmas.Bool.{agree_below_at, ltb-true}
use Rattle.hex.specs.Hex.{encode_lower, encode_with, lower_digits}

encode_more : (t xs : List ℕ) (b : ℕ) → encode_with t xs ++ (slice_index t (b / 16) ∷ slice_index t (b % 16) ∷ []) ≡ encode_with t (xs ++ b ∷ [])
unfolding encode_with
encode_more t [] b = refl
encode_more t (x ∷ xs) b = ap (λ l. slice_index t (x / 16) ∷ slice_index t (x % 16) ∷ l) (encode_more t xs b)

small_digit : (d : ℕ) → d < 16 → slice_index lower_digits d < 128
small_digit d h = ltb-true _ _ (agree_below_at (λ n. nat_lt (slice_index lower_digits n) 128) (λ _. true) 16 d refl h)

module _ {W : Type 0} (took : W → List ℕ → W → Type 0) where
  pub none_yet : (f : Formatter W) → IsPlainFormatter f → HasWritten took f (encode_lower []) f
  unfolding encode_with
  none_yet f p = record { wrote = writes_in_calls_nil took f.writer; plain = p }

  -- the two digits of the next byte
  pub byte_more : (bs : List ℕ) (i x y : ℕ) (f g h k : Formatter W) (r s : Result (Unit {0}) Error) (u v : Unit {0}) → i < length bs → get_or bs i 0 < 256 → x ≡ slice_index lower_digits (get_or bs i 0 / 16) → y ≡ slice_index lower_digits (get_or bs i 0 % 16) → (IsPlainFormatter f → HasWritten took f (encode_lower (take i bs)) g) → WritesOnOk took g r (encode x) h → r ≡ Ok u → WritesOnOk took h s (encode y) k → s ≡ Ok v → IsPlainFormatter f → HasWritten took f (encode_lower (take (i + 1) bs)) k
  byte_more bs i x y f g h k r s u v within fits is_x is_y so_far high high-ok low low_ok plain =
      let b = get_or bs i 0 in
      let before = so_far plain in
      let first = high before.plain (ap is_ok high-ok) in
      let second = low first.plain (ap is_ok low_ok) in
      let top : encode x ≡ slice_index lower_digits (b / 16) ∷ [] = ap encode is_x ∙ encode_ascii _ (small_digit (b / 16) (omega arith)) in
      let end : encode y ≡ slice_index lower_digits (b % 16) ∷ [] = ap encode is_y ∙ encode_ascii _ (small_digit (b % 16) (omega arith)) in
      let whole : encode_lower (take i bs) ++ (encode x ++ encode y) ≡ encode_lower (take (i + 1) bs) =
      (λ j. encode_lower (take i bs) ++ (top j ++ end j)) ∙ encode_more lower_digits (take i bs) b ∙ ap encode_lower (sym (take_more bs i 0 within))
      in
      has_written_of_eq took f _ _ k whole (has_written_append took f _ g _ k before (has_written_append took g _ h _ k first second))
