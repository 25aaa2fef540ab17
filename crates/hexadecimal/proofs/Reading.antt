-- What text is the digits of some bytes. Assumes nothing.
use Rattle.std.proofs.Common.{◌≡◌, ◌≢◌, ℕ, Bool, ◌+◌, ◌*◌, ◌/◌, ◌%◌, ◌<◌, ◌==◌, true, false, List, [], ◌∷◌, map, length, slice_index, Option, Some, None, Result, Ok, Err, inl, inr, refl, sym, ap, subst, ◌∙◌, arith, eq-eqb, MatchOption, MatchResult}
use Rattle.std.specs.Result.{result_unwrap_or, is_ok}
use Rattle.std.specs.Bool.{then_some}
use Rattle.std.specs.Char.{digit_char, to_ascii_lowercase}
use Rattle.std.proofs.lemmas.List.{get_or-map, length-map}
use Rattle.std.proofs.lemmas.Bool.{agree_below_at, eqb-true}
use Rattle.std.proofs.lemmas.Bool.Decides.{nat_tests}
use Rattle.hex.specs.Hex.{IsBytes, decode_of, decode_sized, decode_pairs, digit_or_error, encode_lower, encode_with, hex_digit_value, is_hex_digit, lower_digits, ◌>>=◌}
use Rattle.hex.specs.declared.error.FromHexError.{FromHexError}
use Rattle.hex.specs.declared.error.FromHexError.TheVariants.{OddLength}
use Rattle.hex.proofs.HexLemmas.{decode_of-encode_lower, decode_of-err, decode_of-even, decode_of-odd, decode_of-ok}

-- a digit of the table is that of its value
lower_digit : (v : ℕ) → v < 16 → slice_index lower_digits v ≡ digit_char v
lower_digit v h = eqb-true _ _ (agree_below_at (λ n. slice_index lower_digits n == digit_char n) (λ _. true) 16 v refl h)

same_digit : (c v : ℕ) → hex_digit_value c ≡ Some v → digit_char v ≡ to_ascii_lowercase c
same_digit c v h = grind (arith, nat_tests)

small : (c v : ℕ) → hex_digit_value c ≡ Some v → v < 16
small c v h = grind (arith)

-- the digit of a digit's value is the digit in lower case
written_back : (c v : ℕ) → hex_digit_value c ≡ Some v → slice_index lower_digits v ≡ to_ascii_lowercase c
written_back c v h = lower_digit v (small c v h) ∙ same_digit c v h

-- what two digits and the bytes after them read as, in the cases of what each of the three reads as
pair_cases : (a b i : ℕ) (rest : List ℕ) (x y : Option ℕ) (r : Result (List ℕ) FromHexError) (bytes : List ℕ) → hex_digit_value a ≡ x → hex_digit_value b ≡ y → ((bs : List ℕ) → r ≡ Ok bs → encode_lower bs ≡ map to_ascii_lowercase rest) → ((digit_or_error a i x >>= λ h. digit_or_error b (i + 1) y >>= λ l. Ok (h * 16 + l)) >>= λ v. r >>= λ bs. Ok (v ∷ bs)) ≡ Ok bytes → encode_lower bytes ≡ map to_ascii_lowercase (a ∷ b ∷ rest)
unfolding encode_with
pair_cases a b i rest (Some v) (Some w) (Ok bs) bytes high low more h =
    let all : (v * 16 + w) ∷ bs ≡ bytes = ap (λ r. result_unwrap_or r []) h in
    let fits = small b w low in
    let top : (v * 16 + w) / 16 ≡ v = omega arith in
    let end : (v * 16 + w) % 16 ≡ w = omega arith in
    rw (← all, top, end, written_back a v high, written_back b w low, more bs refl) refl
pair_cases a b i rest (Some v) (Some w) (Err e) bytes high low more h = cc h
pair_cases a b i rest (Some v) None r bytes high low more h = cc h
pair_cases a b i rest None y r bytes high low more h = cc h

spelled_pairs : (i : ℕ) (text bytes : List ℕ) → decode_pairs i text ≡ Ok bytes → encode_lower bytes ≡ map to_ascii_lowercase text
unfolding decode_pairs encode_with
spelled_pairs i [] bytes h = ap encode_lower (sym (ap (λ r. result_unwrap_or r []) h))
spelled_pairs i (a ∷ []) bytes h = cc h
spelled_pairs i (a ∷ b ∷ rest) bytes h = pair_cases a b i rest (hex_digit_value a) (hex_digit_value b) (decode_pairs (i + 2) rest) bytes refl refl (spelled_pairs (i + 2) rest) h

-- what is read from a text is spelled by it
spelled : (text bytes : List ℕ) → decode_of text ≡ Ok bytes → encode_lower bytes ≡ map to_ascii_lowercase text
spelled text bytes h = spelled_pairs 0 text bytes (sym (decode_of-even text (decode_of-ok text bytes h).0) ∙ h)

not_lower : (c : ℕ) → is_hex_digit c ≡ false → is_hex_digit (to_ascii_lowercase c) ≡ true → ⊥
not_lower c h l = grind (arith, nat_tests)

-- what is not read spells no bytes
spells_none : (text bs : List ℕ) (e : FromHexError) → decode_of text ≡ Err e → IsBytes bs → encode_lower bs ≡ map to_ascii_lowercase text → ⊥
spells_none text bs e h fits is =
    let digits = decode_of-ok (encode_lower bs) bs (decode_of-encode_lower bs fits) in
    let long = ap length is ∙ length-map text to_ascii_lowercase in
    elim (decode_of-err text e h) [
      | inl odd ↦ absurd (omega (arith, digits.0, odd.0, long))
      | inr bad ↦
          let here = digits.1 bad.0 0 (omega (arith, long, bad.2)) in
          let lower = ap (λ t. is_hex_digit (slice_index t bad.0)) is ∙ ap is_hex_digit (get_or-map to_ascii_lowercase text bad.0 0 0 bad.2) in
          not_lower (slice_index text bad.0) bad.3 (sym lower ∙ here)
    ]

-- text of an odd length spells no bytes
pub odd_spells_none : (text bs : List ℕ) → length text % 2 ≡ 1 → IsBytes bs → encode_lower bs ≡ map to_ascii_lowercase text → ⊥
odd_spells_none text bs odd = spells_none text bs OddLength (decode_of-odd text odd)

-- room for half as many bytes as there are digits is the room that decoding wants
sized : (text : List ℕ) (n : ℕ) → n ≡ length text / 2 → decode_sized text n ≡ decode_of text
sized text n e = go (length text % 2 == 1) refl
  where
    inner : (length text / 2 == n) ≡ true
    inner = eq-eqb (length text / 2) n (sym e)

    go : (t : Bool) → (length text % 2 == 1) ≡ t → decode_sized text n ≡ decode_of text
    go true h = rw h refl
    go false h = rw (h, inner) refl

-- what is read into such room: v, whose bytes these are, if any are spelled
pub read : {V : Type 0} (items : V → List ℕ) (text out : List ℕ) (n : ℕ) (r : Result (Unit {0}) FromHexError) (v : V) (o : Option V) → n ≡ length text / 2 →
    MatchResult (decode_sized text n) (λ bytes. (r ≡ Ok tt) × (out ≡ bytes)) (λ e. r ≡ Err e) → items v ≡ out → o ≡ then_some (is_ok r) v →
    MatchOption o ((bs : List ℕ) → IsBytes bs → encode_lower bs ≢ map to_ascii_lowercase text) (λ w. encode_lower (items w) ≡ map to_ascii_lowercase text)
read {V} items text out n r v o long m i e = go (decode_of text) refl (subst (λ d. MatchResult d (λ bytes. (r ≡ Ok tt) × (out ≡ bytes)) (λ x. r ≡ Err x)) (sized text n long) m)
  where
    Found : Option V → Type 0
    Found w = MatchOption w ((bs : List ℕ) → IsBytes bs → encode_lower bs ≢ map to_ascii_lowercase text) (λ w. encode_lower (items w) ≡ map to_ascii_lowercase text)

    go : (d : Result (List ℕ) FromHexError) → decode_of text ≡ d → MatchResult d (λ bytes. (r ≡ Ok tt) × (out ≡ bytes)) (λ x. r ≡ Err x) → Found o
    go (Ok bytes) h k = subst Found (sym (e ∙ ap (λ z. then_some (is_ok z) v) k.0)) (ap encode_lower (i ∙ k.1) ∙ spelled text bytes h)
    go (Err x) h k = subst Found (sym (e ∙ ap (λ z. then_some (is_ok z) v) k)) (λ bs fits is. spells_none text bs x h fits is)
