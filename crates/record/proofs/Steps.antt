-- The steps of a reader, each with what it makes of the answer. Assumes nothing.
use Rattle.std.proofs.Common.{◌≡◌, ℕ, ◌+◌, ◌*◌, ◌<◌, ◌≤◌, Bool, true, false, cond, leb, [], ◌∷◌, length, get_or, take, drop, Some, None, Ok, Err, Option, sym, refl, ap, ◌∙◌, arith, length-drop}
use Rattle.std.proofs.lemmas.List.{length-take-le}
use Rattle.std.proofs.lemmas.Bool.{le-leb, lt-leb}
use Rattle.hash.specs.Collisions.{Bytes}
use Rattle.refusal.specs.Refusals.{Answer, site, must, given, ◌>>=◌, ◌>>◌}
use Rattle.refusal.specs.declared.Refusal.{Refusal}
use Rattle.refusal.specs.declared.Refusal.TheVariants.{CutShort, UnknownKind, ImpossibleLength, ImpossibleNumbers}
use Rattle.record.specs.Frames.{Frame, frame_of, unframed}
use Rattle.record.specs.Records.{Record, kinds, numbers_fit, read_at}
use Rattle.record.specs.Views.{parsed, place_after}
use Rattle.refusal.proofs.Doing.{bound, halted}
use Rattle.record.proofs.Places.{four_and_more}

few : (xs : Bytes) → length xs < 4 → unframed xs ≡ None
few [] h = refl
few (a ∷ []) h = refl
few (a ∷ b ∷ []) h = refl
few (a ∷ b ∷ c ∷ []) h = refl
few (a ∷ b ∷ c ∷ d ∷ xs) h = absurd (omega arith)

-- two checks before a value, and before the value with a place
placed : {X : Type 0} (a b : Bool) (r s : Refusal) (x : X) (n : ℕ) →
    ◌≡◌ {A = Answer (X × ℕ)} (must a r >> (must b s >> Ok (x, n))) ((must a r >> (must b s >> Ok x)) >>= (λ (y : X). Ok (y, n)))
placed true true r s x n = refl
placed true false r s x n = refl
placed false b r s x n = refl

-- where the reader stands after a refusal, and after a record
pub stays : (p q : ℕ) (a : Answer (Record × ℕ)) (e : Refusal) → q ≡ p → a ≡ Err e → q ≡ place_after p a
stays p q a e h k = h ∙ sym (ap (place_after p) k)

pub moves : (p q : ℕ) (a : Answer (Record × ℕ)) (r : Record) (n : ℕ) → q ≡ n → a ≡ Ok (r, n) → (Ok (r, q) ≡ a) × (q ≡ place_after p a)
moves p q a r n h k = (ap (λ (m : ℕ). Ok (r, m)) h ∙ sym k, h ∙ sym (ap (place_after p) k))

module _ (w i : ℕ) (bs : Bytes) (p : ℕ) where
  cut_off : unframed (drop p bs) ≡ None → read_at w i bs p ≡ Err (CutShort (site i p))
  cut_off e = halted _ (ap (λ (o : Option (Frame × Bytes)). given o (CutShort (site i p))) e)

  pub no_header : (e : Refusal) → e ≡ CutShort (site i p) → length bs < p + 4 → read_at w i bs p ≡ Err e
  no_header e is h = cut_off (few (drop p bs) (omega (arith, length-drop p bs))) ∙ ap Err (sym is)

  module _ (len kind : ℕ) (whole : p + 4 ≤ length bs) (len_is : len ≡ get_or bs p 0 + 256 * get_or bs (p + 1) 0) (kind-is : kind ≡ get_or bs (p + 2) 0 + 256 * get_or bs (p + 3) 0) where
    opened : unframed (drop p bs) ≡ cond (leb len (length (drop (p + 4) bs))) (Some (frame_of kind (take len (drop (p + 4) bs)), drop len (drop (p + 4) bs))) None
    opened =
        ap unframed (four_and_more bs p whole)
        ∙ sym (λ j. cond (leb (len_is j) (length (drop (p + 4) bs))) (Some (frame_of (kind-is j) (take (len_is j) (drop (p + 4) bs)), drop (len_is j) (drop (p + 4) bs))) None)

    pub no_payload : (e : Refusal) → e ≡ CutShort (site i p) → length bs < p + 4 + len → read_at w i bs p ≡ Err e
    no_payload e is h =
        cut_off (opened ∙ ap (λ (t : Bool). cond t (Some (frame_of kind (take len (drop (p + 4) bs)), drop len (drop (p + 4) bs))) None)
        (lt-leb len (length (drop (p + 4) bs)) (omega (arith, length-drop (p + 4) bs))))
        ∙ ap Err (sym is)

    module _ (pay : Bytes) (there : p + 4 + len ≤ length bs) (pay-is : pay ≡ take len (drop (p + 4) bs)) where
      pub long : length pay ≡ len
      long = ap length pay-is ∙ length-take-le len (drop (p + 4) bs) (omega (arith, length-drop (p + 4) bs))

      framed_so : unframed (drop p bs) ≡ Some (frame_of kind pay, drop len (drop (p + 4) bs))
      framed_so =
          opened ∙ ap (λ (t : Bool). cond t (Some (frame_of kind (take len (drop (p + 4) bs)), drop len (drop (p + 4) bs))) None)
          (le-leb len (length (drop (p + 4) bs)) (omega (arith, length-drop (p + 4) bs)))
          ∙ ap (λ (z : Bytes). Some (frame_of kind z, drop len (drop (p + 4) bs))) (sym pay-is)

      by_kind : read_at w i bs p ≡
          (given (kinds w kind) (UnknownKind (site i p)) >>= (λ k. must (k.0 (length pay)) (ImpossibleLength (site i p)) >> (must (numbers_fit (k.1 pay)) (ImpossibleNumbers (site i p)) >> Ok (k.1 pay, p + 4 + length pay))))
      by_kind = bound _ (ap (λ (o : Option (Frame × Bytes)). given o (CutShort (site i p))) framed_so)

      pub no_kind : (e : Refusal) → Err e ≡ given (kinds w kind) (UnknownKind (site i p)) → read_at w i bs p ≡ Err e
      no_kind e h = by_kind ∙ halted _ (sym h)

      module _ (row : (ℕ → Bool) × (Bytes → Record)) (known : Ok row ≡ given (kinds w kind) (UnknownKind (site i p))) where
        parsed_so : read_at w i bs p ≡ (parsed (site i p) row pay >>= (λ (r : Record). Ok (r, p + 4 + length pay)))
        parsed_so = by_kind ∙ bound _ (sym known) ∙ placed (row.0 (length pay)) (numbers_fit (row.1 pay)) (ImpossibleLength (site i p)) (ImpossibleNumbers (site i p)) (row.1 pay) (p + 4 + length pay)

        pub no_record : (e : Refusal) → Err e ≡ parsed (site i p) row pay → read_at w i bs p ≡ Err e
        no_record e h = parsed_so ∙ halted _ (sym h)

        pub a_record : (r : Record) → Ok r ≡ parsed (site i p) row pay → read_at w i bs p ≡ Ok (r, p + 4 + length pay)
        a_record r h = parsed_so ∙ bound _ (sym h)
