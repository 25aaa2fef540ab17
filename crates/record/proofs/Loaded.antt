-- An input whose one record was read: what is answered by what the record says. Assumes nothing.
use Rattle.std.proofs.Common.{◌≡◌, ℕ, length, Ok, Option, eqb, sym, ap, ◌∙◌}
use Rattle.std.specs.Option.{option_map}
use Rattle.hash.specs.Collisions.{Bytes}
use Rattle.refusal.specs.Refusals.{site, must, given, ◌>>=◌, ◌>>◌}
use Rattle.refusal.specs.declared.Refusal.TheVariants.{UnwantedKind, BytesAfter}
use Rattle.record.specs.Records.{Record, read_at, read_one, WellFormed}
use Rattle.refusal.proofs.Doing.{bound}
use Rattle.record.proofs.Reading.{read_place}

-- a reader that stood at the front of input i has read r, and stands at q
pub said : {T X : Type 0} (says : T → X) (wanted : Record → Option X) (w i n : ℕ) (bs xs : Bytes) (p q : ℕ) (r : Record) (o : Option T) →
    (xs ≡ bs) × ((n ≡ i) × (p ≡ 0)) → Ok (r, q) ≡ read_at w n xs p → (WellFormed w r → option_map says o ≡ wanted r) →
    read_one w i wanted bs ≡ (given (option_map says o) (UnwantedKind (site i 0)) >>= (λ x. must (eqb q (length bs)) (BytesAfter (site i 0)) >> Ok x))
said says wanted w i n bs xs p q r o starts e s =
    let read : read_at w i bs 0 ≡ Ok (r, q) = sym (e ∙ (λ j. read_at w (starts.1.0 j) (starts.0 j) (starts.1.1 j))) in
    bound _ read
    ∙ ap (λ (m : Option _). given m (UnwantedKind (site i 0)) >>= (λ x. must (eqb q (length bs)) (BytesAfter (site i 0)) >> Ok x)) (sym (s (read_place w i bs 0 r q read).0))
