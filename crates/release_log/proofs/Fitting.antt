-- Checks of cells and outputs, passed and refused. Assumes nothing.
use Rattle.std.proofs.Common.{◌≡◌, ℕ, ◌<◌, ◌≤◌, Bool, true, false, leb, length, Some, None, Ok, Err, Option, sym, refl, ap, le-leb}
use Rattle.std.specs.Prelude.{is_some}
use borrow.Author.Tests.{lt-leb}
use Rattle.std.proofs.lemmas.Bool.{leb-true, leb-false}
use Rattle.hash.specs.Collisions.{Bytes}
use Rattle.refusal.specs.Refusals.{Answer, must, given, ◌>>◌}
use Rattle.refusal.specs.declared.Refusal.{Refusal}
use Rattle.refusal.specs.declared.Refusal.TheVariants.{OutputShort}
use Rattle.refusal.proofs.Doing.{not_both, through, must_last}
use Rattle.release_log.specs.Buffers.{fitting}

-- the last check, of the output
pub fitting_ok : (out : ℕ) (r : Bytes) → length r ≤ out → fitting out r ≡ Ok r
fitting_ok out r h = through OutputShort (Ok r) (le-leb (length r) out h)

pub fitting_short : (out : ℕ) (r : Bytes) → out < length r → fitting out r ≡ Err OutputShort
fitting_short out r h = ap (λ (b : Bool). must b OutputShort >> Ok r) (lt-leb (length r) out h)

-- a value that was there
pub given_some : {X : Type 0} (o : Option X) (r : Refusal) (x : X) → Ok x ≡ given o r → is_some o ≡ true
given_some (Some y) r x h = refl
given_some None r x h = absurd (not_both (sym h))

-- a check that was refused, and one that was passed
pub must_err : (b : Bool) (r e : Refusal) → ◌≡◌ {A = Answer (Unit {0})} (Err e) (must b r) → (b ≡ false) × (e ≡ r)
must_err true r e h = absurd (not_both h)
must_err false r e h = (refl, cc)

pub leb_from : (m n : ℕ) (r : Refusal) → ◌≡◌ {A = Answer (Unit {0})} (Ok tt) (must (leb m n) r) → m ≤ n
leb_from m n r h = leb-true m n (must_last (leb m n) r (sym h))

pub lt_from : (m n : ℕ) (r e : Refusal) → ◌≡◌ {A = Answer (Unit {0})} (Err e) (must (leb m n) r) → n < m
lt_from m n r e h = leb-false m n (must_err (leb m n) r e h).0
