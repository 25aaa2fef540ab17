-- What each refusal returns, and how the checks of a call follow each other. Assumes nothing.
use Rattle.std.specs.Prelude.{ℕ, Bool, true, false, List, ◌++◌, Some, None, Ok, Err, Option, Result, codes, decimal}
use Rattle.refusal.specs.declared.Refusal.{Refusal}
use Rattle.refusal.specs.declared.Refusal.TheVariants.{MadeOverLeaves, CutShort, UnknownKind, ImpossibleLength, ImpossibleNumbers, ImpossibleRequest, UnwantedKind, BytesAfter, OtherNumbers, WrongRoot, NoCollision, TooLong, StoreFull, FileFull, OutputShort, TooFewCells, StackFull, EqualMessages, UnequalDigests, EqualPapers}
use Rattle.refusal.specs.declared.Returned.{Returned}
use Rattle.refusal.specs.declared.Site.{Site}

-- place p of input i
abbrev pub site : ℕ → ℕ → Site
site i p = record { input = i; place = p }

-- number n, about a place in an input
abbrev pub about : ℕ → Site → Returned
about n s = record { number = n; input = s.input; place = s.place }

-- the number, input and place that a refusal returns
abbrev pub returned_of : Refusal → Returned
returned_of MadeOverLeaves = about 1 (site 0 0)
returned_of (CutShort s) = about 2 s
returned_of (UnknownKind s) = about 3 s
returned_of (ImpossibleLength s) = about 4 s
returned_of (ImpossibleNumbers s) = about 5 s
returned_of ImpossibleRequest = about 5 (site 0 0)
returned_of (UnwantedKind s) = about 6 s
returned_of (BytesAfter s) = about 6 s
returned_of (OtherNumbers s) = about 7 s
returned_of (WrongRoot s) = about 8 s
returned_of (NoCollision i) = about 8 (site i 0)
returned_of (TooLong i) = about 9 (site i 0)
returned_of StoreFull = about 10 (site 0 0)
returned_of FileFull = about 10 (site 0 0)
returned_of OutputShort = about 10 (site 0 0)
returned_of TooFewCells = about 10 (site 0 0)
returned_of StackFull = about 10 (site 0 0)
returned_of EqualMessages = about 11 (site 0 0)
returned_of UnequalDigests = about 11 (site 0 0)
returned_of EqualPapers = about 11 (site 0 0)

-- how that is printed
abbrev pub returned_text : Returned → List ℕ
returned_text r =
    codes "refused " ++ (decimal r.number ++ (codes " input " ++ (decimal r.input ++ (codes " place " ++ decimal r.place))))

-- the answer of a call: a value, or the first refusal met
abbrev pub Answer : Type 0 → Type 0
Answer X = Result X Refusal

-- a check: passed, or refused
abbrev pub must : Bool → Refusal → Answer (Unit {0})
must true r = Ok tt
must false r = Err r

-- a value that may be missing
abbrev pub given : {X : Type 0} → Option X → Refusal → Answer X
given (Some x) r = Ok x
given None r = Err r

-- a row of checks, written with `do`: the first refusal is the answer
infixl 20 ◌>>=◌
infixl 20 ◌>>◌
abbrev pub ◌>>=◌ : {X Y : Type 0} → Answer X → (X → Answer Y) → Answer Y
Ok x >>= g = g x
Err r >>= g = Err r

abbrev pub ◌>>◌ : {Y : Type 0} → Answer (Unit {0}) → Answer Y → Answer Y
Ok u >> y = y
Err r >> y = Err r
