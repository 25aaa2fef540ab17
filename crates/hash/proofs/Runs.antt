-- What a loop over an iterator took. Assumes nothing.
use Rattle.std.proofs.Common.{◌≡◌, List, map, Option}
use Rattle.std.specs.Iterator.{Drains}
use Rattle.std.proofs.lemmas.Iterator.{YieldsList, items_from_drains}

-- it took the items of the chain
pub items_taken : {S A B : Type 0} {steps : S → Option A → S → Type 0} {v : A → B} {s : S} {all : List B} (xs : List A) → Drains steps s xs → YieldsList steps v s all → map v xs ≡ all
items_taken xs d y = items_from_drains xs (d.1.0, d.1.1, λ _. (d.0, d.1.2)) y
