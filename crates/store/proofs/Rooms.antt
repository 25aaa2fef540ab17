-- How many digests a store takes, before and after an append. Assumes nothing.
use Rattle.std.proofs.Common.{◌≡◌, ℕ, ◌<◌, cond, ltb, sym, arith, lt-ltb}
use Rattle.std.proofs.lemmas.Bool.{cond-true}
use Rattle.store.specs.Stores.{space_of}

-- a store that has n digests and p places, and room
module _ (n p : ℕ) (h : 0 < space_of n p) where
  pub room_other : {A : Type 0} (x y : A) → x ≡ cond (ltb 0 (space_of n p)) x y
  room_other x y = sym (cond-true (ltb 0 (space_of n p)) x y (lt-ltb 0 (space_of n p) h))

  pub room_place : n < p
  room_place = omega arith
