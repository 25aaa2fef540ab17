-- When the messages of two nodes are the same. Assumes nothing.
use Rattle.std.proofs.Common.{◌≡◌, Bool, true, false, ◌&&◌, eqb, [], ◌∷◌, ◌++◌, length, refl, ap, ◌∙◌, arith}
use Rattle.std.specs.Str.{bytes_eq}
use Rattle.hash.specs.Collisions.{Bytes}

and_assoc : (a b c : Bool) → (a && (b && c)) ≡ ((a && b) && c)
and_assoc true b c = refl
and_assoc false b c = refl

-- two joined lists are the same where both of their parts are
pub same_append : (a a' b b' : Bytes) → length a ≡ length a' → bytes_eq (a ++ b) (a' ++ b') ≡ (bytes_eq a a' && bytes_eq b b')
same_append [] [] b b' e = refl
same_append [] (y ∷ a') b b' e = absurd (omega (arith, e))
same_append (x ∷ a) [] b b' e = absurd (omega (arith, e))
same_append (x ∷ a) (y ∷ a') b b' e = ap (λ (t : Bool). eqb x y && t) (same_append a a' b b' (omega (arith, e))) ∙ and_assoc (eqb x y) (bytes_eq a a') (bytes_eq b b')
