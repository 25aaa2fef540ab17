-- Rows of checks: what an accepted one met, and how one goes through. Assumes nothing.
use Rattle.std.proofs.Common.{◌≡◌, ℕ, Bool, true, false, ◌&&◌, Some, None, Ok, Err, Option, refl, ap, arith}
use Rattle.refusal.specs.Refusals.{Answer, must, given, ◌>>=◌, ◌>>◌}
use Rattle.refusal.specs.declared.Refusal.{Refusal}

pub not_both : {X : Type 0} {r : Refusal} {x : X} → ◌≡◌ {A = Answer X} (Err r) (Ok x) → ⊥
not_both {X} {r} {x} e = let z : ◌≡◌ {A = ℕ} 0 1 = ap (λ (a : Answer X). elim a [ Ok y ↦ 1 | Err q ↦ 0 ]) e in omega arith

pub ok_same : {X : Type 0} {x y : X} → ◌≡◌ {A = Answer X} (Ok x) (Ok y) → x ≡ y
ok_same {X} {x} {y} e = ap (λ (a : Answer X). elim a [ Ok z ↦ z | Err q ↦ x ]) e

pub some_same : {X : Type 0} {x y : X} → ◌≡◌ {A = Option X} (Some x) (Some y) → x ≡ y
some_same {X} {x} {y} e = ap (λ (a : Option X). elim a [ Some z ↦ z | None ↦ x ]) e

pub none_some : {X : Type 0} {x : X} → ◌≡◌ {A = Option X} None (Some x) → ⊥
none_some {X} {x} e = let z : ◌≡◌ {A = ℕ} 0 1 = ap (λ (a : Option X). elim a [ Some y ↦ 1 | None ↦ 0 ]) e in omega arith

pub bind_ok : {X Y : Type 0} (a : Answer X) (g : X → Answer Y) (y : Y) → a >>= g ≡ Ok y → (x : X) × (a ≡ Ok x) × (g x ≡ Ok y)
bind_ok (Ok x) g y e = (x, refl, e)
bind_ok (Err r) g y e = absurd (not_both e)

pub must_ok : {Y : Type 0} (b : Bool) (r : Refusal) (a : Answer Y) (y : Y) → must b r >> a ≡ Ok y → (b ≡ true) × (a ≡ Ok y)
must_ok true r a y e = (refl, e)
must_ok false r a y e = absurd (not_both e)

pub must_last : (b : Bool) (r : Refusal) → must b r ≡ Ok tt → b ≡ true
must_last true r e = refl
must_last false r e = absurd (not_both e)

pub given_ok : {X : Type 0} (o : Option X) (r : Refusal) (x : X) → given o r ≡ Ok x → o ≡ Some x
given_ok (Some z) r x e = ap Some (ok_same e)
given_ok None r x e = absurd (not_both e)

-- going through
pub through : {Y : Type 0} {b : Bool} (r : Refusal) (a : Answer Y) → b ≡ true → must b r >> a ≡ a
through r a e = ap (λ t. must t r >> a) e

pub bound : {X Y : Type 0} {a : Answer X} {x : X} (g : X → Answer Y) → a ≡ Ok x → a >>= g ≡ g x
bound g e = ap (λ t. t >>= g) e

pub halted : {X Y : Type 0} {a : Answer X} {r : Refusal} (g : X → Answer Y) → a ≡ Err r → a >>= g ≡ Err r
halted g e = ap (λ t. t >>= g) e

pub passed : {b : Bool} (r : Refusal) → b ≡ true → must b r ≡ Ok tt
passed r e = ap (λ t. must t r) e

-- both tests
pub and_true : {b d : Bool} → b ≡ true → d ≡ true → (b && d) ≡ true
and_true p q = λ i. p i && q i

pub and_left : (b d : Bool) → (b && d) ≡ true → b ≡ true
and_left true d e = refl
and_left false d e = e

pub and_right : (b d : Bool) → (b && d) ≡ true → d ≡ true
and_right true d e = e
and_right false d e = absurd (no e)
  where
    no : false ≡ true → ⊥
    no q = let z : ◌≡◌ {A = ℕ} 0 1 = ap (λ (t : Bool). elim t [ true ↦ 1 | false ↦ 0 ]) q in omega arith
