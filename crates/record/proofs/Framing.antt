-- A record reads back as itself, and no second spelling of it is read. Assumes nothing.
use Rattle.std.proofs.Common.{◌≡◌, ℕ, ◌+◌, ◌*◌, ◌/◌, ◌%◌, ◌<◌, Bool, true, false, cond, leb, [], ◌∷◌, ◌++◌, length, take, drop, IfSome, Some, None, sym, refl, ap, ◌∙◌, mod-eq_of_lt, zero-add, arith, lit<, length-append, take-append-drop, MatchOption}
use native.Mathlib.Nat.{div-eq_of_lt, add-mul-div_left, add-mul-mod_self_left}
use Rattle.std.proofs.lemmas.List.{take_at, drop_at, length-take-le}
use Rattle.std.proofs.lemmas.Bool.{le-leb, leb-true}
use Rattle.cipher.specs.Bytes.{little}
use Rattle.hash.specs.Collisions.{Bytes}
use Rattle.record.specs.Frames.{Frame, frame_of, framed, unframed, AllBytes}

abbrev pub Short : Frame → Type 0
Short r = (r.kind < 65536) × (length r.payload < 65536)

pub length_framed : (r : Frame) → length (framed r) ≡ 4 + length r.payload
unfolding little
length_framed r = omega arith

pub payload_bytes : (r : Frame) → AllBytes (framed r) → AllBytes r.payload
unfolding little
payload_bytes r h = h.1.1.1.1

two : (n : ℕ) → n < 65536 → n % 256 + 256 * (n / 256 % 256) ≡ n
two n h = omega arith

pub reads_back : (r : Frame) (rest : Bytes) → Short r → unframed (framed r ++ rest) ≡ Some (r, rest)
unfolding little
reads_back r rest s =
    let p = r.payload in
    let n = length p in
    let k = r.kind in
    let v = n % 256 + 256 * (n / 256 % 256) in
    let e : v ≡ n = two n s.1 in
    ap (λ b. cond b (Some (frame_of (k % 256 + 256 * (k / 256 % 256)) (take v (p ++ rest)), drop v (p ++ rest))) None) (le-leb v (length (p ++ rest)) (omega (arith, e, length-append p rest)))
    ∙ (λ i. Some (frame_of (two k s.0 i) (take_at p rest v (sym e) i), drop_at p rest v (sym e) i))

low : (a b : ℕ) → a < 256 → a ≡ (a + 256 * b) % 256
low a b h = sym (add-mul-mod_self_left a 256 b ∙ mod-eq_of_lt h)

high : (a b : ℕ) → a < 256 → b < 256 → b ≡ (a + 256 * b) / 256 % 256
high a b h g = sym (ap (λ x. x % 256) (add-mul-div_left a b (lit< tt) ∙ ap (λ x. x + b) (div-eq_of_lt h) ∙ zero-add b) ∙ mod-eq_of_lt g)

-- what is read is the one spelling of the record
pub one_spelling : (bs : Bytes) → AllBytes bs → IfSome (unframed bs) (λ q. (bs ≡ framed q.0 ++ q.1) × Short q.0)
unfolding little
one_spelling [] h = tt
one_spelling (a ∷ []) h = tt
one_spelling (a ∷ b ∷ []) h = tt
one_spelling (a ∷ b ∷ c ∷ []) h = tt
one_spelling (a ∷ b ∷ c ∷ d ∷ rest) h = go (leb (a + 256 * b) (length rest)) refl
  where
    go : (t : Bool) → leb (a + 256 * b) (length rest) ≡ t →
        MatchOption {T = Frame × Bytes} (cond t (Some (frame_of (c + 256 * d) (take (a + 256 * b) rest), drop (a + 256 * b) rest)) None) (Unit {0}) (λ q. ((a ∷ b ∷ c ∷ d ∷ rest) ≡ framed q.0 ++ q.1) × Short q.0)
    go false e = tt
    go true e =
        let l : length (take (a + 256 * b) rest) ≡ a + 256 * b = length-take-le (a + 256 * b) rest (leb-true (a + 256 * b) (length rest) e) in
        let ha = h.0 in
        let hb = h.1.0 in
        let hc = h.1.1.0 in
        let hd = h.1.1.1.0 in
        let m = length (take (a + 256 * b) rest) in
        let q₀ : a ≡ m % 256 = low a b ha ∙ ap (λ x. x % 256) (sym l) in
        let q₁ : b ≡ m / 256 % 256 = high a b ha hb ∙ ap (λ x. x / 256 % 256) (sym l) in
        let q₂ = low c d hc in
        let q₃ = high c d hc hd in
        let q₄ = sym (take-append-drop (a + 256 * b) rest) in
        ((λ i. q₀ i ∷ q₁ i ∷ q₂ i ∷ q₃ i ∷ q₄ i), (omega arith, omega arith))
