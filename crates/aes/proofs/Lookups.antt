-- What the two tables have at a byte. Assumes nothing.
use Rattle.std.proofs.Common.{◌≡◌, ℕ, ◌/◌, ◌%◌, ◌<◌, min, Bool, T, eqb, [], ◌∷◌, get_or, eqb→eq}
use Rattle.cipher.specs.Bytes.{little}
use Rattle.aes.specs.Field.{S, times, inverse}
use Rattle.aes.proofs.Table.{at, both, both_left, both_right}
use Rattle.aes.proofs.Rule.{table, spreads, ruling, ruled, spreading, spread}

pub sub_is : (v : ℕ) → v < 256 → get_or table v 0 ≡ S v
sub_is v h = eqb→eq (get_or table v 0) (S v) (both_left (eqb (get_or table v 0) (S v)) (eqb (times v (inverse v)) (min v 1)) (at ruling table ruled v h))

pub inverts : (v : ℕ) → v < 256 → times v (inverse v) ≡ min v 1
inverts v h = eqb→eq (times v (inverse v)) (min v 1) (both_right (eqb (get_or table v 0) (S v)) (eqb (times v (inverse v)) (min v 1)) (at ruling table ruled v h))

pub spread_is : (v : ℕ) → v < 256 → little 4 (get_or spreads v 0) ≡ times 2 (S v) ∷ S v ∷ S v ∷ times 3 (S v) ∷ []
unfolding little
spread_is v h =
    let x : ℕ = get_or spreads v 0 in
    let s : ℕ = get_or table v 0 in
    let b₀ : Bool = eqb (x % 256) (times 2 s) in
    let b₁ : Bool = eqb (x / 256 % 256) s in
    let b₂ : Bool = eqb (x / 256 / 256 % 256) s in
    let b₃ : Bool = eqb (x / 256 / 256 / 256 % 256) (times 3 s) in
    let t : T (spreading v x) = at spreading spreads spread v h in
    let l : T (both b₀ b₁) = both_left (both b₀ b₁) (both b₂ b₃) t in
    let r : T (both b₂ b₃) = both_right (both b₀ b₁) (both b₂ b₃) t in
    let e₀ = eqb→eq (x % 256) (times 2 s) (both_left b₀ b₁ l) in
    let e₁ = eqb→eq (x / 256 % 256) s (both_right b₀ b₁ l) in
    let e₂ = eqb→eq (x / 256 / 256 % 256) s (both_left b₂ b₃ r) in
    let e₃ = eqb→eq (x / 256 / 256 / 256 % 256) (times 3 s) (both_right b₂ b₃ r) in
    let e = sub_is v h in
    cc
