-- The field of FIPS 197 and its S-box. A byte, a number below 256, is a polynomial over two elements: the sum of two is
-- their xor, and their product is taken modulo 11b. Assumes nothing.
use Rattle.std.specs.Prelude.{ℕ, zero, suc, ◌+◌, ◌*◌, ◌/◌, ◌%◌, ◌^◌, cond, ◌==◌, bit_xor, nat_lt}

-- XTIMES: a byte times 02
unfoldable pub xtimes : ℕ → ℕ
xtimes a = cond (nat_lt a 128) (2 * a) (bit_xor (2 * a) 0x11b)

-- the product of the byte a and the lowest n bits of the byte b
unfoldable pub times_low : ℕ → ℕ → ℕ → ℕ
times_low zero a b = 0
times_low (suc n) a b = bit_xor (a * (b % 2)) (times_low n (xtimes a) (b / 2))

-- the product of two bytes
unfoldable pub times : ℕ → ℕ → ℕ
times a b = times_low 8 a b

-- the y below n with v times y = 1, and 0 if there is none
unfoldable pub inverse_below : ℕ → ℕ → ℕ
inverse_below zero v = 0
inverse_below (suc n) v = cond (times v n == 1) n (inverse_below n v)

-- the multiplicative inverse of a byte, and 0 for 0
unfoldable pub inverse : ℕ → ℕ
inverse v = inverse_below 256 v

-- bit i of a byte, from the lowest, where bit 8 is bit 0 again
unfoldable pub bit : ℕ → ℕ → ℕ
bit i y = y / 2 ^ (i % 8) % 2

-- bit i of the affine map of a byte
unfoldable pub affine_bit : ℕ → ℕ → ℕ
affine_bit i y = (bit i y + bit (i + 4) y + bit (i + 5) y + bit (i + 6) y + bit (i + 7) y + bit i 0x63) % 2

-- the lowest n bits of the affine map of a byte
unfoldable pub affine_low : ℕ → ℕ → ℕ
affine_low zero y = 0
affine_low (suc n) y = affine_low n y + 2 ^ n * affine_bit n y

-- the affine map of a byte
unfoldable pub affine : ℕ → ℕ
affine y = affine_low 8 y

-- SBOX: the inverse of a byte, then the affine map
unfoldable pub S : ℕ → ℕ
S v = affine (inverse v)
