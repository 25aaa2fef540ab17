-- The hash over any compression: padding, blocks, and the chain of values. Assumes nothing.
use Rattle.std.specs.Prelude.{ℕ, zero, suc, ◌-◌, ◌/◌, ◌%◌, List, [], ◌∷◌, ◌++◌, length, take, drop, replicate, Ok, nat_le}
use Rattle.cipher.specs.Bytes.{little}
use Rattle.refusal.specs.Refusals.{Answer, must, ◌>>◌}
use Rattle.refusal.specs.declared.Refusal.TheVariants.{TooLong}

-- how many bytes 00 make the length 8 modulo 16, after n bytes and the byte 80
abbrev pub gap : ℕ → ℕ
gap n = (23 - n % 16) % 16

-- the message, the byte 80, the gap, and the message's length as 8 bytes
abbrev pub padded : List ℕ → List ℕ
padded m = m ++ (128 ∷ (replicate (gap (length m)) 0 ++ little 8 (length m)))

-- c pieces of w bytes, off the front
abbrev pub cut : ℕ → ℕ → List ℕ → List (List ℕ)
cut w zero xs = []
cut w (suc c) xs = take w xs ∷ cut w c (drop w xs)

-- the padded message in blocks of 16 bytes
abbrev pub blocks : List ℕ → List (List ℕ)
blocks m = cut 16 (length (padded m) / 16) (padded m)

-- what a hash is made of: the width of its digests in bytes, its start value, and its compression f(h, m)
pub record Hashing : Type 0 where
  pub width : ℕ
  pub start : List ℕ
  pub out : List ℕ → List ℕ → List ℕ

-- the chaining value after some blocks, from the value h on
abbrev pub chain : Hashing → List ℕ → List (List ℕ) → List ℕ
chain f h [] = h
chain f h (b ∷ bs) = chain f (f.out h b) bs

-- the digest of a message
abbrev pub hash_of : Hashing → List ℕ → List ℕ
hash_of f m = chain f f.start (blocks m)

-- the chaining value before block k of a message, or its digest where it has no more than k blocks
abbrev pub value_before : Hashing → List ℕ → ℕ → List ℕ
value_before f m k = chain f f.start (take k (blocks m))

-- the start value of digests of w bytes
abbrev pub start_of : ℕ → List ℕ
start_of w = replicate w 0

-- a compression with digests of w bytes, as a hash
abbrev pub from_zeros : ℕ → (List ℕ → List ℕ → List ℕ) → Hashing
from_zeros w f = record { width = w; start = start_of w; out = f }

-- the most bytes that a message may have
abbrev pub longest : ℕ
longest = 1048576

-- the answer of the call `hash`
abbrev pub hash_answer : Hashing → List ℕ → Answer (List ℕ)
hash_answer f m = do
  must (nat_le (length m) longest) (TooLong 1)
  Ok (hash_of f m)
