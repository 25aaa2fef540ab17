-- Digests have the width of their hash. Assumes nothing.
use Rattle.std.proofs.Common.{◌≡◌, ℕ, zero, suc, ◌*◌, ◌/◌, ◌≤◌, length, take, drop, ◌∙◌, arith, length-drop}
use lib.ListN.{length-replicate}
use Rattle.std.proofs.lemmas.List.{length-take-le}
use Rattle.hash.specs.Hash.{Hashing, chain, padded, cut, hash_of, from_zeros}
use Rattle.hash.specs.Collisions.{Bytes}
use Rattle.hash.specs.Widths.{Outputs, Sized}
use Rattle.hash.proofs.Padded.{length_padded}

length_chain : (f : Hashing) → Sized f → (c : ℕ) (h xs : Bytes) → length h ≡ f.width → length xs ≡ 16 * c → length (chain f h (cut 16 c xs)) ≡ f.width
length_chain f s zero h xs l e = l
length_chain f s (suc c) h xs l e =
    length_chain f s c (f.out h (take 16 xs)) (drop 16 xs) (s.outputs h (take 16 xs) l (length-take-le 16 xs (omega (arith, e)))) (length-drop 16 xs ∙ omega (arith, e))

pub length_hash : (f : Hashing) → Sized f → (m : Bytes) → length (hash_of f m) ≡ f.width
length_hash f s m = length_chain f s (length (padded m) / 16) f.start (padded m) s.starts (omega (arith, length_padded m))

-- a compression gives such a hash
pub sized_from : (w : ℕ) (f : Bytes → Bytes → Bytes) → 1 ≤ w → w ≤ 32 → Outputs w f → Sized (from_zeros w f)
sized_from w f a b o = record { least = a; most = b; starts = length-replicate w 0; outputs = o }
