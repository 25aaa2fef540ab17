-- Writes one after the other, and records in parts. Assumes nothing.
use Rattle.std.proofs.Common.{◌≡◌, ℕ, ◌+◌, ◌≤◌, Bool, true, false, leb, ◌++◌, length, take, drop, sym, ap, ◌∙◌, append_assoc, arith, length-append, length-drop}
use Rattle.std.proofs.lemmas.List.{length-take-le}
use Rattle.std.proofs.lemmas.Bool.{leb-true, cond-false}
use Rattle.cipher.specs.Bytes.{little, written, stored}
use Rattle.cipher.proofs.Littles.{length_little}
use Rattle.cipher.proofs.Pieces.{stored_there, written_written}
use Rattle.hash.specs.Collisions.{Bytes}
use Rattle.record.specs.Frames.{frame_of, framed}

-- what the test of the room says
pub room : (i n : ℕ) (xs : Bytes) (t : Bool) → t ≡ leb (i + n) (length xs) → t ≡ true → i + n ≤ length xs
room i n xs t e h = leb-true (i + n) (length xs) (sym e ∙ h)

pub no_room : (i n : ℕ) (new xs : Bytes) (t : Bool) → t ≡ leb (i + n) (length xs) → t ≡ false → length new ≡ n → xs ≡ stored i new xs
no_room i n new xs t e h l =
    sym (cond-false (leb (i + length new) (length xs)) _ _ (ap (λ (k : ℕ). leb (i + k) (length xs)) l ∙ sym e ∙ h))

pub length_written : (i : ℕ) (new xs : Bytes) → i + length new ≤ length xs → length (written i new xs) ≡ length xs
length_written i new xs h =
    length-append (take i xs) (new ++ drop (i + length new) xs)
    ∙ omega (arith, length-take-le i xs (omega arith), length-append new (drop (i + length new) xs), length-drop (i + length new) xs)

-- two writes, the second behind the first, are one
pub two_stores : (i n : ℕ) (us vs xs ys zs : Bytes) → ys ≡ stored i us xs → zs ≡ stored (i + n) vs ys → length us ≡ n → i + n + length vs ≤ length xs →
    zs ≡ stored i (us ++ vs) xs
two_stores i n us vs xs ys zs first second e h =
    let a : i + length us ≤ length xs = omega arith in
    let y : ys ≡ written i us xs = first ∙ stored_there i us xs a in
    second ∙ ap (stored (i + n) vs) y
    ∙ stored_there (i + n) vs (written i us xs) (omega (arith, length_written i us xs a))
    ∙ written_written xs i us vs n e h
    ∙ sym (stored_there i (us ++ vs) xs (omega (arith, length-append us vs)))

pub length_header : (k n : ℕ) → length (little 2 n ++ little 2 k) ≡ 4
length_header k n = omega (arith, length-append (little 2 n) (little 2 k), length_little 2 n, length_little 2 k)

-- a record is its header and its payload
pub begun : (k n : ℕ) (p : Bytes) → n ≡ length p → (little 2 n ++ little 2 k) ++ p ≡ framed (frame_of k p)
begun k n p e = append_assoc (little 2 n) (little 2 k) p ∙ ap (λ (m : ℕ). little 2 m ++ (little 2 k ++ p)) e

-- a header and then a payload are a record
pub framed_put : (k n i : ℕ) (p xs ys zs : Bytes) → ys ≡ stored i (little 2 n ++ little 2 k) xs → zs ≡ stored (i + 4) p ys → n ≡ length p → i + (4 + length p) ≤ length xs →
    zs ≡ stored i (framed (frame_of k p)) xs
framed_put k n i p xs ys zs first second e h =
    two_stores i 4 (little 2 n ++ little 2 k) p xs ys zs first second (length_header k n) (omega arith) ∙ ap (λ (l : Bytes). stored i l xs) (begun k n p e)
