-- Payloads as the code takes them apart. Assumes nothing.
use Rattle.std.proofs.Common.{◌≡◌, ℕ, ◌+◌, ◌-◌, ◌*◌, ◌/◌, true, length, take, drop, sym, ap, ◌∙◌, le_refl, arith, length-drop}
use Rattle.std.proofs.lemmas.List.{take-take, drop-take, drop-drop}
use Rattle.std.proofs.lemmas.Slice.{between_to_end}
use Rattle.cipher.specs.Bytes.{number}
use Rattle.hash.specs.Hash.{cut}
use Rattle.hash.specs.Collisions.{Bytes}
use Rattle.record.specs.Records.{head, proof, link, collision, digests_of, as_head, as_proof, as_link, as_collision, rows}
use Rattle.record.specs.Views.{digests_in, WholeDigests}
use Rattle.record.proofs.Payloads.{rows_whole}

-- the rest of a payload, as a range up to its end
rest : (p : Bytes) (i : ℕ) → take (length p - i) (drop i p) ≡ drop i p
rest p i = between_to_end p i (length p) (le_refl (length p))

digests_in_are : (w : ℕ) (p : Bytes) → digests_in w (take (length p - 8) (drop 8 p)) ≡ digests_of w p
digests_in_are w p = ap (digests_in w) (rest p 8) ∙ ap (λ (n : ℕ). cut w (n / w) (drop 8 p)) (length-drop 8 p)

-- a payload of two numbers and whole digests has whole digests behind its numbers
pub whole_rows : (w most : ℕ) (p : Bytes) → rows w most (length p) ≡ true → WholeDigests w (take (length p - 8) (drop 8 p))
whole_rows w most p t =
    ap length (rest p 8) ∙ (rows_whole w most p t).1 ∙ ap (λ (n : ℕ). w * (n / w)) (sym (ap length (rest p 8) ∙ length-drop 8 p))

pub head_in_is : (w n : ℕ) (p : Bytes) → n ≡ number (take 4 p) →
    head (record { size = n; root = take (length p - 4) (drop 4 p) }) ≡ as_head w p
head_in_is w n p e = λ i. head (record { size = e i; root = rest p 4 i })

pub proof_in_is : (w m n : ℕ) (p : Bytes) → m ≡ number (take 4 p) → n ≡ number (take 4 (drop 4 p)) →
    proof (record { index = m; size = n; path = digests_in w (take (length p - 8) (drop 8 p)) }) ≡ as_proof w p
proof_in_is w m n p d e = λ i. proof (record { index = d i; size = e i; path = digests_in_are w p i })

pub link_in_is : (w m n : ℕ) (p : Bytes) → m ≡ number (take 4 p) → n ≡ number (take 4 (drop 4 p)) →
    link (record { old = m; new = n; digests = digests_in w (take (length p - 8) (drop 8 p)) }) ≡ as_link w p
link_in_is w m n p d e = λ i. link (record { old = d i; new = e i; digests = digests_in_are w p i })

pub collision_in_is : (w : ℕ) (p a b : Bytes) → a ≡ take (w + 16) p → b ≡ drop (w + 16) p →
    collision (take w a, drop w a) (take w b, drop w b) ≡ as_collision w p
collision_in_is w p a b first second =
    let h : take w a ≡ take w p = ap (take w) first ∙ take-take w (w + 16) p (omega arith) in
    let m : drop w a ≡ take 16 (drop w p) = ap (drop w) first ∙ drop-take w 16 p in
    let k : drop w b ≡ drop (w + w + 16) p = ap (drop w) second ∙ drop-drop w (w + 16) p ∙ ap (λ (n : ℕ). drop n p) (omega arith) in
    λ i. collision (h i, m i) (take w (second i), k i)
