-- Reading and writing at a place of a list. Assumes nothing.
use Rattle.std.proofs.Common.{◌≡◌, ℕ, ◌+◌, ◌<◌, ◌≤◌, Bool, true, false, leb, List, ◌++◌, length, take, drop, Some, None, refl, sym, ap, ◌∙◌, append_assoc, arith, length-append, le-leb}
use borrow.Author.Tests.{lt-leb}
use Rattle.std.proofs.lemmas.List.{take_at, drop_at, drop-drop, length-take-le}
use Rattle.std.proofs.lemmas.Bool.{cond-true, cond-false, leb-true, leb-false}
use Rattle.cipher.specs.Bytes.{piece, written, stored}

pub piece_there : (i w : ℕ) (xs : List ℕ) → i + w ≤ length xs → piece i w xs ≡ Some (take w (drop i xs))
piece_there i w xs h = cond-true (leb (i + w) (length xs)) _ _ (le-leb (i + w) (length xs) h)

pub piece_short : (i w : ℕ) (xs : List ℕ) → length xs < i + w → piece i w xs ≡ None
piece_short i w xs h = cond-false (leb (i + w) (length xs)) _ _ (lt-leb (i + w) (length xs) h)

-- what is there
pub piece_is : (i w : ℕ) (xs ys : List ℕ) → Some ys ≡ piece i w xs → (i + w ≤ length xs) × (ys ≡ take w (drop i xs))
piece_is i w xs ys e = go (leb (i + w) (length xs)) refl
  where
    go : (t : Bool) → leb (i + w) (length xs) ≡ t → (i + w ≤ length xs) × (ys ≡ take w (drop i xs))
    go true t = (leb-true (i + w) (length xs) t, let s : Some ys ≡ Some (take w (drop i xs)) = e ∙ piece_there i w xs (leb-true (i + w) (length xs) t) in cc)
    go false t = let s : Some ys ≡ None = e ∙ piece_short i w xs (leb-false (i + w) (length xs) t) in cc

pub stored_there : (i : ℕ) (new old : List ℕ) → i + length new ≤ length old → stored i new old ≡ written i new old
stored_there i new old h = cond-true (leb (i + length new) (length old)) _ _ (le-leb (i + length new) (length old) h)

pub stored_short : (i : ℕ) (new old : List ℕ) → length old < i + length new → stored i new old ≡ old
stored_short i new old h = cond-false (leb (i + length new) (length old)) _ _ (lt-leb (i + length new) (length old) h)

-- one write after another is one write
pub written_written : (xs : List ℕ) (i : ℕ) (ys zs : List ℕ) (n : ℕ) → length ys ≡ n → i + n + length zs ≤ length xs → written (i + n) zs (written i ys xs) ≡ written i (ys ++ zs) xs
written_written xs i ys zs n e h =
    let F : List ℕ = take i xs ++ ys in
    let A : List ℕ = written i ys xs in
    let front : length (take i xs ++ ys) ≡ i + n = omega (arith, length-append (take i xs) ys, length-take-le i xs (omega arith)) in
    let split : written i ys xs ≡ (take i xs ++ ys) ++ drop (i + n) xs = simp (append_assoc, e) in
    let a : take (i + n) A ≡ F = ap (take (i + n)) split ∙ take_at F (drop (i + n) xs) (i + n) front in
    let d : drop (i + n + length zs) A ≡ drop (i + n + length zs) xs =
    sym (drop-drop (length zs) (i + n) A) ∙ ap (λ l. drop (length zs) l) (ap (λ l. drop (i + n) l) split ∙ drop_at F (drop (i + n) xs) (i + n) front) ∙ drop-drop (length zs) (i + n) xs in
    let k : i + n + length zs ≡ i + length (ys ++ zs) = omega (arith, length-append ys zs) in
    ap (λ p. p ++ (zs ++ drop (i + n + length zs) A)) a
    ∙ ap (λ q. F ++ (zs ++ q)) (d ∙ ap (λ m. drop m xs) k)
    ∙ append_assoc (take i xs) ys (zs ++ drop (i + length (ys ++ zs)) xs)
    ∙ ap (λ q. take i xs ++ q) (sym (append_assoc ys zs (drop (i + length (ys ++ zs)) xs)))

-- what was written at the front is the front
pub written_front : (ys xs : List ℕ) (n : ℕ) → length ys ≡ n → take n (written 0 ys xs) ≡ ys
written_front ys xs n e = take_at ys (drop (0 + length ys) xs) n e

-- equal wholes with fronts of one length have equal parts
pub fronts : (n : ℕ) (xs ys us vs : List ℕ) → length xs ≡ n → length us ≡ n → xs ++ ys ≡ us ++ vs → xs ≡ us
fronts n xs ys us vs p q e = sym (take_at xs ys n p) ∙ ap (λ l. take n l) e ∙ take_at us vs n q

pub backs : (n : ℕ) (xs ys us vs : List ℕ) → length xs ≡ n → length us ≡ n → xs ++ ys ≡ us ++ vs → ys ≡ vs
backs n xs ys us vs p q e = sym (drop_at xs ys n p) ∙ ap (λ l. drop n l) e ∙ drop_at us vs n q
