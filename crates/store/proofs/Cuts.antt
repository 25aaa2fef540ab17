-- Lists that are cut into pieces of one length, and a piece written behind others. Assumes nothing.
use Rattle.std.proofs.Common.{◌≡◌, ℕ, zero, suc, ◌+◌, ◌*◌, ◌≤◌, List, [], ◌∷◌, ◌++◌, map, length, take, drop, refl, ap, ◌∙◌, ap₂, mul-suc, arith, length-drop}
use Rattle.std.proofs.lemmas.List.{nil_from_length, take_at, take-take, take-append-le, drop-append-le, drop-take, length-take-le}
use Rattle.std.specs.Option.{option_map}
use Rattle.std.specs.List.{slice_get}
use Rattle.cipher.specs.Bytes.{written}
use Rattle.hash.specs.Hash.{cut}

pub nth_map : {X Y : Type 0} (f : X → Y) (xs : List X) (i : ℕ) → slice_get (map f xs) i ≡ option_map f (slice_get xs i)
nth_map f [] i = refl
nth_map f (x ∷ xs) zero = refl
nth_map f (x ∷ xs) (suc i) = nth_map f xs i

-- c pieces are the front of the list
pub cut_front : (w c : ℕ) (xs : List ℕ) → cut w c (take (w * c) xs) ≡ cut w c xs
cut_front w zero xs = refl
cut_front w (suc c) xs =
    let e : w * suc c ≡ w + w * c = omega (arith, mul-suc w c) in
    ap (λ (n : ℕ). cut w (suc c) (take n xs)) e
    ∙ ap₂ ◌∷◌ (take-take w (w + w * c) xs (omega arith)) (ap (cut w c) (drop-take w (w * c) xs) ∙ cut_front w c (drop w xs))

-- one more piece
pub cut_more : (w c : ℕ) (xs ys : List ℕ) → length xs ≡ w * c → cut w (suc c) (xs ++ ys) ≡ cut w c xs ++ take w ys ∷ []
cut_more w zero xs ys e =
    let z : xs ≡ [] = nil_from_length xs (omega arith) in
    ap (λ (l : List ℕ). take w (l ++ ys) ∷ []) z
cut_more w (suc c) xs ys e =
    let m : w * suc c ≡ w + w * c = omega (arith, mul-suc w c) in
    ap₂ ◌∷◌ (take-append-le w xs ys (omega arith))
    (ap (cut w (suc c)) (drop-append-le w xs ys (omega arith)) ∙ cut_more w c (drop w xs) ys (omega (arith, length-drop w xs)))

-- a piece that is written behind c others
pub cut_written : (w c : ℕ) (new old : List ℕ) → length new ≡ w → w * c ≤ length old → cut w (suc c) (written (w * c) new old) ≡ cut w c old ++ new ∷ []
cut_written w c new old e h =
    cut_more w c (take (w * c) old) (new ++ drop (w * c + length new) old) (length-take-le (w * c) old h)
    ∙ ap₂ (λ (ps : List (List ℕ)) (p : List ℕ). ps ++ p ∷ []) (cut_front w c old) (take_at new (drop (w * c + length new) old) w e)
