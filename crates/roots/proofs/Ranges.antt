-- Ranges of leaves, and the roots over them. Assumes nothing.
use Rattle.std.proofs.Common.{◌≡◌, ℕ, ◌+◌, ◌-◌, ◌<◌, ◌≤◌, Bool, true, false, cond, leb, List, [], ◌∷◌, ◌++◌, length, get_or, take, drop, Some, None, sym, ap, ◌∙◌, arith, length-drop}
use Rattle.std.specs.Option.{option_map}
use Rattle.std.specs.List.{slice_get}
use Rattle.std.proofs.lemmas.List.{take_more, get_or-drop}
use Rattle.std.proofs.lemmas.Option.{slice_get-get_or}
use Rattle.std.proofs.lemmas.Bool.{le-leb, lt-ltb}
use Rattle.hash.specs.Collisions.{Bytes}
use Rattle.hash.specs.Hash.{Hashing}
use Rattle.tree.specs.Digests.{node_digest}
use Rattle.tree.specs.Spans.{largest}
use Rattle.tree.specs.Tree.{whole_by}
use Rattle.tree.proofs.Split.{root_front}
use Rattle.roots.specs.Roots.{cells_needed, root_between, in_range, range_root}

some_same : {A : Type 0} (x y : A) → Some x ≡ Some y → x ≡ y
some_same x y p = cc

-- a leaf that is there
pub is_leaf : {D : Type 0} (bytes : D → Bytes) (xs : List Bytes) (i : ℕ) (d : D) → i < length xs → option_map bytes (Some d) ≡ slice_get xs i → get_or xs i [] ≡ bytes d
is_leaf bytes xs i d h e = some_same (get_or xs i []) (bytes d) (sym (slice_get-get_or xs i [] h) ∙ sym e)

pub no_leaf : {D : Type 0} (bytes : D → Bytes) (xs : List Bytes) (i : ℕ) → i < length xs → option_map bytes None ≡ slice_get xs i → ⊥
no_leaf bytes xs i h e =
    let p : None ≡ Some (get_or xs i []) = e ∙ slice_get-get_or xs i [] h in
    let z : ◌≡◌ {A = ℕ} 0 1 = cc in
    omega arith

-- one more leaf of a range
pub range_more : (xs : List Bytes) (a i : ℕ) (x : Bytes) → a ≤ i → i < length xs → get_or xs i [] ≡ x
    → take (i + 1 - a) (drop a xs) ≡ take (i - a) (drop a xs) ++ x ∷ []
range_more xs a i x h k e =
    let n : i + 1 - a ≡ i - a + 1 = omega arith in
    let m : a + (i - a) ≡ i = omega arith in
    let l = length-drop a xs in
    ap (λ (j : ℕ). take j (drop a xs)) n
    ∙ take_more (drop a xs) (i - a) [] (omega arith)
    ∙ ap (λ (y : Bytes). take (i - a) (drop a xs) ++ y ∷ []) (get_or-drop a xs (i - a) [] ∙ ap (λ (j : ℕ). get_or xs j []) m ∙ e)

pub in_range_holds : (a b n k : ℕ) → a < b → b ≤ n → b - a ≤ largest → cells_needed ≤ k → in_range a b n k ≡ true
in_range_holds a b n k p q r s =
    ap (λ (t : Bool). cond t (cond (leb b n) (cond (leb (b - a) largest) (leb cells_needed k) false) false) false) (lt-ltb a b p)
    ∙ ap (λ (t : Bool). cond t (cond (leb (b - a) largest) (leb cells_needed k) false) false) (le-leb b n q)
    ∙ ap (λ (t : Bool). cond t (leb cells_needed k) false) (le-leb (b - a) largest r)
    ∙ le-leb cells_needed k s

pub ranged_root : (f : Hashing) (xs : List Bytes) (a b k : ℕ) → a < b → b ≤ length xs → b - a ≤ largest → cells_needed ≤ k
    → range_root f xs a b k ≡ Some (root_between f xs a b)
ranged_root f xs a b k p q r s = ap (λ (t : Bool). cond t (Some (root_between f xs a b)) None) (in_range_holds a b (length xs) k p q r s)

-- the root that a fold came to is the root over the range
pub root_is_met : (f : Hashing) (xs : List Bytes) (a b : ℕ) (acc : Bytes) → a < b → b ≤ length xs → whole_by (node_digest f) [] (take (b - a) (drop a xs)) ≡ acc → acc ≡ root_between f xs a b
root_is_met f xs a b acc p q e =
    let l = length-drop a xs in
    sym e ∙ root_front (node_digest f) [] (b - a) (drop a xs) (omega arith) (omega arith)

-- what the answer of `range_root` is where there is such a range
pub root_there : {D : Type 0} (bytes : D → Bytes) (f : Hashing) (xs : List Bytes) (a b k : ℕ) (d : D) → a < b → b ≤ length xs → b - a ≤ largest → cells_needed ≤ k
    → option_map bytes (Some d) ≡ range_root f xs a b k → bytes d ≡ root_between f xs a b
root_there bytes f xs a b k d p q r s e = some_same (bytes d) (root_between f xs a b) (e ∙ ranged_root f xs a b k p q r s)

pub no_root : {D : Type 0} (bytes : D → Bytes) (f : Hashing) (xs : List Bytes) (a b k : ℕ) → a < b → b ≤ length xs → b - a ≤ largest → cells_needed ≤ k
    → option_map bytes None ≡ range_root f xs a b k → ⊥
no_root bytes f xs a b k p q r s e =
    let f : None ≡ Some (root_between f xs a b) = e ∙ ranged_root f xs a b k p q r s in
    let z : ◌≡◌ {A = ℕ} 0 1 = cc in
    omega arith
