-- What is read: the ranges beside a way, and digests that are exactly as many. Assumes nothing.
use Rattle.std.proofs.Common.{◌≡◌, ℕ, suc, ◌+◌, ◌-◌, ◌*◌, ◌/◌, ◌<◌, ◌≤◌, Bool, true, false, cond, eqb, leb, List, [], ◌∷◌, length, take, drop, Some, None, Option, sym, refl, ap, ◌∙◌, ap₂, arith, length-drop}
use Rattle.std.proofs.Math.Nat.{div-eq_of_lt, add-div_right, mul-div_cancel_left}
use Rattle.std.proofs.Math.Seq.{take-length}
use Rattle.std.proofs.lemmas.Bool.{leb-true, leb-false}
use Rattle.std.proofs.lemmas.Option.{cond_some}
use Rattle.std.specs.Option.{option_map}
use Rattle.cipher.specs.Bytes.{piece}
use Rattle.hash.specs.Collisions.{Bytes}
use Rattle.hash.specs.Hash.{cut}
use Rattle.tree.specs.declared.spans.Span.{Span}
use Rattle.tree.specs.declared.ways.Way.{Way}
use Rattle.tree.specs.Ways.{in_way, way_spans}
use Rattle.roots.specs.Roots.{cells_needed}
use Rattle.paths.specs.Ranges.{beside, digests_in}
use Rattle.paths.specs.Rebuilds.{way_reads}

some_none : {X : Type 0} (x : X) → Some x ≡ None → ⊥
some_none x e = let z : ◌≡◌ {A = ℕ} 0 1 = ap (λ (o : Option _). elim o [ Some y ↦ 0 | None ↦ 1 ]) e in omega arith

pub some_is : {X : Type 0} (x y : X) → Some x ≡ Some y → x ≡ y
some_is x y e = ap (λ (o : Option _). elim o [ Some z ↦ z | None ↦ x ]) e

module _ (w cells long : ℕ) (way : Way) where
  abbrev there : Bool
  there = in_way way

  abbrev enough : Bool
  enough = leb cells_needed cells

  abbrev exact : ℕ → Bool
  exact k = eqb long (w * k)

  -- nothing was read
  pub no_way : {X : Type 0} (x : X) → None ≡ beside way cells → None ≡ cond (way_reads w way cells long) (Some x) None
  no_way x e = go there enough (exact (length (way_spans way))) e
    where
      go : (a b c : Bool) → None ≡ cond a (cond b (Some (way_spans way)) None) None → None ≡ cond (cond a (cond b c false) false) (Some x) None
      go true true c h = absurd (some_none (way_spans way) (sym h))
      go true false c h = refl
      go false b c h = refl

  module _ (xs : List Span) (is : Some xs ≡ beside way cells) where
    pub not_exact : {X Y : Type 0} (x : X) (y : Y) → None ≡ cond (exact (length xs)) (Some y) None → None ≡ cond (way_reads w way cells long) (Some x) None
    not_exact x y e = go there enough is
      where
        last : (c : Bool) → None ≡ cond c (Some y) None → c ≡ false
        last true h = absurd (some_none y (sym h))
        last false h = refl

        go : (a b : Bool) → Some xs ≡ cond a (cond b (Some (way_spans way)) None) None → None ≡ cond (cond a (cond b (exact (length (way_spans way))) false) false) (Some x) None
        go true true h =
            let s = some_is xs (way_spans way) h in
            sym (ap (λ (t : Bool). cond t (Some x) None) (ap (λ (l : List Span). exact (length l)) (sym s) ∙ last (exact (length xs)) e))
        go true false h = absurd (some_none xs h)
        go false b h = absurd (some_none xs h)

    pub all_there : (in_way way ≡ true) × (xs ≡ way_spans way) × (leb cells_needed cells ≡ true)
    all_there = go there enough is
      where
        go : (a b : Bool) → Some xs ≡ cond a (cond b (Some (way_spans way)) None) None → (a ≡ true) × (xs ≡ way_spans way) × (b ≡ true)
        go true true h = (refl, some_is xs (way_spans way) h, refl)
        go true false h = absurd (some_none xs h)
        go false b h = absurd (some_none xs h)

    -- all was read
    pub read : {Y : Type 0} (y z : Y) (k : ℕ) → k ≡ length xs → Some z ≡ cond (exact k) (Some y) None → (z ≡ y) × (way_reads w way cells long ≡ true)
    read y z k m e = go (exact k) refl e
      where
        go : (c : Bool) → exact k ≡ c → Some z ≡ cond c (Some y) None → (z ≡ y) × (way_reads w way cells long ≡ true)
        go true h g =
            let a = all_there in (
              some_is z y g,
              ap (λ (t : Bool). cond t (cond enough (exact (length (way_spans way))) false) false) a.0
                  ∙ ap (λ (t : Bool). cond t (exact (length (way_spans way))) false) a.2
                  ∙ ap (λ (l : List Span). exact (length l)) (sym a.1) ∙ ap exact (sym m) ∙ h,
            )
        go false h g = absurd (some_none z g)

-- the digests in bytes: none in fewer than one has, and otherwise one more than behind the first
pub no_digest : (w : ℕ) (xs : Bytes) → length xs < w → digests_in w xs ≡ []
no_digest w xs h = ap (λ (k : ℕ). cut w k xs) (div-eq_of_lt h)

pub one_digest : (w : ℕ) (xs : Bytes) → 1 ≤ w → w ≤ length xs → digests_in w xs ≡ take w xs ∷ digests_in w (drop w xs)
one_digest w xs p h =
    let behind : length xs ≡ length (drop w xs) + w = omega (arith, length-drop w xs) in
    let e : length xs / w ≡ suc (length (drop w xs) / w) = ap (λ (n : ℕ). n / w) behind ∙ add-div_right (length (drop w xs)) p ∙ omega arith in
    ap (λ (k : ℕ). cut w k xs) e

pub all_digests : (w k : ℕ) (xs : Bytes) → 1 ≤ w → length xs ≡ w * k → digests_in w xs ≡ cut w k xs
all_digests w k xs p h = ap (λ (j : ℕ). cut w j xs) (ap (λ (n : ℕ). n / w) h ∙ mul-div_cancel_left k p)

-- a digest was read, or there was none
pub digest_read : {D : Type 0} (bytes : D → Bytes) (d : D) (w size : ℕ) (xs : Bytes) → 1 ≤ w → size ≡ w → option_map bytes (Some d) ≡ piece 0 w xs
    → digests_in w xs ≡ bytes d ∷ digests_in w (take (length xs - size) (drop size xs))
digest_read bytes d w size xs p s e =
    let f = cond_some (leb (0 + w) (length xs)) (take w (drop 0 xs)) (bytes d) (sym e) in
    let rest : take (length xs - size) (drop size xs) ≡ drop w xs =
    ap (λ (k : ℕ). take (length xs - k) (drop k xs)) s ∙ ap (λ (k : ℕ). take k (drop w xs)) (sym (length-drop w xs)) ∙ take-length (drop w xs) in
    one_digest w xs p (omega (arith, leb-true (0 + w) (length xs) f.0))
    ∙ ap₂ (λ (y : Bytes) (ys : Bytes). y ∷ digests_in w ys) f.1 (sym rest)

pub none_read : {D : Type 0} (bytes : D → Bytes) (w : ℕ) (xs : Bytes) → option_map bytes None ≡ piece 0 w xs → digests_in w xs ≡ []
none_read bytes w xs e = go (leb (0 + w) (length xs)) refl e
  where
    go : (b : Bool) → leb (0 + w) (length xs) ≡ b → None ≡ cond b (Some (take w (drop 0 xs))) None → digests_in w xs ≡ []
    go true f h = absurd (some_none (take w (drop 0 xs)) (sym h))
    go false f h = no_digest w xs (omega (arith, leb-false (0 + w) (length xs) f))
