-- The way up, from the lowest digest on, is the climb of the definitions, which begins at the root. Assumes nothing.
use Rattle.std.proofs.Common.{◌≡◌, ℕ, ◌*◌, Bool, true, false, cond, List, [], ◌∷◌, ◌++◌, map, reverse, length, eqb, ◌⊎◌, inl, inr, ⊎_elim, Some, None, Option, sym, refl, ap, ◌∙◌, ap₂, arith}
use mathlib.Core.List.{reverse-cons, reverse-reverse}
use Rattle.std.specs.Iterator.{YieldsFirst, YieldsFirstBy}
use Rattle.std.specs.declared.iter.Zip.{Zip}
use Rattle.std.specs.Iterator.Adapters.{zip_steps}
use Rattle.std.specs.List.{zip}
use Rattle.std.proofs.lemmas.List.{map_push, length-reverse, length-map}
use Rattle.hash.specs.Collisions.{Bytes}
use Rattle.hash.specs.Hash.{Hashing, cut}
use Rattle.hash.proofs.Padded.{length_cut}
use Rattle.tree.specs.declared.spans.Span.{Span}
use Rattle.tree.specs.declared.ways.Side.{Side}
use Rattle.tree.specs.declared.ways.Side.TheVariants.{Low, High, Through}
use Rattle.tree.specs.declared.ways.Way.{Way}
use Rattle.tree.specs.Digests.{node_digest}
use Rattle.tree.specs.Links.{climb_old, base, above}
use Rattle.tree.specs.Tree.{Turn, low, high, climb}
use Rattle.tree.specs.Ways.{in_way, way_spans, way_turns, way_kept, side_of}
use Rattle.tree.proofs.Sides.{side_by, sides, way_sides}
use Rattle.paths.specs.Climbs.{climbed, joined, joined_old, both_joined}
use Rattle.paths.specs.Parts.{ways_part, way_part}
use Rattle.paths.specs.Ranges.{beside}
use Rattle.paths.specs.Rebuilds.{way_reads}
use Rattle.paths.proofs.Ranged.{all_there, read}

-- one step more, at the end of both lists
climbed_push : {S P : Type 0} (step : Side → S → P → S) (d : S) (ss : List Side) (ps : List P) (s : Side) (p : P) → length ss ≡ length ps
    → climbed step d (ss ++ (s ∷ [])) (ps ++ (p ∷ [])) ≡ step s (climbed step d ss ps) p
climbed_push step d [] [] s p e = refl
climbed_push step d [] (q ∷ ps) s p e = absurd (omega (arith, e))
climbed_push step d (t ∷ ss) [] s p e = absurd (omega (arith, e))
climbed_push step d (t ∷ ss) (q ∷ ps) s p e = climbed_push step (step t d q) ss ps s p (omega (arith, e))

length_sides : (ts : List Turn) → length (sides ts) ≡ length ts
length_sides ts = length-map (reverse ts) side_by ∙ length-reverse ts

turned : {S P : Type 0} (step : Side → S → P → S) (d : S) (t : Turn) (ts : List Turn) (p : P) (ps : List P) → length ts ≡ length ps
    → climbed step d (sides (t ∷ ts)) (reverse (p ∷ ps)) ≡ step (side_by t) (climbed step d (sides ts) (reverse ps)) p
turned step d t ts p ps e =
    ap₂ (climbed step d) (ap (map side_by) (reverse-cons t ts) ∙ map_push side_by (reverse ts) t) (reverse-cons p ps)
    ∙ climbed_push step d (sides ts) (reverse ps) (side_by t) p (length_sides ts ∙ e ∙ sym (length-reverse ps))

zip_push : {A B : Type 0} (xs : List A) (ys : List B) (x : A) (y : B) → length xs ≡ length ys → zip (xs ++ (x ∷ [])) (ys ++ (y ∷ [])) ≡ zip xs ys ++ ((x, y) ∷ [])
zip_push [] [] x y e = refl
zip_push [] (b ∷ ys) x y e = absurd (omega (arith, e))
zip_push (a ∷ xs) [] x y e = absurd (omega (arith, e))
zip_push (a ∷ xs) (b ∷ ys) x y e = ap (λ (l : List _). (a, b) ∷ l) (zip_push xs ys x y (omega (arith, e)))

long_zip : {A B : Type 0} (xs : List A) (ys : List B) (k : ℕ) → k ≡ length xs → k ≡ length ys → k ≡ length (zip xs ys)
long_zip [] [] k e h = e
long_zip [] (b ∷ ys) k e h = absurd (omega (arith, e, h))
long_zip (a ∷ xs) [] k e h = absurd (omega (arith, e, h))
long_zip (a ∷ xs) (b ∷ ys) k e h = omega (arith, e, h, long_zip xs ys (length xs) refl (omega (arith, e, h)))

-- the part with which the way ends, unless it is known
abbrev foot : Bool → List Side
foot known = cond known [] (Through ∷ [])

both_turned : {S : Type 0} (step : Side → S → Bytes × Bytes → S) (d : S) (t : Turn) (ts : List Turn) (p : Bytes) (ps : List Bytes) (p' : Bytes) (ps' : List Bytes) → length ts ≡ length ps → length ts ≡ length ps'
    → climbed step d (sides (t ∷ ts)) (zip (reverse (p ∷ ps)) (reverse (p' ∷ ps'))) ≡ step (side_by t) (climbed step d (sides ts) (zip (reverse ps) (reverse ps'))) (p, p')
both_turned step d t ts p ps p' ps' e h =
    let long = length-reverse ps in
    let long' = length-reverse ps' in
    ap₂ (climbed step d) (ap (map side_by) (reverse-cons t ts) ∙ map_push side_by (reverse ts) t)
    (ap₂ zip (reverse-cons p ps) (reverse-cons p' ps') ∙ zip_push (reverse ps) (reverse ps') p p' (long ∙ sym e ∙ h ∙ sym long'))
    ∙ climbed_push step d (sides ts) (zip (reverse ps) (reverse ps')) (side_by t) (p, p')
    (long_zip (reverse ps) (reverse ps') (length (sides ts)) (length_sides ts ∙ e ∙ sym long) (length_sides ts ∙ h ∙ sym long'))

module _ (f : Hashing) where
  abbrev node : Bytes → Bytes → Bytes
  node = node_digest f

  up : (ts : List Turn) (ps : List Bytes) (d : Bytes) → length ts ≡ length ps → climbed (joined f) d (sides ts) (reverse ps) ≡ climb node ts d ps
  up [] [] d e = refl
  up [] (p ∷ ps) d e = absurd (omega (arith, e))
  up (t ∷ ts) [] d e = absurd (omega (arith, e))
  up (low ∷ ts) (p ∷ ps) d e = turned (joined f) d low ts p ps (omega (arith, e)) ∙ ap (λ (x : Bytes). node x p) (up ts ps d (omega (arith, e)))
  up (high ∷ ts) (p ∷ ps) d e = turned (joined f) d high ts p ps (omega (arith, e)) ∙ ap (node p) (up ts ps d (omega (arith, e)))

  up_old : (ts : List Turn) (ps : List Bytes) (d : Bytes) → length ts ≡ length ps → climbed (joined_old f) d (sides ts) (reverse ps) ≡ climb_old node ts d ps
  up_old [] [] d e = refl
  up_old [] (p ∷ ps) d e = absurd (omega (arith, e))
  up_old (t ∷ ts) [] d e = absurd (omega (arith, e))
  up_old (low ∷ ts) (p ∷ ps) d e = turned (joined_old f) d low ts p ps (omega (arith, e)) ∙ up_old ts ps d (omega (arith, e))
  up_old (high ∷ ts) (p ∷ ps) d e = turned (joined_old f) d high ts p ps (omega (arith, e)) ∙ ap (node p) (up_old ts ps d (omega (arith, e)))

  -- from what is known below, or from the first digest
  from : (ts : List Turn) (ds : List Bytes) (known : Bool) (d : Bytes) → length ds ≡ length (foot known ++ sides ts)
      → climbed (joined f) d (foot known ++ sides ts) ds ≡ climb node ts (base known d ds) (reverse (above known ds))
  from ts ds true d e =
      ap (climbed (joined f) d (sides ts)) (sym (reverse-reverse ds)) ∙ up ts (reverse ds) d (sym (length-reverse ds ∙ e ∙ length_sides ts))
  from ts [] false d e = absurd (omega (arith, e))
  from ts (p ∷ ds) false d e =
      ap (climbed (joined f) p (sides ts)) (sym (reverse-reverse ds)) ∙ up ts (reverse ds) p (sym (length-reverse ds ∙ omega (arith, e) ∙ length_sides ts))

  from_old : (ts : List Turn) (ds : List Bytes) (known : Bool) (d : Bytes) → length ds ≡ length (foot known ++ sides ts)
      → climbed (joined_old f) d (foot known ++ sides ts) ds ≡ climb_old node ts (base known d ds) (reverse (above known ds))
  from_old ts ds true d e =
      ap (climbed (joined_old f) d (sides ts)) (sym (reverse-reverse ds)) ∙ up_old ts (reverse ds) d (sym (length-reverse ds ∙ e ∙ length_sides ts))
  from_old ts [] false d e = absurd (omega (arith, e))
  from_old ts (p ∷ ds) false d e =
      ap (climbed (joined_old f) p (sides ts)) (sym (reverse-reverse ds)) ∙ up_old ts (reverse ds) p (sym (length-reverse ds ∙ omega (arith, e) ∙ length_sides ts))

  -- two ways at once
  up_both : (ts : List Turn) (ps ps' : List Bytes) (d d' : Bytes) (o : Option (Bytes × Bytes)) → length ts ≡ length ps → length ts ≡ length ps'
      → climbed (both_joined f) (d, d', o) (sides ts) (zip (reverse ps) (reverse ps')) ≡ (climb node ts d ps, climb node ts d' ps', ways_part f ts d ps d' ps' o)
  up_both [] [] [] d d' o e h = refl
  up_both [] (p ∷ ps) ps' d d' o e h = absurd (omega (arith, e))
  up_both [] [] (p ∷ ps') d d' o e h = absurd (omega (arith, h))
  up_both (t ∷ ts) [] ps' d d' o e h = absurd (omega (arith, e))
  up_both (t ∷ ts) (p ∷ ps) [] d d' o e h = absurd (omega (arith, h))
  up_both (low ∷ ts) (p ∷ ps) (p' ∷ ps') d d' o e h =
      both_turned (both_joined f) (d, d', o) low ts p ps p' ps' (omega (arith, e)) (omega (arith, h))
      ∙ ap (λ (x : Bytes × Bytes × Option (Bytes × Bytes)). both_joined f Low x (p, p')) (up_both ts ps ps' d d' o (omega (arith, e)) (omega (arith, h)))
  up_both (high ∷ ts) (p ∷ ps) (p' ∷ ps') d d' o e h =
      both_turned (both_joined f) (d, d', o) high ts p ps p' ps' (omega (arith, e)) (omega (arith, h))
      ∙ ap (λ (x : Bytes × Bytes × Option (Bytes × Bytes)). both_joined f High x (p, p')) (up_both ts ps ps' d d' o (omega (arith, e)) (omega (arith, h)))

  from_both : (ts : List Turn) (ds ds' : List Bytes) (known : Bool) (d d' : Bytes) (o : Option (Bytes × Bytes)) → length ds ≡ length (foot known ++ sides ts) → length ds' ≡ length (foot known ++ sides ts)
      → (climbed (both_joined f) (d, d', o) (foot known ++ sides ts) (zip ds ds')).2
      ≡ ways_part f ts (base known d ds) (reverse (above known ds)) (base known d' ds') (reverse (above known ds')) o
  from_both ts ds ds' true d d' o e h =
      ap₂ (λ (x y : List Bytes). (climbed (both_joined f) (d, d', o) (sides ts) (zip x y)).2) (sym (reverse-reverse ds)) (sym (reverse-reverse ds'))
      ∙ ap (λ (x : Bytes × Bytes × Option (Bytes × Bytes)). x.2) (up_both ts (reverse ds) (reverse ds') d d' o (sym (length-reverse ds ∙ e ∙ length_sides ts)) (sym (length-reverse ds' ∙ h ∙ length_sides ts)))
  from_both ts [] ds' false d d' o e h = absurd (omega (arith, e))
  from_both ts (p ∷ ds) [] false d d' o e h = absurd (omega (arith, h))
  from_both ts (p ∷ ds) (p' ∷ ds') false d d' o e h =
      ap₂ (λ (x y : List Bytes). (climbed (both_joined f) (p, p', o) (sides ts) (zip x y)).2) (sym (reverse-reverse ds)) (sym (reverse-reverse ds'))
      ∙ ap (λ (x : Bytes × Bytes × Option (Bytes × Bytes)). x.2)
      (up_both ts (reverse ds) (reverse ds') p p' o (sym (length-reverse ds ∙ omega (arith, e) ∙ length_sides ts)) (sym (length-reverse ds' ∙ omega (arith, h) ∙ length_sides ts)))

  -- the same of a way and what a paper has for it
  module _ (w : Way) (there : in_way w ≡ true) where
    abbrev digests : Bytes → List Bytes
    digests p = cut f.width (length (way_spans w)) p

    turned_by : map (side_of w) (way_spans w) ≡ foot (way_kept w) ++ sides (way_turns w)
    turned_by = way_sides w there

    many : (p : Bytes) → length (digests p) ≡ length (foot (way_kept w) ++ sides (way_turns w))
    many p = length_cut f.width (length (way_spans w)) p ∙ sym (length-map (way_spans w) (side_of w)) ∙ ap length turned_by

    pub new_root : (d p : Bytes) → climbed (joined f) d (map (side_of w) (way_spans w)) (digests p)
        ≡ climb node (way_turns w) (base (way_kept w) d (digests p)) (reverse (above (way_kept w) (digests p)))
    new_root d p = ap (λ (ss : List Side). climbed (joined f) d ss (digests p)) turned_by ∙ from (way_turns w) (digests p) (way_kept w) d (many p)

    pub old_root : (d p : Bytes) → climbed (joined_old f) d (map (side_of w) (way_spans w)) (digests p)
        ≡ climb_old node (way_turns w) (base (way_kept w) d (digests p)) (reverse (above (way_kept w) (digests p)))
    old_root d p = ap (λ (ss : List Side). climbed (joined_old f) d ss (digests p)) turned_by ∙ from_old (way_turns w) (digests p) (way_kept w) d (many p)

    pub both_part : (d p d' p' : Bytes) (o : Option (Bytes × Bytes)) → (climbed (both_joined f) (d, d', o) (map (side_of w) (way_spans w)) (zip (digests p) (digests p'))).2
        ≡ ways_part f (way_turns w) (base (way_kept w) d (digests p)) (reverse (above (way_kept w) (digests p))) (base (way_kept w) d' (digests p')) (reverse (above (way_kept w) (digests p'))) o
    both_part d p d' p' o =
        ap (λ (ss : List Side). (climbed (both_joined f) (d, d', o) ss (zip (digests p) (digests p'))).2) turned_by
        ∙ from_both (way_turns w) (digests p) (digests p') (way_kept w) d d' o (many p) (many p')

-- where one of the lists is at its end
pub climbed_done : {S P : Type 0} (step : Side → S → P → S) (d : S) (ss : List Side) (ps : List P) → (ss ≡ []) ⊎ (ps ≡ []) → climbed step d ss ps ≡ d
climbed_done step d ss ps (inl e) = ap (λ (x : List Side). climbed step d x ps) e
climbed_done step d [] ps (inr e) = refl
climbed_done step d (s ∷ ss) ps (inr e) = ap (climbed step d (s ∷ ss)) e

-- where a zip gave nothing more
pub zip_done : {S T A B D : Type 0} (g : A → D) (v : B → Bytes) (first : S → List A) (second : T → List Bytes) (a : S) (b : T)
    → ((u : S) × YieldsFirst first a None u) ⊎ ((u : T) × YieldsFirstBy v second b None u) → (map g (first a) ≡ []) ⊎ (second b ≡ [])
zip_done g v first second a b e = ⊎_elim (λ u. inl (ap (map g) u.1.0)) (λ u. inr u.1.0) e

-- the same of a zip of two
zip_none : {A B : Type 0} (xs : List A) (ys : List B) → (xs ≡ []) ⊎ (ys ≡ []) → zip xs ys ≡ []
zip_none xs ys (inl e) = ap (λ (x : List _). zip x ys) e
zip_none [] ys (inr e) = refl
zip_none (x ∷ xs) ys (inr e) = ap (zip (x ∷ xs)) e

pub both_done : {S T A B D : Type 0} (g : A → D) (v : B → Bytes) (first : S → List A) (second : T → List Bytes) (a : S) (b b' : T)
    → ((u : S) × YieldsFirst first a None u) ⊎ ((u : Zip T T) × zip_steps (YieldsFirstBy v second) (YieldsFirstBy v second) (record { a = b; b = b' }) None u)
    → (map g (first a) ≡ []) ⊎ (zip (second b) (second b') ≡ [])
both_done g v first second a b b' e =
    ⊎_elim (λ u. inl (ap (map g) u.1.0)) (λ u. inr (zip_none (second b) (second b') (⊎_elim (λ z. inl z.1.0) (λ z. inr z.1.0) u.1))) e

-- what was climbed with the ranges xs of a way and digests that are exactly as many
module _ (f : Hashing) (w : Way) (cells k : ℕ) (xs : List Span) (is : Some xs ≡ beside w cells) (many : k ≡ length xs) where
  there : in_way w ≡ true
  there = (all_there f.width cells 0 w xs is).0

  all : xs ≡ way_spans w
  all = (all_there f.width cells 0 w xs is).1

  abbrev given : Bytes → List Bytes
  given p = cut f.width (length (way_spans w)) p

  abbrev Exactly : Bytes → List Bytes → Type 0
  Exactly p ds = Some ds ≡ cond (eqb (length p) (f.width * k)) (Some (cut f.width k p)) None

  pub reads : (p : Bytes) (ds : List Bytes) → Exactly p ds → way_reads f.width w cells (length p) ≡ true
  reads p ds e = (read f.width cells (length p) w xs is (cut f.width k p) ds k many e).1

  digests_are : (p : Bytes) (ds : List Bytes) → Exactly p ds → ds ≡ given p
  digests_are p ds e = (read f.width cells (length p) w xs is (cut f.width k p) ds k many e).0 ∙ ap (λ (j : ℕ). cut f.width j p) (many ∙ ap length all)

  pub new_told : (d p : Bytes) (ds : List Bytes) → Exactly p ds → climbed (joined f) d (map (side_of w) xs) ds
      ≡ climb (node_digest f) (way_turns w) (base (way_kept w) d (given p)) (reverse (above (way_kept w) (given p)))
  new_told d p ds e = ap₂ (λ (x : List Span) (y : List Bytes). climbed (joined f) d (map (side_of w) x) y) all (digests_are p ds e) ∙ new_root f w there d p

  pub old_told : (d p : Bytes) (ds : List Bytes) → Exactly p ds → climbed (joined_old f) d (map (side_of w) xs) ds
      ≡ climb_old (node_digest f) (way_turns w) (base (way_kept w) d (given p)) (reverse (above (way_kept w) (given p)))
  old_told d p ds e = ap₂ (λ (x : List Span) (y : List Bytes). climbed (joined_old f) d (map (side_of w) x) y) all (digests_are p ds e) ∙ old_root f w there d p

  pub part_told : (d p d' p' : Bytes) (ds ds' : List Bytes) (o : Option (Bytes × Bytes)) → Exactly p ds → Exactly p' ds'
      → Some (climbed (both_joined f) (d, d', o) (map (side_of w) xs) (zip ds ds')).2 ≡ way_part f w cells d p d' p' o
  part_told d p d' p' ds ds' o e h =
      (λ i. Some (climbed (both_joined f) (d, d', o) (map (side_of w) (all i)) (zip (digests_are p ds e i) (digests_are p' ds' h i))).2)
      ∙ ap Some (both_part f w there d p d' p' o)
      ∙ sym (ap₂ (λ (s t : Bool). cond s (cond t (Some (ways_part f (way_turns w) (base (way_kept w) d (given p)) (reverse (above (way_kept w) (given p))) (base (way_kept w) d' (given p')) (reverse (above (way_kept w) (given p'))) o)) None) None)
      (reads p ds e) (reads p' ds' h))
