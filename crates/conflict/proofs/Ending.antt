-- The end of a conflict call: the inputs that it finds have their widths, and their record passes the check. Assumes nothing.
use Rattle.std.proofs.Common.{◌≡◌, ℕ, ◌/◌, ◌≤◌, Bool, true, false, cond, not, leb, List, [], ◌∷◌, reverse, length, Some, None, Ok, Option, sym, refl, ap, ◌∙◌, subst, inl, inr, arith, MatchOption}
use mathlib.Core.List.{reverse_aux}
use Rattle.std.proofs.lemmas.Slice.Eq.{bytes_eq-Decides}
use Rattle.std.specs.Str.{bytes_eq}
use Rattle.hash.specs.Hash.{Hashing, padded, blocks}
use Rattle.hash.specs.Collisions.{Bytes, Input, Collides, same_input, parting, inputs, inputs_apart}
use Rattle.hash.specs.Widths.{Sized}
use Rattle.hash.proofs.Chains.{same_input_true}
use Rattle.hash.proofs.Padded.{length_padded}
use Rattle.tree.specs.Digests.{Digests}
use Rattle.refusal.specs.Refusals.{must, ◌>>◌}
use Rattle.refusal.specs.declared.Refusal.{Refusal}
use Rattle.refusal.specs.declared.Refusal.TheVariants.{NoCollision, OutputShort}
use Rattle.refusal.proofs.Doing.{not_both, ok_same, some_same, none_some, must_ok, bound, passed, and_true}
use Rattle.record.specs.Records.{collision, spelled, collision_in, Parts}
use Rattle.record.proofs.Bytewise.{digests_cut}
use Rattle.record.proofs.Lengths.{length_collision}
use Rattle.record.proofs.Spelling.{reads_one}
use Rattle.release_log.proofs.Fitting.{fitting_ok}
use Rattle.checks.specs.Checks.{collide, check_collision_answer}
use Rattle.conflict.specs.Apart.{conflict_of}
use Rattle.conflict.specs.Conflicts.{pair_for}
use Rattle.conflict.specs.Laws.{collision_size, Exactly}
use Rattle.conflict.proofs.Accepted.{Pair}

blocks_wide : (m : Bytes) → Digests 16 (blocks m)
blocks_wide m = digests_cut 16 (length (padded m) / 16) (padded m) (omega (arith, length_padded m))

collides_so : (c : Hashing) (x y : Input) → Collides c x y → collide c x y ≡ true
collides_so c x y h = and_true (go (same_input x y) refl) ((bytes_eq-Decides (c.out x.0 x.1) (c.out y.0 y.1)).1 h.1)
  where
    go : (t : Bool) → same_input x y ≡ t → not t ≡ true
    go true e = absurd (h.0 (same_input_true x y e))
    go false e = refl

module _ (c : Hashing) where
  -- an input of the compression
  abbrev Wide : Input → Type 0
  Wide x = (length x.0 ≡ c.width) × (length x.1 ≡ 16)

  abbrev AllWide : List Input → Type 0
  AllWide [] = Unit {0}
  AllWide (x ∷ xs) = Wide x × AllWide xs

  -- two inputs that were found have their widths
  abbrev pub BothWide : Option (Input × Input) → Type 0
  BothWide o = (q : Input × Input) → o ≡ Some q → Parts c.width (collision q.0 q.1)

  wide_back : (xs acc : List Input) → AllWide xs → AllWide acc → AllWide (reverse_aux xs acc)
  wide_back [] acc a b = b
  wide_back (x ∷ xs) acc a b = wide_back xs (x ∷ acc) a.1 (a.0, b)

  parting_wide : (xs ys : List Input) → AllWide xs → AllWide ys → BothWide (parting same_input xs ys)
  parting_wide [] ys a b q e = absurd (none_some e)
  parting_wide (x ∷ xs) [] a b q e = absurd (none_some e)
  parting_wide (x ∷ xs) (y ∷ ys) a b q e = go (same_input x y) (parting_wide xs ys a.1 b.1 q) e
    where
      go : (t : Bool) → (parting same_input xs ys ≡ Some q → Parts c.width (collision q.0 q.1)) →
          cond t (parting same_input xs ys) (Some (x, y)) ≡ Some q → Parts c.width (collision q.0 q.1)
      go true f h = f h
      go false f h = subst (λ (z : Input × Input). Parts c.width (collision z.0 z.1)) (some_same h) (a.0.0, a.0.1, b.0.0, b.0.1)

  module _ (sized : Sized c) where
    inputs_wide : (h : Bytes) (bs : List Bytes) → length h ≡ c.width → Digests 16 bs → AllWide (inputs c h bs)
    inputs_wide h [] l d = tt
    inputs_wide h (b ∷ bs) l d = ((l, d.0), inputs_wide (c.out h b) bs (sized.outputs h b l d.0) d.1)

    all_wide : (m : Bytes) → AllWide (reverse (inputs c c.start (blocks m)))
    all_wide m = wide_back (inputs c c.start (blocks m)) [] (inputs_wide c.start (blocks m) sized.starts (blocks_wide m)) tt

    pub apart_wide : (x y : Bytes) → BothWide (inputs_apart c x y)
    apart_wide x y = parting_wide (reverse (inputs c c.start (blocks x))) (reverse (inputs c c.start (blocks y))) (all_wide x) (all_wide y)

    pub conflict_wide : (ms ms' : List Bytes) → BothWide (conflict_of c ms ms')
    conflict_wide ms ms' q = go (parting bytes_eq ms ms')
      where
        go : (o : Option (Bytes × Bytes)) → (elim o as (λ _. Option (Input × Input)) [ None ↦ None | Some p ↦ inputs_apart c p.0 p.1 ]) ≡ Some q →
            Parts c.width (collision q.0 q.1)
        go None e = absurd (none_some e)
        go (Some p) e = apart_wide p.0 p.1 q e

    -- what is written passes the check
    pub pair_passes : (out : ℕ) (equal : Refusal) (N : Type 0) (o : Option (Input × Input)) (r : Bytes) → BothWide o → MatchOption o N (Pair c) → pair_for out equal o ≡ Ok r →
        check_collision_answer c r ≡ Ok tt
    pair_passes out equal N None r wide h e = absurd (not_both e)
    pair_passes out equal N (Some q) r wide h e =
        let m = must_ok (leb (length (spelled (collision q.0 q.1))) out) OutputShort _ r e in
        ap (check_collision_answer c) (sym (ok_same m.1))
        ∙ bound _ (reads_one c.width sized.least sized.most 1 collision_in (collision q.0 q.1) q (wide q refl, refl) refl)
        ∙ passed (NoCollision 1) (collides_so c q.0 q.1 h)

  -- by whether what was given is equal
  pub exactly : (out : ℕ) (equal : Refusal) (Same N : Type 0) (o : Option (Input × Input)) (t : Bool) → collision_size c ≤ out → (t ≡ true → Same) → (t ≡ false → Same → ⊥) →
      (N → Same) → BothWide o → MatchOption o N (Pair c) → Exactly c (must (not t) equal >> pair_for out equal o) equal Same
  exactly out equal Same N o true fits same apart all wide h = inl (same refl, refl)
  exactly out equal Same N None false fits same apart all wide h = absurd (apart refl (all h))
  exactly out equal Same N (Some q) false fits same apart all wide h =
      inr (apart refl, (q.0, q.1, h, fitting_ok out (spelled (collision q.0 q.1)) (omega (arith, length_collision c.width q.0 q.1 (wide q refl), fits))))
