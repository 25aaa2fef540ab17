-- Payloads of the six kinds: their parts have their widths, and spell them. Assumes nothing.
use Rattle.std.proofs.Common.{◌≡◌, ℕ, ◌+◌, ◌-◌, ◌*◌, ◌/◌, ◌%◌, ◌≤◌, Bool, true, false, cond, eqb, leb, ◌++◌, length, take, drop, Some, None, Option, sym, refl, ap, ◌∙◌, subst₂, arith, length-drop, take-append-drop}
use native.Mathlib.Nat.{div-add-mod}
use Rattle.std.proofs.lemmas.List.{drop-drop, length-take-le}
use Rattle.std.proofs.lemmas.Bool.{eqb-true, leb-true}
use Rattle.cipher.specs.Bytes.{little, number}
use Rattle.hash.specs.Collisions.{Bytes}
use Rattle.tree.specs.Entries.{longest_entry}
use Rattle.record.specs.Frames.{frame_of, AllBytes}
use Rattle.record.specs.Records.{Record, leaf, entry, flat, frame_for, digests_of, as_head, as_proof, as_link, as_collision, rows, kinds, Parts}
use Rattle.refusal.proofs.Doing.{some_same, none_some, and_left, and_right}
use Rattle.record.proofs.Bytewise.{four, eight, digests_cut, flat_cut}

module _ (w : ℕ) where
  -- what holds of the six kinds holds of every kind that is known
  kinds_cases : (P : ℕ → (ℕ → Bool) × (Bytes → Record) → Type 0) → P 1 ((λ n. eqb n w), leaf) → P 2 ((λ n. eqb n (4 + w)), as_head w) → P 3 (rows w 20, as_proof w) →
      P 4 (rows w 21, as_link w) → P 5 ((λ n. leb n longest_entry), entry) → P 6 ((λ n. eqb n (2 * (w + 16))), as_collision w) →
      (k : ℕ) (q : (ℕ → Bool) × (Bytes → Record)) → kinds w k ≡ Some q → P k q
  kinds_cases P a b c d e f k q h = go (eqb k 1) (eqb k 2) (eqb k 3) (eqb k 4) (eqb k 5) (eqb k 6) refl refl refl refl refl refl h
    where
      at : (n : ℕ) (x : (ℕ → Bool) × (Bytes → Record)) → P n x → eqb k n ≡ true → ◌≡◌ {A = Option ((ℕ → Bool) × (Bytes → Record))} (Some x) (Some q) → P k q
      at n x p t s = subst₂ P (sym (eqb-true k n t)) (some_same s) p

      go : (t₁ t₂ t₃ t₄ t₅ t₆ : Bool) → eqb k 1 ≡ t₁ → eqb k 2 ≡ t₂ → eqb k 3 ≡ t₃ → eqb k 4 ≡ t₄ → eqb k 5 ≡ t₅ → eqb k 6 ≡ t₆ →
          ◌≡◌ {A = Option ((ℕ → Bool) × (Bytes → Record))} (cond t₁ (Some ((λ n. eqb n w), leaf))
          (cond t₂ (Some ((λ n. eqb n (4 + w)), as_head w))
          (cond t₃ (Some (rows w 20, as_proof w))
          (cond t₄ (Some (rows w 21, as_link w))
          (cond t₅ (Some ((λ n. leb n longest_entry), entry))
          (cond t₆ (Some ((λ n. eqb n (2 * (w + 16))), as_collision w)) None)))))) (Some q) → P k q
      go true t₂ t₃ t₄ t₅ t₆ e₁ e₂ e₃ e₄ e₅ e₆ s = at 1 _ a e₁ s
      go false true t₃ t₄ t₅ t₆ e₁ e₂ e₃ e₄ e₅ e₆ s = at 2 _ b e₂ s
      go false false true t₄ t₅ t₆ e₁ e₂ e₃ e₄ e₅ e₆ s = at 3 _ c e₃ s
      go false false false true t₅ t₆ e₁ e₂ e₃ e₄ e₅ e₆ s = at 4 _ d e₄ s
      go false false false false true t₆ e₁ e₂ e₃ e₄ e₅ e₆ s = at 5 _ e e₅ s
      go false false false false false true e₁ e₂ e₃ e₄ e₅ e₆ s = at 6 _ f e₆ s
      go false false false false false false e₁ e₂ e₃ e₄ e₅ e₆ s = absurd (none_some s)

  -- a payload of a possible length has parts of their widths, and they spell it
  abbrev pub Sensible : ℕ → (ℕ → Bool) × (Bytes → Record) → Type 0
  Sensible k q = (pay : Bytes) → q.0 (length pay) ≡ true → Parts w (q.1 pay) × (AllBytes pay → frame_for (q.1 pay) ≡ frame_of k pay)

  pub rows_whole : (most : ℕ) (pay : Bytes) → rows w most (length pay) ≡ true → (8 ≤ length pay) × (length (drop 8 pay) ≡ w * ((length pay - 8) / w))
  rows_whole most pay t =
      let n = length pay in
      let a = leb-true 8 n (and_left (leb 8 n) _ t) in
      let b = eqb-true ((n - 8) % w) 0 (and_left (eqb ((n - 8) % w) 0) _ (and_right (leb 8 n) _ t)) in
      (a, length-drop 8 pay ∙ sym (div-add-mod (n - 8) w) ∙ (ap (λ r. w * ((n - 8) / w) + r) b ∙ omega arith))

  rows_spell : (pay : Bytes) → 8 ≤ length pay → length (drop 8 pay) ≡ w * ((length pay - 8) / w) → AllBytes pay →
      little 4 (number (take 4 pay)) ++ (little 4 (number (take 4 (drop 4 pay))) ++ flat (digests_of w pay)) ≡ pay
  rows_spell pay a b all =
      ap (λ (z : Bytes). little 4 (number (take 4 pay)) ++ (little 4 (number (take 4 (drop 4 pay))) ++ z)) (flat_cut w ((length pay - 8) / w) (drop 8 pay) b) ∙ eight pay a all

  sensible_leaf : Sensible 1 ((λ n. eqb n w), leaf)
  sensible_leaf pay t = (eqb-true (length pay) w t, λ all. refl)

  sensible_head : Sensible 2 ((λ n. eqb n (4 + w)), as_head w)
  sensible_head pay t =
      let e : length pay ≡ 4 + w = eqb-true (length pay) (4 + w) t in
      (length-drop 4 pay ∙ omega (arith, e), λ all. ap (frame_of 2) (four pay (omega (arith, e)) all))

  sensible_proof : Sensible 3 (rows w 20, as_proof w)
  sensible_proof pay t =
      let e = rows_whole 20 pay t in
      (digests_cut w ((length pay - 8) / w) (drop 8 pay) e.1, λ all. ap (frame_of 3) (rows_spell pay e.0 e.1 all))

  sensible_link : Sensible 4 (rows w 21, as_link w)
  sensible_link pay t =
      let e = rows_whole 21 pay t in
      (digests_cut w ((length pay - 8) / w) (drop 8 pay) e.1, λ all. ap (frame_of 4) (rows_spell pay e.0 e.1 all))

  sensible_entry : Sensible 5 ((λ n. leb n longest_entry), entry)
  sensible_entry pay t = (leb-true (length pay) longest_entry t, λ all. refl)

  sensible_collision : Sensible 6 ((λ n. eqb n (2 * (w + 16))), as_collision w)
  sensible_collision pay t =
      let e : length pay ≡ 2 * (w + 16) = eqb-true (length pay) (2 * (w + 16)) t in
      let d₁ = length-drop w pay in
      let d₂ = length-drop (w + 16) pay in
      let d₃ = length-drop (w + w + 16) pay in (
        (length-take-le w pay (omega (arith, e)), length-take-le 16 (drop w pay) (omega (arith, e, d₁)), length-take-le w (drop (w + 16) pay) (omega (arith, e, d₂)), d₃ ∙ omega (arith, e)),
        λ all. ap (frame_of 6)
            (ap (λ (z : Bytes). take w pay ++ (take 16 (drop w pay) ++ z))
            (ap (λ (z : Bytes). take w (drop (w + 16) pay) ++ z) (ap (λ n. drop n pay) (omega arith) ∙ sym (drop-drop w (w + 16) pay)) ∙ take-append-drop w (drop (w + 16) pay))
            ∙ ap (λ (z : Bytes). take w pay ++ (take 16 (drop w pay) ++ z)) (sym (drop-drop 16 w pay))
            ∙ ap (λ (z : Bytes). take w pay ++ z) (take-append-drop 16 (drop w pay))
            ∙ take-append-drop w pay),
      )

  pub sensible : (k : ℕ) (q : (ℕ → Bool) × (Bytes → Record)) → kinds w k ≡ Some q → Sensible k q
  sensible = kinds_cases Sensible sensible_leaf sensible_head sensible_proof sensible_link sensible_entry sensible_collision
