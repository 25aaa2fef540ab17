-- What is spelled reads back. Assumes nothing.
use Rattle.std.proofs.Common.{◌≡◌, ℕ, ◌+◌, ◌-◌, ◌*◌, ◌/◌, ◌%◌, ◌≤◌, Bool, true, eqb, leb, List, [], ◌++◌, length, take, drop, Some, Ok, Option, sym, refl, ap, ◌∙◌, ap₂, append-nil, mul-le-mul_right, arith, lit<, length-append}
use native.Mathlib.Nat.{mul-mod_right, mul-div_right}
use Rattle.std.proofs.lemmas.List.{take_at, drop_at, drop-drop}
use Rattle.std.proofs.lemmas.Bool.{eq-eqb, le-leb}
use Rattle.cipher.specs.Bytes.{little, number}
use Rattle.cipher.proofs.Littles.{length_little, number_little}
use Rattle.hash.specs.Hash.{cut}
use Rattle.hash.specs.Collisions.{Bytes}
use Rattle.tree.specs.Spans.{largest, span_of}
use Rattle.tree.specs.Entries.{longest_entry}
use Rattle.tree.proofs.Depth.{path_at_most, link_at_most}
use Rattle.refusal.specs.Refusals.{site, given}
use Rattle.refusal.specs.declared.Refusal.TheVariants.{CutShort, UnknownKind, ImpossibleLength, ImpossibleNumbers, UnwantedKind, BytesAfter}
use Rattle.record.specs.Frames.{Frame, unframed}
use Rattle.tree.specs.Digests.{Digests}
use Rattle.record.specs.Records.{Record, leaf, head, proof, link, entry, collision, flat, frame_for, spelled, digests_of, as_head, as_proof, as_link, as_collision, rows, kinds, numbers_fit, read_at, read_one, WellFormed}
use Rattle.refusal.proofs.Doing.{through, bound, and_true}
use Rattle.record.proofs.Numbers.{head_fits, proof_fits, link_fits_holds}
use Rattle.record.proofs.Bytewise.{length_flat, cut_flat}
use Rattle.record.proofs.Framing.{Short, length_framed, reads_back}

module _ (w : ℕ) where
  -- a frame at a place, as the record that it spells
  pub back_at : (i : ℕ) (bs : Bytes) (p : ℕ) (fr : Frame) (post : Bytes) (t : ℕ → Bool) (g : Bytes → Record) (r : Record) →
      unframed (drop p bs) ≡ Some (fr, post) → kinds w fr.kind ≡ Some (t, g) → t (length fr.payload) ≡ true → g fr.payload ≡ r → numbers_fit r ≡ true →
      read_at w i bs p ≡ Ok (r, p + 4 + length fr.payload)
  back_at i bs p fr post t g r a b c d e =
      bound _ (ap (λ o. given o (CutShort (site i p))) a) ∙ bound _ (ap (λ o. given o (UnknownKind (site i p))) b) ∙ through (ImpossibleLength (site i p)) _ c
      ∙ through (ImpossibleNumbers (site i p)) _ (ap numbers_fit d ∙ e) ∙ ap (λ z. Ok (z, p + 4 + length fr.payload)) d

  -- two numbers and a row of digests
  module _ (a b : ℕ) (ps : List Bytes) (least : 1 ≤ w) (d : Digests w ps) (ha : a ≤ largest) (hb : b ≤ largest) where
    abbrev pay : Bytes
    pay = little 4 a ++ (little 4 b ++ flat ps)

    lone : length (little 4 a) ≡ 4
    lone = length_little 4 a

    ltwo : length (little 4 b) ≡ 4
    ltwo = length_little 4 b

    pub length_pay : length pay ≡ 8 + w * length ps
    length_pay = length-append (little 4 a) (little 4 b ++ flat ps) ∙ (let r = length-append (little 4 b) (flat ps) in omega (arith, lone, ltwo, length_flat w ps d))

    less : length pay - 8 ≡ w * length ps
    less = omega (arith, length_pay)

    count : (length pay - 8) / w ≡ length ps
    count = ap (λ n. n / w) less ∙ mul-div_right (length ps) least

    pub rows_back : (most : ℕ) → length ps ≤ most → rows w most (length pay) ≡ true
    rows_back most l =
        and_true (le-leb 8 (length pay) (omega (arith, length_pay)))
        (and_true (eq-eqb ((length pay - 8) % w) 0 (ap (λ n. n % w) less ∙ mul-mod_right w (length ps))) (le-leb ((length pay - 8) / w) most (omega (arith, count, l))))

    second : drop 4 pay ≡ little 4 b ++ flat ps
    second = drop_at (little 4 a) (little 4 b ++ flat ps) 4 lone

    pub first_back : number (take 4 pay) ≡ a
    first_back = ap number (take_at (little 4 a) (little 4 b ++ flat ps) 4 lone) ∙ number_little 4 a (omega (arith, ha))

    pub second_back : number (take 4 (drop 4 pay)) ≡ b
    second_back = ap (λ (z : Bytes). number (take 4 z)) second ∙ ap number (take_at (little 4 b) (flat ps) 4 ltwo) ∙ number_little 4 b (omega (arith, hb))

    pub digests_back : digests_of w pay ≡ ps
    digests_back = ap₂ (λ n (z : Bytes). cut w n z) count (sym (drop-drop 4 4 pay) ∙ ap (drop 4) second ∙ drop_at (little 4 b) (flat ps) 4 ltwo) ∙ cut_flat w ps d

  module _ (least : 1 ≤ w) (i : ℕ) (bs : Bytes) (p : ℕ) (post : Bytes) where
    pub record_back : (r : Record) → WellFormed w r → unframed (drop p bs) ≡ Some (frame_for r, post) → read_at w i bs p ≡ Ok (r, p + 4 + length (frame_for r).payload)
    record_back (leaf d) wf a = back_at i bs p (frame_for (leaf d)) post (λ n. eqb n w) leaf (leaf d) a refl (eq-eqb (length d) w wf.0) refl wf.1
    record_back (head h) wf a =
        let n = little 4 h.size in
        let l : length n ≡ 4 = length_little 4 h.size in
        let f = head_fits h wf.1 in
        back_at i bs p (frame_for (head h)) post (λ k. eqb k (4 + w)) (as_head w) (head h) a refl
        (eq-eqb (length (n ++ h.root)) (4 + w) (length-append n h.root ∙ omega (arith, l, wf.0)))
        (λ j. head (record { size = (ap number (take_at n h.root 4 l) ∙ number_little 4 h.size (omega (arith, f.1))) j; root = drop_at n h.root 4 l j })) wf.1
    record_back (proof q) wf a =
        let f = proof_fits q wf.1 in
        let ha : q.index ≤ largest = omega (arith, f.0, f.1) in
        let m : length q.path ≤ 20 = omega (arith, f.2, path_at_most q.size q.index f.1) in
        back_at i bs p (frame_for (proof q)) post (rows w 20) (as_proof w) (proof q) a refl (rows_back q.index q.size q.path least wf.0 ha f.1 20 m)
        (λ j. proof (record {
          index = first_back q.index q.size q.path least wf.0 ha f.1 j;
          size = second_back q.index q.size q.path least wf.0 ha f.1 j;
          path = digests_back q.index q.size q.path least wf.0 ha f.1 j;
        })) wf.1
    record_back (link q) wf a =
        let f = link_fits_holds q wf.1 in
        let ha : q.old ≤ largest = omega (arith, f.1, f.2) in
        let m : length q.digests ≤ 21 = omega (arith, f.3, link_at_most span_of q.old q.new f.2) in
        back_at i bs p (frame_for (link q)) post (rows w 21) (as_link w) (link q) a refl (rows_back q.old q.new q.digests least wf.0 ha f.2 21 m)
        (λ j. link (record {
          old = first_back q.old q.new q.digests least wf.0 ha f.2 j;
          new = second_back q.old q.new q.digests least wf.0 ha f.2 j;
          digests = digests_back q.old q.new q.digests least wf.0 ha f.2 j;
        })) wf.1
    record_back (entry e) wf a = back_at i bs p (frame_for (entry e)) post (λ n. leb n longest_entry) entry (entry e) a refl (le-leb (length e) longest_entry wf.0) refl wf.1
    record_back (collision x y) wf a =
        let c₀ = x.0 in
        let c₁ = x.1 in
        let c₂ = y.0 in
        let c₃ = y.1 in
        let all = c₀ ++ (c₁ ++ (c₂ ++ c₃)) in
        let l₀ = wf.0.0 in
        let l₁ = wf.0.1 in
        let l₂ = wf.0.2 in
        let l₃ = wf.0.3 in
        let d₁ : drop w all ≡ c₁ ++ (c₂ ++ c₃) = drop_at c₀ (c₁ ++ (c₂ ++ c₃)) w l₀ in
        let d₂ : drop (w + 16) all ≡ c₂ ++ c₃ = sym (drop-drop 16 w all) ∙ ap (drop 16) d₁ ∙ drop_at c₁ (c₂ ++ c₃) 16 l₁ in
        let sum : w + 16 + w ≡ w + w + 16 = omega arith in
        let d₃ : drop (w + w + 16) all ≡ c₃ = ap (λ n. drop n all) (sym sum) ∙ sym (drop-drop w (w + 16) all) ∙ ap (drop w) d₂ ∙ drop_at c₂ c₃ w l₂ in
        let a₁ = length-append c₀ (c₁ ++ (c₂ ++ c₃)) in
        let a₂ = length-append c₁ (c₂ ++ c₃) in
        let a₃ = length-append c₂ c₃ in
        back_at i bs p (frame_for (collision x y)) post (λ n. eqb n (2 * (w + 16))) (as_collision w) (collision x y) a refl
        (eq-eqb (length all) (2 * (w + 16)) (omega (arith, a₁, a₂, a₃, l₀, l₁, l₂, l₃)))
        (λ j. collision (take_at c₀ (c₁ ++ (c₂ ++ c₃)) w l₀ j, (ap (take 16) d₁ ∙ take_at c₁ (c₂ ++ c₃) 16 l₁) j) ((ap (take w) d₂ ∙ take_at c₂ c₃ w l₂) j, d₃ j)) wf.1

  -- no payload is too long for its length bytes
  short : (most : w ≤ 32) (least : 1 ≤ w) (r : Record) → WellFormed w r → Short (frame_for r)
  short most least (leaf d) wf = (lit< tt, omega (arith, most, wf.0))
  short most least (head h) wf = (lit< tt, omega (arith, length-append (little 4 h.size) h.root, length_little 4 h.size, wf.0, most))
  short most least (proof q) wf =
      let f = proof_fits q wf.1 in (
        lit< tt,
        omega (
          arith,
          length_pay q.index q.size q.path least wf.0 (omega (arith, f.0, f.1)) f.1,
          mul-le-mul_right (length q.path) most,
          f.2,
          path_at_most q.size q.index f.1,
        ),
      )
  short most least (link q) wf =
      let f = link_fits_holds q wf.1 in (
        lit< tt,
        omega (
          arith,
          length_pay q.old q.new q.digests least wf.0 (omega (arith, f.1, f.2)) f.2,
          mul-le-mul_right (length q.digests) most,
          f.3,
          link_at_most span_of q.old q.new f.2,
        ),
      )
  short most least (entry e) wf = (lit< tt, omega (arith, wf.0))
  short most least (collision x y) wf = (
    lit< tt,
    omega
        (arith, most, length-append x.0 (x.1 ++ (y.0 ++ y.1)), length-append x.1 (y.0 ++ y.1), length-append y.0 y.1, wf.0.0, wf.0.1, wf.0.2, wf.0.3),
  )

  -- a record among other bytes reads back as itself
  pub reads : (least : 1 ≤ w) (most : w ≤ 32) (i : ℕ) (pre : Bytes) (r : Record) (post : Bytes) → WellFormed w r →
      read_at w i (pre ++ (spelled r ++ post)) (length pre) ≡ Ok (r, length pre + length (spelled r))
  reads least most i pre r post wf =
      record_back least i (pre ++ (spelled r ++ post)) (length pre) post r wf
      (ap unframed (drop_at pre (spelled r ++ post) (length pre) refl) ∙ reads_back (frame_for r) post (short most least r wf))
      ∙ ap (λ n. Ok (r, n)) (omega (arith, length_framed (frame_for r)))

  -- a single record reads back as itself
  pub reads_one : {X : Type 0} (least : 1 ≤ w) (most : w ≤ 32) (i : ℕ) (wanted : Record → Option X) (r : Record) (x : X) → WellFormed w r → wanted r ≡ Some x →
      read_one w i wanted (spelled r) ≡ Ok x
  reads_one least most i wanted r x wf e =
      bound _ (ap (λ (z : Bytes). read_at w i z 0) (sym (append-nil (spelled r))) ∙ reads least most i [] r [] wf)
      ∙ bound _ (ap (λ o. given o (UnwantedKind (site i 0))) e)
      ∙ through (BytesAfter (site i 0)) _ (eq-eqb (0 + length (spelled r)) (length (spelled r)) (omega arith))
