-- The tests of a record's numbers, by how many digests its numbers fix. Assumes nothing.
use Rattle.std.proofs.Common.{◌≡◌, ℕ, ◌/◌, Bool, true, false, cond, ◌&&◌, eqb, ltb, leb, length, Some, None, Option, sym, refl, ap, ◌∙◌, arith}
use Rattle.std.specs.Option.{option_eq}
use Rattle.std.proofs.lemmas.Bool.Decides.{nat_tests}
use Rattle.hash.specs.Collisions.{Bytes}
use Rattle.hash.proofs.Padded.{length_cut}
use Rattle.tree.specs.Tree.{shape_of, turns}
use Rattle.tree.specs.Spans.{largest, span_of, path_spans, link_spans, path_count, link_count}
use Rattle.tree.proofs.Lengths.{length_path}
use Rattle.record.specs.Records.{proof, link, numbers_fit}
use Rattle.record.specs.Views.{digests_in}

turned : (k m : ℕ) → eqb k m ≡ eqb m k
turned k m = grind (arith, nat_tests)

-- whether the count is there, and is m
abbrev counted : Option ℕ → ℕ → Bool
counted None m = false
counted (Some k) m = eqb m k

by_count : (o : Option ℕ) (m : ℕ) (t : Bool) → t ≡ option_eq eqb o (Some m) → t ≡ counted o m
by_count None m t h = h
by_count (Some k) m t h = h ∙ turned k m

two_tests : (a b : Bool) (k k' m : ℕ) → k ≡ k' →
    counted (cond (cond a b false) (Some k) None) m ≡ elim (a && b) as (λ _. Bool) [ false ↦ false | true ↦ eqb m k' ]
two_tests true true k k' m e = ap (eqb m) e
two_tests true false k k' m e = refl
two_tests false b k k' m e = refl

three_tests : (z a b d : Bool) (k m : ℕ) → z ≡ a →
    counted (cond (cond z (cond b d false) false) (Some k) None) m ≡ elim (a && (b && d)) as (λ _. Bool) [ false ↦ false | true ↦ eqb m k ]
three_tests z true true true k m e = ap (λ (x : Bool). counted (cond (cond x true false) (Some k) None) m) e
three_tests z true true false k m e = ap (λ (x : Bool). counted (cond (cond x false false) (Some k) None) m) e
three_tests z true false d k m e = ap (λ (x : Bool). counted (cond (cond x false false) (Some k) None) m) e
three_tests z false b d k m e = ap (λ (x : Bool). counted (cond (cond x (cond b d false) false) (Some k) None) m) e

module _ (w : ℕ) (bs : Bytes) (o : Option ℕ) (m : ℕ) (t : Bool) (is : m ≡ length bs / w) (test : t ≡ option_eq eqb o (Some m)) where
  long : m ≡ length (digests_in w bs)
  long = is ∙ sym (length_cut w (length bs / w) bs)

  pub proof_counted : (i n : ℕ) → o ≡ path_count i n → t ≡ numbers_fit (proof (record { index = i; size = n; path = digests_in w bs }))
  proof_counted i n e =
      by_count o m t test ∙ ap (λ (x : Option ℕ). counted x m) e
      ∙ two_tests (ltb i n) (leb n largest) (length (path_spans i n)) (length (turns (shape_of n) i)) m (length_path span_of (shape_of n) 0 i)
      ∙ ap (λ (k : ℕ). elim (ltb i n && leb n largest) as (λ _. Bool) [ false ↦ false | true ↦ eqb k (length (turns (shape_of n) i)) ]) long

  pub link_counted : (a n : ℕ) → o ≡ link_count a n → t ≡ numbers_fit (link (record { old = a; new = n; digests = digests_in w bs }))
  link_counted a n e =
      by_count o m t test ∙ ap (λ (x : Option ℕ). counted x m) e
      ∙ three_tests (ltb 0 a) (leb 1 a) (leb a n) (leb n largest) (length (link_spans a n)) m (grind (arith, nat_tests))
      ∙ ap (λ (k : ℕ). elim (leb 1 a && (leb a n && leb n largest)) as (λ _. Bool) [ false ↦ false | true ↦ eqb k (length (link_spans a n)) ]) long
