-- The leaf records of an image, one by one and after a write. Assumes nothing.
use Rattle.std.proofs.Common.{◌≡◌, ℕ, zero, suc, ◌+◌, ◌<◌, ◌≤◌, cond, ltb, [], ◌∷◌, ◌++◌, map, length, take, drop, Some, None, sym, refl, ap, ◌∙◌, ap₂, append_assoc, mul-le-mul_left, mul-suc, add-one, arith, length-append, length-drop}
use native.Mathlib.Nat.{mul-div-le}
use lib.ListN.{length-map}
use Rattle.std.proofs.lemmas.List.{take_at, drop-take, drop-drop, length-take-le, map_push}
use Rattle.std.proofs.lemmas.Option.{slice_get_past}
use Rattle.std.specs.Option.{option_map}
use Rattle.std.specs.List.{slice_get}
use Rattle.cipher.specs.Bytes.{little, written, stored}
use Rattle.cipher.proofs.Pieces.{stored_there}
use Rattle.hash.specs.Hash.{cut}
use Rattle.hash.specs.Collisions.{Bytes}
use Rattle.hash.proofs.Padded.{length_cut, nth_cut}
use Rattle.tree.specs.Digests.{Digests}
use Rattle.record.specs.Records.{spelled, leaf}
use Rattle.record.proofs.Lengths.{length_leaf}
use Rattle.store.specs.Stores.{items_after, space_of}
use Rattle.store.specs.LeafRecords.{record_size, record_at, places_in, records_in, leaves_in}
use Rattle.store.proofs.Rooms.{room_other, room_place}
use Rattle.store.proofs.Cuts.{nth_map, cut_written}

-- a leaf record ends with its digest
pub leaf_digest_is : (d : Bytes) → drop 4 (spelled (leaf d)) ≡ d
unfolding little
leaf_digest_is d = refl

module _ (w : ℕ) where
  pub next_record : (i : ℕ) → record_at w (suc i) ≡ record_at w i + record_size w
  next_record i = mul-suc (record_size w) i

  -- as many records as there are places for fit in
  pub records_fit : (k : ℕ) (bs : Bytes) → k ≤ places_in w bs → record_at w k ≤ length bs
  records_fit k bs h = omega (arith, mul-div-le (length bs) (record_size w), mul-le-mul_left (record_size w) h)

  pub record_fits : (k : ℕ) (bs : Bytes) → k < places_in w bs → record_at w k + record_size w ≤ length bs
  record_fits k bs h = omega (arith, records_fit (suc k) bs h, next_record k)

  module _ (n : ℕ) (bs : Bytes) where
    pub length_leaves : length (leaves_in w n bs) ≡ n
    length_leaves = length-map (cut (record_size w) n bs) (drop 4) ∙ length_cut (record_size w) n bs

    -- each has w bytes
    wide_cut : (c : ℕ) (xs : Bytes) → record_at w c ≤ length xs → Digests w (map (drop 4) (cut (record_size w) c xs))
    wide_cut zero xs h = tt
    wide_cut (suc c) xs h =
        let m = next_record c in (
          length-drop 4 (take (record_size w) xs) ∙ omega (arith, length-take-le (record_size w) xs (omega arith)),
          wide_cut c (drop (record_size w) xs) (omega (arith, length-drop (record_size w) xs)),
        )

    pub wide_leaves : n ≤ places_in w bs → Digests w (leaves_in w n bs)
    wide_leaves h = wide_cut n bs (records_fit n bs h)

    pub leaf_at : (i : ℕ) → i < n → slice_get (leaves_in w n bs) i ≡ Some (take w (drop (record_at w i + 4) bs))
    leaf_at i h =
        nth_map (drop 4) (cut (record_size w) n bs) i
        ∙ ap (option_map (drop 4)) (nth_cut (record_size w) n bs i h)
        ∙ ap Some (drop-take 4 w (drop (record_at w i) bs) ∙ ap (take w) (drop-drop 4 (record_at w i) bs))

    pub leaf_past : (i : ℕ) → n ≤ i → slice_get (leaves_in w n bs) i ≡ None
    leaf_past i h = slice_get_past (leaves_in w n bs) i (omega (arith, length_leaves))

    -- new: the same bytes with a record written behind the others
    module _ (h : 0 < space_of n (places_in w bs)) (d : Bytes) (l : length d ≡ w)
        (i : ℕ) (j : i ≡ record_at w n) (new : Bytes) (f : new ≡ stored i (spelled (leaf d)) bs) where
      size : length (spelled (leaf d)) ≡ record_size w
      size = length_leaf w d l

      fits : record_at w n + length (spelled (leaf d)) ≤ length bs
      fits = omega (arith, size, record_fits n bs (room_place n (places_in w bs) h))

      behind : new ≡ written (record_at w n) (spelled (leaf d)) bs
      behind = f ∙ ap (λ (m : ℕ). stored m (spelled (leaf d)) bs) j ∙ stored_there (record_at w n) (spelled (leaf d)) bs fits

      pub leaves_after : leaves_in w (n + 1) new ≡ items_after (leaves_in w n bs) (space_of n (places_in w bs)) d
      leaves_after =
          ap₂ (λ (m : ℕ) (x : Bytes). map (drop 4) (cut (record_size w) m x)) (add-one n) behind
          ∙ ap (map (drop 4)) (cut_written (record_size w) n (spelled (leaf d)) bs size (omega (arith, fits)))
          ∙ map_push (drop 4) (cut (record_size w) n bs) (spelled (leaf d))
          ∙ ap (λ (x : Bytes). map (drop 4) (cut (record_size w) n bs) ++ x ∷ []) (leaf_digest_is d)
          ∙ room_other n (places_in w bs) h (leaves_in w n bs ++ d ∷ []) (leaves_in w n bs)

      pub records_after : records_in w (n + 1) new
          ≡ cond (ltb 0 (space_of n (places_in w bs))) (records_in w n bs ++ spelled (leaf d)) (records_in w n bs)
      records_after =
          let front : Bytes = take (record_at w n) bs in
          let rest : Bytes = drop (record_at w n + length (spelled (leaf d))) bs in
          let long : length (front ++ spelled (leaf d)) ≡ record_at w (n + 1) =
          omega (arith, length-append front (spelled (leaf d)), length-take-le (record_at w n) bs (omega (arith, fits)), size, next_record n, ap (record_at w) (add-one n)) in
          ap (take (record_at w (n + 1))) (behind ∙ sym (append_assoc front (spelled (leaf d)) rest))
          ∙ take_at (front ++ spelled (leaf d)) rest (record_at w (n + 1)) long
          ∙ room_other n (places_in w bs) h (records_in w n bs ++ spelled (leaf d)) (records_in w n bs)

      pub bytes_after_are : new ≡ cond (ltb 0 (space_of n (places_in w bs))) (written (record_at w n) (spelled (leaf d)) bs) bs
      bytes_after_are = behind ∙ room_other n (places_in w bs) h (written (record_at w n) (spelled (leaf d)) bs) bs
