-- Two ways up to one root: the topmost messages that differ have one digest. Assumes nothing.
use Rattle.std.proofs.Common.{◌≡◌, ℕ, ◌^◌, ◌<◌, false, ◌≢◌, List, [], ◌∷◌, length, sym, ◌∙◌, arith, length-append, MatchOption}
use mathlib.Core.List.{reverse_aux, tail-eq_of_cons-eq}
use Rattle.std.proofs.lemmas.List.{nil_from_length}
use Rattle.std.proofs.lemmas.Slice.Eq.{bytes_eq-Decides}
use Rattle.std.proofs.lemmas.Bool.{both_ways}
use Rattle.std.specs.Str.{bytes_eq}
use Rattle.cipher.proofs.Pieces.{fronts, backs}
use Rattle.hash.specs.Hash.{Hashing, hash_of}
use Rattle.hash.specs.Collisions.{Bytes, parting}
use Rattle.hash.specs.Widths.{Sized}
use Rattle.hash.proofs.Chains.{at_heads, cases_none}
use Rattle.hash.proofs.Widths.{length_hash}
use Rattle.tree.specs.Tree.{Turn, low, high, climb}
use Rattle.tree.specs.Digests.{Digests, node_digest, node_message}
use Rattle.tree.specs.Messages.{messages}

-- two messages that differ and have one digest
abbrev pub Twins : Hashing → Bytes × Bytes → Type 0
Twins f p = (p.0 ≢ p.1) × (hash_of f p.0 ≡ hash_of f p.1) × (length p.0 < 2 ^ 64) × (length p.1 < 2 ^ 64)

pub digests_back : (w : ℕ) (ps acc : List Bytes) → Digests w ps → Digests w acc → Digests w (reverse_aux ps acc)
digests_back w [] acc d a = a
digests_back w (p ∷ ps) acc d a = digests_back w ps (p ∷ acc) d.1 (d.0, a)

pub bytes_apart : (x y : Bytes) → bytes_eq x y ≡ false → x ≢ y
bytes_apart x y t e = both_ways (bytes_eq x y) t ((bytes_eq-Decides x y).1 e)

module _ (f : Hashing) (s : Sized f) where
  length_climb : (ts : List Turn) (d : Bytes) (ps : List Bytes) → length d ≡ f.width → length (climb (node_digest f) ts d ps) ≡ f.width
  length_climb [] d ps l = l
  length_climb (t ∷ ts) d [] l = l
  length_climb (low ∷ ts) d (p ∷ ps) l = length_hash f s (node_message (climb (node_digest f) ts d ps) p)
  length_climb (high ∷ ts) d (p ∷ ps) l = length_hash f s (node_message p (climb (node_digest f) ts d ps))

  short : (x y : Bytes) → length x ≡ f.width → length y ≡ f.width → length (node_message x y) < 2 ^ 64
  short x y h k = omega (arith, length-append x y, s.most)

  -- N is what is known where the digests d and d', at the end of the ways, are equal and what stands below does not part
  module _ (d d' : Bytes) (long : length d ≡ f.width) (long' : length d' ≡ f.width) (below below' : List Bytes) (N : Type 0) (end : d ≡ d' → MatchOption (parting bytes_eq below below') N (Twins f)) where
    abbrev up : List Turn → List Bytes → Bytes
    up ts ps = climb (node_digest f) ts d ps

    abbrev up' : List Turn → List Bytes → Bytes
    up' ts ps = climb (node_digest f) ts d' ps

    pub ways_apart : (ts : List Turn) (ps ps' : List Bytes) → length ps ≡ length ts → length ps' ≡ length ts → Digests f.width ps → Digests f.width ps' →
        up ts ps ≡ up' ts ps' → MatchOption (parting bytes_eq (messages f ts d ps below) (messages f ts d' ps' below')) (N × (ps ≡ ps')) (Twins f)
    ways_apart [] ps ps' l l' a a' q =
        cases_none (parting bytes_eq below below') N (N × (ps ≡ ps')) (Twins f) (λ n. (n, nil_from_length ps l ∙ sym (nil_from_length ps' l'))) (end q)
    ways_apart (t ∷ ts) [] ps' l l' a a' q = absurd (omega (arith, l))
    ways_apart (t ∷ ts) (p ∷ ps) [] l l' a a' q = absurd (omega (arith, l'))
    ways_apart (low ∷ ts) (p ∷ ps) (p' ∷ ps') l l' a a' q =
        let m = node_message (up ts ps) p in
        let m' = node_message (up' ts ps') p' in
        let k = length_climb ts d ps long in
        let k' = length_climb ts d' ps' long' in
        at_heads bytes_eq (N × ((p ∷ ps) ≡ (p' ∷ ps'))) (Twins f) m m' (messages f ts d ps below) (messages f ts d' ps' below')
        (λ t.
        let e = tail-eq_of_cons-eq ((bytes_eq-Decides m m').0 t) in
        let first = fronts f.width (up ts ps) p (up' ts ps') p' k k' e in
        let second = backs f.width (up ts ps) p (up' ts ps') p' k k' e in
        cases_none (parting bytes_eq (messages f ts d ps below) (messages f ts d' ps' below')) (N × (ps ≡ ps')) (N × ((p ∷ ps) ≡ (p' ∷ ps'))) (Twins f)
        (λ h. (h.0, λ i. second i ∷ h.1 i)) (ways_apart ts ps ps' (omega (arith, l)) (omega (arith, l')) a.1 a'.1 first))
        (λ t. (bytes_apart m m' t, q, short _ _ k a.0, short _ _ k' a'.0))
    ways_apart (high ∷ ts) (p ∷ ps) (p' ∷ ps') l l' a a' q =
        let m = node_message p (up ts ps) in
        let m' = node_message p' (up' ts ps') in
        let k = length_climb ts d ps long in
        let k' = length_climb ts d' ps' long' in
        at_heads bytes_eq (N × ((p ∷ ps) ≡ (p' ∷ ps'))) (Twins f) m m' (messages f ts d ps below) (messages f ts d' ps' below')
        (λ t.
        let e = tail-eq_of_cons-eq ((bytes_eq-Decides m m').0 t) in
        let first = fronts f.width p (up ts ps) p' (up' ts ps') a.0 a'.0 e in
        let second = backs f.width p (up ts ps) p' (up' ts ps') a.0 a'.0 e in
        cases_none (parting bytes_eq (messages f ts d ps below) (messages f ts d' ps' below')) (N × (ps ≡ ps')) (N × ((p ∷ ps) ≡ (p' ∷ ps'))) (Twins f)
        (λ h. (h.0, λ i. first i ∷ h.1 i)) (ways_apart ts ps ps' (omega (arith, l)) (omega (arith, l')) a.1 a'.1 second))
        (λ t. (bytes_apart m m' t, q, short _ _ a.0 k, short _ _ a'.0 k'))
