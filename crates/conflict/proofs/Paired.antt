-- The collision behind two paths or two links, from where their ways part. Assumes nothing.
use Rattle.std.proofs.Common.{◌≡◌, ℕ, ◌+◌, Bool, true, false, cond, not, ◌&&◌, leb, List, [], ◌∷◌, reverse, length, Some, None, Option, sym, refl, ap, ◌∙◌, ap₂, arith}
use Rattle.std.proofs.lemmas.List.{length-reverse}
use Rattle.std.specs.Str.{bytes_eq}
use Rattle.hash.specs.Hash.{Hashing, cut}
use Rattle.hash.specs.Collisions.{Bytes, Input, parting}
use Rattle.hash.proofs.Padded.{length_cut}
use Rattle.tree.specs.Digests.{leaf_message, node_message, leaf_digest, node_digest}
use Rattle.tree.specs.Entries.{longest_entry}
use Rattle.tree.specs.Links.{link_turns, kept, base, above}
use Rattle.tree.specs.Messages.{messages, proof_messages, link_messages}
use Rattle.tree.specs.Spans.{span_of, path_spans, link_spans}
use Rattle.tree.specs.Tree.{Turn, low, high, turns, shape_of, climb}
use Rattle.tree.proofs.Lengths.{length_path}
use Rattle.tree.proofs.Linking.{length_link}
use Rattle.paths.specs.Parts.{first_apart, ways_part, paths_part, links_part}
use Rattle.paths.specs.Rebuilds.{path_reads, link_reads}
use Rattle.refusal.proofs.Doing.{some_same, none_some}
use Rattle.conflict.specs.Apart.{inputs_of_both, conflict_of}
use Rattle.conflict.specs.Pairs.{proofs_pair, links_pair}

-- what stands below joins the messages of two ways
ways_parting : (f : Hashing) (ts : List Turn) (d d' : Bytes) (ps ps' ms ms' : List Bytes) → length ps ≡ length ts → length ps' ≡ length ts →
    ways_part f ts d ps d' ps' (parting bytes_eq ms ms') ≡ parting bytes_eq (messages f ts d ps ms) (messages f ts d' ps' ms')
ways_parting f [] d d' ps ps' ms ms' e e' = refl
ways_parting f (t ∷ ts) d d' [] ps' ms ms' e e' = absurd (omega (arith, e))
ways_parting f (t ∷ ts) d d' (p ∷ ps) [] ms ms' e e' = absurd (omega (arith, e'))
ways_parting f (low ∷ ts) d d' (p ∷ ps) (p' ∷ ps') ms ms' e e' =
    ap (first_apart (node_message (climb (node_digest f) ts d ps) p) (node_message (climb (node_digest f) ts d' ps') p')) (ways_parting f ts d d' ps ps' ms ms' (omega (arith, e)) (omega (arith, e')))
ways_parting f (high ∷ ts) d d' (p ∷ ps) (p' ∷ ps') ms ms' e e' =
    ap (first_apart (node_message p (climb (node_digest f) ts d ps)) (node_message p' (climb (node_digest f) ts d' ps'))) (ways_parting f ts d d' ps ps' ms ms' (omega (arith, e)) (omega (arith, e')))

-- two tests before an answer
both_some : (f : Hashing) (s t : Bool) (w a : Option (Bytes × Bytes)) → Some a ≡ cond s (cond t (Some w) None) None → inputs_of_both f a ≡ cond s (cond t (inputs_of_both f w) None) None
both_some f true true w a e = ap (inputs_of_both f) (some_same e)
both_some f true false w a e = absurd (none_some (sym e))
both_some f false t w a e = absurd (none_some (sym e))

both_none : (s t : Bool) (w : Option (Bytes × Bytes)) (x : Option (Input × Input)) → None ≡ cond s (cond t (Some w) None) None → None ≡ cond s (cond t x None) None
both_none true true w x e = absurd (none_some e)
both_none true false w x e = refl
both_none false t w x e = refl

-- what differs below two paths: the messages of the leaves
abbrev pub leaf_pair : Bytes → Bytes → Option (Bytes × Bytes)
leaf_pair e e' = Some (leaf_message e, leaf_message e')

pub leaves_below : (e e' : Bytes) (t : Bool) → t ≡ not (bytes_eq e e') → cond t (leaf_pair e e') None ≡ parting bytes_eq (leaf_message e ∷ []) (leaf_message e' ∷ [])
leaves_below e e' t h = ap (λ (s : Bool). cond s (leaf_pair e e') None) h ∙ go (bytes_eq e e')
  where
    go : (s : Bool) → cond (not s) (leaf_pair e e') None ≡ cond s None (leaf_pair e e')
    go true = refl
    go false = refl

module _ (f : Hashing) (i n cells : ℕ) (e path e' path' : Bytes) (small : leb (length e) longest_entry ≡ true) (small' : leb (length e') longest_entry ≡ true) where
  abbrev digests : Bytes → List Bytes
  digests p = cut f.width (length (path_spans i n)) p

  abbrev below : Option (Bytes × Bytes)
  below = parting bytes_eq (leaf_message e ∷ []) (leaf_message e' ∷ [])

  abbrev reads : Bytes → Bool
  reads p = path_reads f.width i n cells (length p)

  abbrev ts : List Turn
  ts = turns (shape_of n) i

  even : (p : Bytes) → length (reverse (digests p)) ≡ length ts
  even p = length-reverse (digests p) ∙ length_cut f.width (length (path_spans i n)) p ∙ length_path span_of (shape_of n) 0 i

  entries_fit : (x : Option (Input × Input)) → x ≡ cond (leb (length e) longest_entry && leb (length e') longest_entry) x None
  entries_fit x = sym (ap₂ (λ (s t : Bool). cond (s && t) x None) small small')

  pub paths_paired : (a : Option (Bytes × Bytes)) → Some a ≡ paths_part f i n cells (leaf_digest f e) path (leaf_digest f e') path' below → inputs_of_both f a ≡ proofs_pair f i n cells e path e' path'
  paths_paired a h =
      both_some f (reads path) (reads path') (ways_part f ts (leaf_digest f e) (reverse (digests path)) (leaf_digest f e') (reverse (digests path')) below) a h
      ∙ ap (λ (o : Option (Bytes × Bytes)). cond (reads path) (cond (reads path') (inputs_of_both f o) None) None)
      (ways_parting f ts (leaf_digest f e) (leaf_digest f e') (reverse (digests path)) (reverse (digests path')) (leaf_message e ∷ []) (leaf_message e' ∷ []) (even path) (even path'))
      ∙ entries_fit _

  pub paths_unpaired : None ≡ paths_part f i n cells (leaf_digest f e) path (leaf_digest f e') path' below → None ≡ proofs_pair f i n cells e path e' path'
  paths_unpaired h =
      both_none (reads path) (reads path') (ways_part f ts (leaf_digest f e) (reverse (digests path)) (leaf_digest f e') (reverse (digests path')) below)
      (conflict_of f (proof_messages f i n e (digests path)) (proof_messages f i n e' (digests path'))) h
      ∙ entries_fit _

above_long : (t : Bool) (ps : List Bytes) (k : ℕ) → length ps ≡ cond t 0 1 + k → length (above t ps) ≡ k
above_long true ps k e = e ∙ omega arith
above_long false [] k e = absurd (omega (arith, e))
above_long false (p ∷ ps) k e = omega (arith, e)

module _ (f : Hashing) (m n cells : ℕ) (old link old' link' : Bytes) where
  abbrev parts : Bytes → List Bytes
  parts p = cut f.width (length (link_spans m n)) p

  abbrev us : List Turn
  us = link_turns (shape_of n) m

  abbrev besides : Bytes → List Bytes
  besides p = reverse (above (kept us) (parts p))

  abbrev from : Bytes → Bytes → Bytes
  from d p = base (kept us) d (parts p)

  abbrev link_fits : Bytes → Bool
  link_fits p = link_reads f.width m n cells (length p)

  level : (p : Bytes) → length (besides p) ≡ length us
  level p = length-reverse (above (kept us) (parts p)) ∙ above_long (kept us) (parts p) (length us) (length_cut f.width (length (link_spans m n)) p ∙ length_link span_of (shape_of n) 0 m)

  pub links_paired : (a : Option (Bytes × Bytes)) → Some a ≡ links_part f m n cells old link old' link' → inputs_of_both f a ≡ links_pair f m n cells old link old' link'
  links_paired a h =
      both_some f (link_fits link) (link_fits link') (ways_part f us (from old link) (besides link) (from old' link') (besides link') None) a h
      ∙ ap (λ (o : Option (Bytes × Bytes)). cond (link_fits link) (cond (link_fits link') (inputs_of_both f o) None) None)
      (ways_parting f us (from old link) (from old' link') (besides link) (besides link') [] [] (level link) (level link'))

  pub links_unpaired : None ≡ links_part f m n cells old link old' link' → None ≡ links_pair f m n cells old link old' link'
  links_unpaired h =
      both_none (link_fits link) (link_fits link') (ways_part f us (from old link) (besides link) (from old' link') (besides link') None)
      (conflict_of f (link_messages f m n old (parts link)) (link_messages f m n old' (parts link'))) h
