use Rattle.std.proofs.Common.{◌≡◌, ℕ, ◌<◌, ◌≤◌, List, [], map, length, get_or, Some, None, Option, sym, ap, ◌∙◌, arith, Bor, MatchOption}
use Rattle.std.specs.Option.{option_map}
use Rattle.std.specs.List.{slice_get}
use Rattle.std.proofs.lemmas.List.{length-map, get_or-map}
use Rattle.std.proofs.lemmas.Option.{slice_get-get_or, slice_get_past}
use Rattle.hash.specs.Collisions.{Bytes}
use Rattle.roots.proofs.row.RowLeaves.leaf.Goals as goal

-- an element that is lent, copied
lent : {D : Type 0} (bytes : D → Bytes) (xs : List D) (i : ℕ) (r : Option (Bor D)) → MatchOption r (length xs ≤ i) (λ x. (i < length xs) × ((d : D) → x.now ≡ get_or xs i d))
    → option_map bytes (option_map (λ x. x.now) r) ≡ slice_get (map bytes xs) i
lent bytes xs i None h = sym (slice_get_past (map bytes xs) i (omega (arith, h, length-map xs bytes)))
lent bytes xs i (Some x) h =
    ap Some (ap bytes (h.1 x.now) ∙ sym (get_or-map bytes xs i x.now [] h.0))
    ∙ sym (slice_get-get_or (map bytes xs) i [] (omega (arith, h.0, length-map xs bytes)))

pub returns : goal.returns
returns g c =
    ap (option_map g.D.Words.bytes) c.copied.ensures
    ∙ lent g.D.Words.bytes c.args.self.now.digests.now c.args.i c.get.result c.get.ensures.lookup.3
