use Rattle.std.proofs.Common.{◌≡◌, Bool, true, false, cond, Some, Option, vec_items, string_bytes, refl, ap, ◌∙◌}
use Rattle.std.specs.Option.{option_map}
use Rattle.std.specs.Str.{bytes_eq as same_text}
use Rattle.std.proofs.lemmas.Map.Text.{btree_map_updates_text}
use Rattle.relog.specs.Names.{held}
use Rattle.relog.proofs.kept.Kept.keep.Goals as goal

mapped_cond : {X Y : Type 0} (f : X → Y) (b : Bool) (o p : Option X) → option_map f (cond b o p) ≡ cond b (option_map f o) (option_map f p)
mapped_cond f true o p = refl
mapped_cond f false o p = refl

pub returns : goal.returns
returns c = λ q.
    let old = c.args.self.now.names in
    let new = c.insert.new.self in
    let key = c.in_ok-name.name in
    let value = c.in_ok-bytes.bytes in
    let put = btree_map_updates_text (string_bytes key) old new (Some value) c.in_ok-insert.ensures.updates q in
    let name : string_bytes key ≡ c.args.name.now = c.in_ok-name.ensures.ok in
    let bytes : vec_items value ≡ c.args.bytes.now = c.in_ok-bytes.ensures.items in
    ap (option_map vec_items) put
    ∙ mapped_cond vec_items (same_text (string_bytes key) q) (Some value) _
    ∙ (λ i. cond (same_text (name i) q) (Some (bytes i)) (held old q))
