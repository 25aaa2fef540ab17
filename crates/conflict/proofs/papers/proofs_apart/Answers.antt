use Rattle.std.proofs.Common.{◌≡◌, ℕ, true, false, not, [], ◌∷◌, length, Option, Ok, sym, ap, ◌∙◌, rules}
use Rattle.std.specs.Str.{bytes_eq}
use Rattle.std.specs.Option.{option_map}
use Rattle.std.specs.Result.{result_map_both}
use Rattle.hash.specs.Hash.{from_zeros}
use Rattle.hash.specs.Collisions.{Bytes, parting}
use Rattle.refusal.specs.declared.Refusal.{Refusal}
use Rattle.tree.specs.Digests.{leaf_message}
use Rattle.paths.specs.Parts.{apart_of, paths_part}
use Rattle.record.specs.Views.{collision_of}
use Rattle.checks.proofs.Roots.{leaf_ok}
use Rattle.conflict.specs.Apart.{inputs_of_both}
use Rattle.conflict.proofs.Paired.{leaves_below, paths_paired, paths_unpaired}
use Rattle.conflict.proofs.papers.proofs_apart.Goals as goal

pub returns-in_err-apart : goal.returns-in_err-apart
returns-in_err-apart g c =
    let b = g.C.Value.Words.bytes in
    let F = from_zeros g.C.Value.Words.width g.C.Compression.f in
    let cells : ℕ = length c.args.spans.now in
    let e : Bytes = c.args.entry.now in
    let d : Bytes = c.args.other_entry.now in
    let p : Bytes = c.args.path.now in
    let q : Bytes = c.args.other_path.now in
    let below : Option (Bytes × Bytes) = parting bytes_eq (leaf_message e ∷ []) (leaf_message d ∷ []) in
    let one : c.leaf.result ≡ Ok c.in_ok-first.first = search rules in
    let two : c.leaf-2.result ≡ Ok c.in_ok-second.second = search rules in
    let x = leaf_ok F 0 e (b c.in_ok-first.first) (ap (result_map_both b (λ (r : Refusal). r)) (sym one) ∙ c.leaf.ensures) in
    let y = leaf_ok F 0 d (b c.in_ok-second.second) (ap (result_map_both b (λ (r : Refusal). r)) (sym two) ∙ c.leaf-2.ensures) in
    ap (option_map (collision_of b)) c.from_residual-in_err-apart.ensures
    ∙ paths_unpaired F c.args.i c.args.n cells e p d q x.0 y.0 (c.in_err-apart.ensures below ∙ (λ i. paths_part F c.args.i c.args.n cells (x.1 i) p (y.1 i) q below))

pub returns-in-Some : goal.returns-in-Some
returns-in-Some g c =
    let b = g.C.Value.Words.bytes in
    let F = from_zeros g.C.Value.Words.width g.C.Compression.f in
    let cells : ℕ = length c.args.spans.now in
    let e : Bytes = c.args.entry.now in
    let d : Bytes = c.args.other_entry.now in
    let p : Bytes = c.args.path.now in
    let q : Bytes = c.args.other_path.now in
    let below : Option (Bytes × Bytes) = parting bytes_eq (leaf_message e ∷ []) (leaf_message d ∷ []) in
    let one : c.leaf.result ≡ Ok c.in_ok-first.first = search rules in
    let two : c.leaf-2.result ≡ Ok c.in_ok-second.second = search rules in
    let x = leaf_ok F 0 e (b c.in_ok-first.first) (ap (result_map_both b (λ (r : Refusal). r)) (sym one) ∙ c.leaf.ensures) in
    let y = leaf_ok F 0 d (b c.in_ok-second.second) (ap (result_map_both b (λ (r : Refusal). r)) (sym two) ∙ c.leaf-2.ensures) in
    c.nodes_apart.ensures ∙ ap (λ (m : Option _). inputs_of_both F (apart_of b below m)) (sym c.in-Some.is)
    ∙ paths_paired F c.args.i c.args.n cells e p d q x.0 y.0 (apart_of b below c.in_ok-apart.field-0)
    (c.in_ok-apart.ensures below ∙ (λ i. paths_part F c.args.i c.args.n cells (x.1 i) p (y.1 i) q below))

pub returns-in-None : goal.returns-in-None
returns-in-None g c =
    let b = g.C.Value.Words.bytes in
    let F = from_zeros g.C.Value.Words.width g.C.Compression.f in
    let cells : ℕ = length c.args.spans.now in
    let e : Bytes = c.args.entry.now in
    let d : Bytes = c.args.other_entry.now in
    let p : Bytes = c.args.path.now in
    let q : Bytes = c.args.other_path.now in
    let below : Option (Bytes × Bytes) = parting bytes_eq (leaf_message e ∷ []) (leaf_message d ∷ []) in
    let one : c.leaf.result ≡ Ok c.in_ok-first.first = search rules in
    let two : c.leaf-2.result ≡ Ok c.in_ok-second.second = search rules in
    let x = leaf_ok F 0 e (b c.in_ok-first.first) (ap (result_map_both b (λ (r : Refusal). r)) (sym one) ∙ c.leaf.ensures) in
    let y = leaf_ok F 0 d (b c.in_ok-second.second) (ap (result_map_both b (λ (r : Refusal). r)) (sym two) ∙ c.leaf-2.ensures) in
    let apart : true ≡ not (bytes_eq e d) = search rules in
    c.leaves_apart.ensures ∙ ap (inputs_of_both F) (leaves_below e d true apart)
    ∙ ap (λ (m : Option _). inputs_of_both F (apart_of b below m)) (sym c.in-None.is)
    ∙ paths_paired F c.args.i c.args.n cells e p d q x.0 y.0 (apart_of b below c.in_ok-apart.field-0)
    (c.in_ok-apart.ensures below ∙ (λ i. paths_part F c.args.i c.args.n cells (x.1 i) p (y.1 i) q below))

pub returns-in-None-2 : goal.returns-in-None-2
returns-in-None-2 g c =
    let b = g.C.Value.Words.bytes in
    let F = from_zeros g.C.Value.Words.width g.C.Compression.f in
    let cells : ℕ = length c.args.spans.now in
    let e : Bytes = c.args.entry.now in
    let d : Bytes = c.args.other_entry.now in
    let p : Bytes = c.args.path.now in
    let q : Bytes = c.args.other_path.now in
    let below : Option (Bytes × Bytes) = parting bytes_eq (leaf_message e ∷ []) (leaf_message d ∷ []) in
    let one : c.leaf.result ≡ Ok c.in_ok-first.first = search rules in
    let two : c.leaf-2.result ≡ Ok c.in_ok-second.second = search rules in
    let x = leaf_ok F 0 e (b c.in_ok-first.first) (ap (result_map_both b (λ (r : Refusal). r)) (sym one) ∙ c.leaf.ensures) in
    let y = leaf_ok F 0 d (b c.in_ok-second.second) (ap (result_map_both b (λ (r : Refusal). r)) (sym two) ∙ c.leaf-2.ensures) in
    let same : false ≡ not (bytes_eq e d) = search rules in
    ap (inputs_of_both F) (leaves_below e d false same)
    ∙ ap (λ (m : Option _). inputs_of_both F (apart_of b below m)) (sym c.in-None-2.is)
    ∙ paths_paired F c.args.i c.args.n cells e p d q x.0 y.0 (apart_of b below c.in_ok-apart.field-0)
    (c.in_ok-apart.ensures below ∙ (λ i. paths_part F c.args.i c.args.n cells (x.1 i) p (y.1 i) q below))
