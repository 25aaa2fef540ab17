use Rattle.std.proofs.Common.{ℕ, List, [], ◌∷◌, map, sym, ap, ◌∙◌}
use Rattle.std.proofs.lemmas.List.{map-append}
use Rattle.cipher.specs.Blocks.{block_bytes}
use Rattle.hash.specs.Hash.{Hashing, chain, from_zeros}
use Rattle.hash.proofs.Values.{chain_push}
use Rattle.hash.proofs.digest.after_blocks.Goals as goal

pub loop-block-preserved : goal.loop-block-preserved
loop-block-preserved g c =
    let F : Hashing = from_zeros g.C.Value.Words.width g.C.Compression.f in
    let bs : List (List ℕ) = map block_bytes c.loop-block.yielded in
    let b : List ℕ = block_bytes c.in-Some.block in
    c.compress-h.ensures
    ∙ ap (λ (h : List ℕ). F.out h b) c.loop-block.invariant
    ∙ sym (chain_push F F.start bs b)
    ∙ sym (ap (chain F F.start) (map-append block_bytes c.loop-block.yielded (c.in-Some.block ∷ [])))
