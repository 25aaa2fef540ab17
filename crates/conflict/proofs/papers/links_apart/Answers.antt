use Rattle.std.proofs.Common.{◌≡◌, length, Some, None, sym, ap, ◌∙◌, rules}
use Rattle.std.specs.Option.{option_map}
use Rattle.hash.specs.Hash.{from_zeros}
use Rattle.paths.specs.Parts.{apart_of}
use Rattle.conflict.proofs.Paired.{links_paired}
use Rattle.conflict.proofs.papers.links_apart.Goals as goal

pub returns-in_err-apart : goal.returns-in_err-apart
returns-in_err-apart g c =
    let b = g.C.Value.Words.bytes in
    let F = from_zeros g.C.Value.Words.width g.C.Compression.f in
    let is : c.link_apart.result ≡ Some None = search rules in
    let e = links_paired F c.args.m c.args.n (length c.args.spans.now) (b c.args.old) c.args.link.now (b c.args.other_old) c.args.other_link.now None
    (ap (option_map (apart_of b None)) (sym is) ∙ c.link_apart.ensures) in
    search rules

pub returns : goal.returns
returns g c =
    let b = g.C.Value.Words.bytes in
    let F = from_zeros g.C.Value.Words.width g.C.Compression.f in
    let is : c.link_apart.result ≡ Some (Some c.in_ok-apart.apart) = search rules in
    c.nodes_apart.ensures
    ∙ links_paired F c.args.m c.args.n (length c.args.spans.now) (b c.args.old) c.args.link.now (b c.args.other_old) c.args.other_link.now
    (apart_of b None (Some c.in_ok-apart.apart)) (ap (option_map (apart_of b None)) (sym is) ∙ c.link_apart.ensures)
