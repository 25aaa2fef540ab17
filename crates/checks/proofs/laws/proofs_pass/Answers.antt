use Rattle.std.proofs.Common.{ℕ}
use Rattle.hash.specs.Hash.{Hashing, from_zeros}
use Rattle.hash.specs.Widths.{Sized}
use Rattle.hash.proofs.Widths.{sized_from}
use Rattle.checks.proofs.Passing.{proofs_pass}
use Rattle.checks.proofs.laws.proofs_pass.Goals as goal

pub returns : goal.returns
returns g c =
    let w : ℕ = g.C.Value.Words.width in
    let F : Hashing = from_zeros w g.C.Compression.f in
    let sized : Sized F = sized_from w g.C.Compression.f g.met.C.Value.Words.least g.met.C.Value.Words.most g.met.C.Compression.outputs in
    proofs_pass F sized
