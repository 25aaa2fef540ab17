use mathlib.Core.Path.{refl}
use native.Mathlib.Omega.{arith}
use Rattle.cipher.specs.Bytes.{little}
use Rattle.aes.specs.Field.{xtimes, times_low, times, inverse_below, inverse, bit, affine_bit, affine_low, affine, S}
use Rattle.specimens.proofs.specimens_hold.Goals as goal

pub returns : goal.returns
unfolding little xtimes times_low times inverse_below inverse bit affine_bit affine_low affine S
returns c = record {
  pads = (refl, refl, refl, refl, refl);
  fewest = λ n. (omega arith, λ z h. omega arith);
  substitutes = (refl, refl);
  nothing = refl;
  root = refl;
  path = refl;
  link = refl;
}
