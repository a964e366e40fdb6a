-- The list is 131 times U, which is a factor.
use mathlib.Core.Path.{◌∙◌, ap, refl}
use Prim.Native.Nat.{ℕ, ◌+◌}
use native.Mathlib.Omega.{arith}
use lib.ListN.{get_or-replicate}
use Rattle.sweep.specs.Encoding.{decoded}
use Rattle.sweep.proofs.Numbers.{decoded-factor}
use Rattle.sweep.proofs.start.Goals as goal

pub returns : goal.returns
returns c =
    record {
      size = refl;
      each = λ i l. ap (decoded (20 + i)) (get_or-replicate {0} {A = ℕ} 131 i _ 0 l) ∙ decoded-factor (20 + i) _ (omega arith);
    }
