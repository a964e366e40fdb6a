-- No rate is before B. Assumes nothing.
use Prim.Native.Nat.{◌≤◌}
use native.Mathlib.Omega.{arith}
use Rattle.basis.specs.Basis.{Basis, rated_from}

pub rated-late : (b : Basis) → b.base ≤ rated_from b
unfolding rated_from
rated-late b = omega arith
