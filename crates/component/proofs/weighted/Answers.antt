-- No product is beyond 64 bits, so each is the integers' own.
use mathlib.Core.Path.{◌≡◌}
use Prim.Native.Nat.{◌*◌}
use native.Mathlib.Omega.{arith}
use lib.IntN.{pos, ◌*ℤ◌}
use mir.Syntax.{w64}
use mir.Val.{to_z, SFits}
use mir.Facts.{to_z-of_z, to_z_pos}
use Rattle.arithmetic.proofs.Machine.{sfits-abs}
use Rattle.component.proofs.Size.{square, inner-abs, weighted-abs}
use Rattle.component.proofs.weighted.Goals as goal

square-is : (c : goal.Start) → to_z w64 (c.args.left * c.args.left) ≡ pos (c.args.left * c.args.left)
square-is c = to_z_pos w64 (omega (arith, square c.args.left (omega arith)))

inner-fits : (c : goal.Start) → SFits w64 (pos (c.args.left * c.args.left) *ℤ c.args.slope)
inner-fits c = sfits-abs (omega (arith, inner-abs c.args.left c.args.slope (omega arith) (omega arith)))

outer-fits : (c : goal.Start) → SFits w64 (c.args.excess *ℤ (pos (c.args.left * c.args.left) *ℤ c.args.slope))
outer-fits c =
    let a = c.args in
    sfits-abs (omega (arith, weighted-abs a.excess a.left a.slope (omega arith) (omega arith) (omega arith)))

pub overflow_mul-result-3 : goal.overflow_mul-result-3
overflow_mul-result-3 c = simp (to_z-of_z c.ranges.excess, square-is c, to_z-of_z c.ranges.slope, to_z-of_z (inner-fits c)) (outer-fits c)

pub returns : goal.returns
returns c = simp (to_z-of_z c.ranges.excess, square-is c, to_z-of_z c.ranges.slope, to_z-of_z (inner-fits c)) (to_z-of_z (outer-fits c))
