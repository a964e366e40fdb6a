-- A component's parts give the component back, and the rounded sum lies far within 64 bits, so that the sum with the addition is the
-- integers' own.
use mathlib.Core.Path.{◌≡◌, ◌∙◌}
use Prim.Native.Nat.{ℕ}
use native.Mathlib.Omega.{arith}
use lib.IntN.{ℤ, ◌+ℤ◌}
use mir.Syntax.{w32, w64}
use mir.Val.{SFits, to_z, of_z}
use mir.Facts.{to_z-of_z}
use borrow.Author.Rules.{rules}
use Rattle.arithmetic.specs.Fraction.{◌+ᶠ◌, round}
use Rattle.arithmetic.specs.declared.Mixed.{Mixed}
use Rattle.arithmetic.proofs.Difference.{nat_abs-add}
use Rattle.arithmetic.proofs.Machine.{got, sfits-abs, abs-fits}
use Rattle.arithmetic.proofs.Remainders.{sum-abs}
use Rattle.basis.specs.Basis.{ConvergenceLimits}
use Rattle.basis.specs.declared.Convergence.{Convergence}
use Rattle.component.specs.Component.{component_of}
use Rattle.component.proofs.Parts.{SmallParts, component-proper, component-small}
use Rattle.improvement.proofs.LongTerm.{sum_of}
use Rattle.improvement.proofs.improvement_from.Goals as goal

-- the two components' rounded sum fits with the addition
all_fit : (p q : Convergence) (n : ℕ) (addition : ℤ) → ConvergenceLimits p → ConvergenceLimits q → SFits w32 addition →
    SFits w64 (round (component_of p n +ᶠ component_of q n) +ℤ addition)
all_fit p q n addition h k f =
    let age = component-small p n h in
    let birth = component-small q n k in
    let sum = sum-abs (component_of p n) (component_of q n) (component-proper p n h.period_low) (component-proper q n k.period_low) in
    sfits-abs (omega (arith, nat_abs-add (round (component_of p n +ᶠ component_of q n)) addition, abs-fits f, sum, age.whole, birth.whole))

-- the parts that a call gave are small
small_of : {m n : Mixed} → m ≡ n → SmallParts n → SmallParts m
small_of e h = rw e h

sum_is : (c : goal.After-from) →
    to_z w64 (of_z w64 c.round_sum-rounded.result) ≡ round (component_of c.args.attained c.args.years +ᶠ component_of c.args.birth c.args.years)
sum_is c =
    let a = c.args in
    got w64 c.round_sum-rounded.type_inv (c.round_sum-rounded.ensures
    ∙ sum_of (component_of a.attained a.years) (component_of a.birth a.years) c.component.ensures c.component-2.ensures
    (component-proper a.attained a.years (omega arith)) (component-proper a.birth a.years (omega arith)))

addition-is : (c : goal.After-from) → to_z w64 (of_z w64 c.from.result) ≡ c.args.addition
addition-is c = got w64 c.from.type_inv (c.from.ensures ∙ to_z-of_z c.ranges.addition)

pub round_sum-rounded-requires : goal.round_sum-rounded-requires
round_sum-rounded-requires c =
    let a = c.args in
    let age = small_of c.component.ensures (component-small a.attained a.years (search rules)) in
    let birth = small_of c.component-2.ensures (component-small a.birth a.years (search rules)) in (
      age.remainder,
      omega (arith, age.divisor),
      omega (arith, age.whole),
      birth.remainder,
      omega (arith, birth.divisor),
      omega (arith, birth.whole),
    )

pub overflow_add-result : goal.overflow_add-result
overflow_add-result c =
    let a = c.args in rw (sum_is c, addition-is c) (all_fit a.attained a.birth a.years a.addition (search rules) (search rules) c.ranges.addition)

pub returns : goal.returns
returns c =
    let a = c.args in
    rw (sum_is c, addition-is c) (to_z-of_z (all_fit a.attained a.birth a.years a.addition (search rules) (search rules) c.ranges.addition))
