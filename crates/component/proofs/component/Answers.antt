-- Before T the code divides the definition's dividend by its divisor, and both fit; from T on both give L and no remainder.
use mathlib.Core.Path.{◌≡◌, ◌∙◌, ap, sym}
use Prim.Native.Nat.{ℕ, ◌≤◌, ◌<◌}
use native.Mathlib.Omega.{arith}
use lib.IntN.{ℤ, nat_abs, ◌+ℤ◌, ◌-ℤ◌}
use mir.Syntax.{w32, w64}
use mir.Val.{to_z, of_z, SFits}
use mir.Facts.{to_z-of_z}
use Rattle.arithmetic.specs.Round.{floor_div}
use Rattle.arithmetic.specs.Fraction.{◌over◌}
use Rattle.arithmetic.specs.MixedNumbers.{mixed_of}
use Rattle.arithmetic.specs.declared.Mixed.{Mixed}
use Rattle.arithmetic.proofs.Difference.{nat_abs-add}
use Rattle.arithmetic.proofs.Machine.{sfits-abs, back, got}
use Rattle.arithmetic.proofs.Remainders.{mixed}
use Rattle.basis.specs.Basis.{ConvergenceLimits}
use Rattle.component.specs.Component.{slope_of, terms}
use Rattle.component.proofs.Size.{divisor, dividend, quotient-abs}
use Rattle.component.proofs.Parts.{component-before, component-after}
use Rattle.component.proofs.component.Goals as goal

sum_fits : (I L : ℤ) (T P n : ℕ) → ConvergenceLimits (terms I L T P) → n < T → SFits w64 (L +ℤ floor_div (dividend I L T P n) (divisor T))
sum_fits I L T P n h l =
    let q = floor_div (dividend I L T P n) (divisor T) in
    sfits-abs (omega (arith, nat_abs-add L q, quotient-abs I L T P n h (omega arith), h.long))

-- a rate within its limits fits
rate-is : {w : ℤ} → nat_abs w ≤ 200_000_000 → to_z w32 (of_z w32 w) ≡ w
rate-is h = to_z-of_z {w = w32} (sfits-abs (omega arith))

-- the place where the code builds the component before T
abbrev Before_T : Type 0
Before_T = goal.After-struct_told-then-past-span-3-1

-- the definition's dividend there
dividend-at : Before_T → ℤ
dividend-at c = let t = c.args.terms in dividend t.initial t.long t.period t.remaining c.args.years

-- what the calls gave, read back
excess-is : (c : Before_T) → to_z w64 (of_z w64 c.excess.result) ≡ c.args.terms.initial -ℤ c.args.terms.long
excess-is c = got w64 c.excess.type_inv (rw (rate-is {w = c.args.terms.initial} c.requires.initial, rate-is {w = c.args.terms.long} c.requires.long) at c.excess.ensures)

slope-is : (c : Before_T) → to_z w64 (of_z w64 c.slope.result) ≡ slope_of c.args.terms.period c.args.terms.remaining c.args.years
slope-is c = got w64 c.slope.type_inv c.slope.ensures

dividend-is : (c : Before_T) → to_z w64 (of_z w64 c.weighted-dividend.result) ≡ dividend-at c
unfolding dividend-at
dividend-is c = got w64 c.weighted-dividend.type_inv (rw (excess-is c, slope-is c) at c.weighted-dividend.ensures)

share-is : (c : Before_T) → c.divide-share.result ≡ mixed_of (dividend-at c over divisor c.args.terms.period)
share-is c = rw (dividend-is c) at c.divide-share.ensures

-- the whole part before it is built in
long-is : (c : Before_T) → to_z w64 (of_z w64 c.from.result) ≡ c.args.terms.long
long-is c = got w64 c.from.type_inv (c.from.ensures ∙ rate-is c.requires.long)

quotient_is : (c : Before_T) → to_z w64 (of_z w64 c.divide-share.result.whole) ≡ floor_div (dividend-at c) (divisor c.args.terms.period)
quotient_is c = back w64 c.divide-share.result.whole (omega arith) ∙ ap (λ (m : Mixed). m.whole) (share-is c)

fits : (c : Before_T) → SFits w64 (c.args.terms.long +ℤ floor_div (dividend-at c) (divisor c.args.terms.period))
unfolding dividend-at
fits c = let t = c.args.terms in sum_fits t.initial t.long t.period t.remaining c.args.years c.requires c.if-past-span.true

pub overflow_add-result : goal.overflow_add-result
overflow_add-result c = rw (long-is c, quotient_is c) (fits c)

pub returns-then-past-span : goal.returns-then-past-span
unfolding dividend-at
returns-then-past-span c =
    let t = c.args.terms in
    let q = floor_div (dividend-at c) (divisor t.period) in
    let share = c.divide-share.result in
    let whole : to_z w64 (of_z w64 (to_z w64 (of_z w64 c.from.result) +ℤ to_z w64 (of_z w64 share.whole))) ≡ t.long +ℤ q =
    rw (long-is c, quotient_is c) (to_z-of_z (fits c)) in
    ap (λ (z : ℤ). mixed z share.remainder share.divisor) whole
    ∙ ap (λ (m : Mixed). mixed (t.long +ℤ q) m.remainder m.divisor) (share-is c)
    ∙ sym (component-before t.initial t.long t.period t.remaining c.args.years (omega arith))

pub returns-else-past-span : goal.returns-else-past-span
returns-else-past-span c =
    let t = c.args.terms in
    ap (λ (z : ℤ). mixed z 0 1) (got w64 c.from-else-past-span.type_inv (c.from-else-past-span.ensures ∙ rate-is c.requires.long))
    ∙ sym (component-after t.initial t.long t.period t.remaining c.args.years (omega arith))
