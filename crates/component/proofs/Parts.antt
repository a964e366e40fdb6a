-- A component by its parts: what they are before and after T, and how large. Assumes nothing.
use mathlib.Core.Path.{◌≡◌, ◌∙◌, refl, ap}
use mathlib.Core.Bool.{Bool, true, false, cond}
use Prim.Native.Nat.{ℕ, ◌+◌, ◌*◌, ◌-◌, ◌≤◌, ◌<◌}
use native.Mathlib.Omega.{arith}
use native.Mathlib.Decide.{dec_lt}
use native.Mathlib.Nat.{one-mul}
use lib.Dec.{ltb}
use lib.IntN.{ℤ, pos, nat_abs, ◌+ℤ◌, ◌-ℤ◌, ◌*ℤ◌, *ℤ-zero, *ℤ-one, one}
use borrow.Author.Tests.{lt-ltb, le-ltb}
use Rattle.arithmetic.specs.Round.{floor_div, remainder_div}
use Rattle.arithmetic.specs.Fraction.{Fraction, ◌over◌, whole, ◌+ᶠ◌, ◌*ᶠ◌}
use Rattle.arithmetic.specs.MixedNumbers.{mixed_of}
use Rattle.arithmetic.specs.declared.Mixed.{Mixed}
use Rattle.arithmetic.proofs.Difference.{nat_abs-add}
use Rattle.arithmetic.proofs.Remainders.{mixed, remainder-small, parts_are, parts_more}
use Rattle.component.specs.Component.{slope_of, weight_of, component_of, terms}
use Rattle.component.proofs.Size.{divisor, divisor-proper, divisor-small, dividend, greatest_quotient, quotient-abs}
use Rattle.basis.specs.Basis.{ConvergenceLimits}
use Rattle.basis.specs.declared.Convergence.{Convergence}

pub weight-proper : (T P n : ℕ) → 1 ≤ T → 0 < (weight_of T P n).den
weight-proper T P n h = by (ltb n T)
  where
    by : (t : Bool) → 0 < (cond t ((pos ((T - n) * (T - n)) *ℤ slope_of T P n) over divisor T) (whole (pos 0))).den
    by true = divisor-proper T h
    by false = omega arith

-- every component is a fraction
pub component-proper : (c : Convergence) (n : ℕ) → 1 ≤ c.period → 0 < (component_of c n).den
unfolding component_of
component-proper c n h = omega (arith, weight-proper c.period c.remaining n h)

-- ---- what they are
-- the fraction with its denominators multiplied out
plain : (L E W : ℤ) (d : ℕ) → whole L +ᶠ whole E *ᶠ (W over d) ≡ (L *ℤ pos d +ℤ E *ℤ W) over d
unfolding one
plain L E W d =
    ap (λ (k : ℕ). (L *ℤ pos k +ℤ E *ℤ W *ℤ pos 1) over (1 * k)) (one-mul d)
    ∙ ap (λ (k : ℕ). (L *ℤ pos d +ℤ E *ℤ W *ℤ pos 1) over k) (one-mul d)
    ∙ ap (λ (z : ℤ). (L *ℤ pos d +ℤ z) over d) (*ℤ-one (E *ℤ W))

component-is : (I L : ℤ) (T P n : ℕ) (w : Fraction) → weight_of T P n ≡ w →
    component_of (terms I L T P) n ≡ (L *ℤ pos w.den +ℤ (I -ℤ L) *ℤ w.num) over w.den
unfolding component_of
component-is I L T P n w e = ap (λ (q : Fraction). whole L +ᶠ whole (I -ℤ L) *ᶠ q) e ∙ plain L (I -ℤ L) w.num w.den

-- before T
pub component-before : (I L : ℤ) (T P n : ℕ) → n < T →
    mixed_of (component_of (terms I L T P) n) ≡ mixed (L +ℤ floor_div (dividend I L T P n) (divisor T)) (remainder_div (dividend I L T P n) (divisor T)) (divisor T)
component-before I L T P n h =
    let W = pos ((T - n) * (T - n)) *ℤ slope_of T P n in
    rw (component-is I L T P n (W over divisor T) (simp (lt-ltb n T h) refl)) (parts_more L ((I -ℤ L) *ℤ W) (divisor T) (divisor-proper T (omega arith)))

-- from T on it is L
pub component-after : (I L : ℤ) (T P n : ℕ) → T ≤ n → mixed_of (component_of (terms I L T P) n) ≡ mixed L 0 1
component-after I L T P n h =
    rw (component-is I L T P n (whole (pos 0)) (simp (le-ltb n T h) refl))
    (parts_are (L *ℤ pos 1 +ℤ (I -ℤ L) *ℤ pos 0) L 0 1 (omega arith) (ap (λ (z : ℤ). L *ℤ pos 1 +ℤ z) (*ℤ-zero (I -ℤ L))))

-- ---- how large they are: far within 64 bits
pub record SmallParts (m : Mixed) : Type 0 where
  pub whole : nat_abs m.whole ≤ greatest_quotient + 200_000_000
  pub remainder : m.remainder < m.divisor
  pub divisor : m.divisor ≤ 1_250_000_000

pub component-small : (c : Convergence) (n : ℕ) → ConvergenceLimits c → SmallParts (mixed_of (component_of c n))
component-small c n h = by (dec_lt n c.period)
  where
    by : Dec (n < c.period) → SmallParts (mixed_of (component_of c n))
    by (yes l) =
        let a = dividend c.initial c.long c.period c.remaining n in
        let q = floor_div a (divisor c.period) in
        let small = quotient-abs c.initial c.long c.period c.remaining n h (omega arith) in
        rw (component-before c.initial c.long c.period c.remaining n l)
        record {
          whole = omega (arith, nat_abs-add c.long q, h.long, small);
          remainder = remainder-small a (divisor c.period) (divisor-proper c.period h.period_low);
          divisor = divisor-small c.period h.period_high;
        }
    by (no l) =
        rw (component-after c.initial c.long c.period c.remaining n (omega arith))
        record {
          whole = omega (arith, h.long);
          remainder = omega arith;
          divisor = omega arith;
        }
