-- The weight of 100P hundredths is 01's weight of P per cent: numerator and denominator are both a hundred times those. Assumes nothing.
use mathlib.Core.Path.{◌≡◌, refl}
use mathlib.Core.Bool.{Bool, true, false, cond}
use Prim.Native.Nat.{ℕ, ◌*◌, ◌-◌, ◌≤◌, ◌<◌}
use native.Mathlib.Omega.{arith}
use lib.Dec.{ltb}
use lib.IntN.{ℤ, pos, ◌*ℤ◌}
use Rattle.arithmetic.specs.Fraction.{◌over◌, whole}
use Rattle.arithmetic.proofs.Difference.{parts, ring, ⊖-eq}
use Rattle.component.specs.Component.{slope_of}
use Rattle.component.specs.PerCent.{printed_slope, printed_weight, WeightInPerCent}
use Rattle.component.proofs.Size.{divisor-proper}
use Rattle.component.proofs.Parts.{weight-proper}

slope-is : (T P n : ℕ) → slope_of T (100 * P) n ≡ pos 100 *ℤ printed_slope T P n
slope-is T P n = simp ring (⊖-eq _ _ _ _ (omega arith))

-- a hundred in the one numerator is that in the other denominator
hundred : (s : ℤ) (k d : ℕ) → pos k *ℤ (pos 100 *ℤ s) *ℤ pos (100 * d) ≡ pos k *ℤ s *ℤ pos (10_000 * d)
hundred s k d = rw (parts s) (simp ring (⊖-eq _ _ _ _ (omega arith)))

printed-proper : (T P n : ℕ) → 1 ≤ T → 0 < (printed_weight T P n).den
printed-proper T P n h = by (ltb n T)
  where
    by : (t : Bool) → 0 < (cond t ((pos ((T - n) * (T - n)) *ℤ printed_slope T P n) over (100 * (T * T * T))) (whole (pos 0))).den
    by true = omega (arith, divisor-proper T h)
    by false = omega arith

pub weight-in-per-cent : WeightInPerCent
weight-in-per-cent = record { proper = weight-proper; printed_proper = printed-proper; same = λ T P n. by T P n (ltb n T) }
  where
    by : (T P n : ℕ) (t : Bool) →
        let k = (T - n) * (T - n) in
        let w = cond t ((pos k *ℤ slope_of T (100 * P) n) over (10_000 * (T * T * T))) (whole (pos 0)) in
        let v = cond t ((pos k *ℤ printed_slope T P n) over (100 * (T * T * T))) (whole (pos 0)) in
        w.num *ℤ pos v.den ≡ v.num *ℤ pos w.den
    by T P n true = rw (slope-is T P n) (hundred (printed_slope T P n) ((T - n) * (T - n)) (T * T * T))
    by T P n false = refl
