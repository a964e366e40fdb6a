-- Weight and component (01, "The projection"; 02, change 3): fractions, of which the exact model takes the same. P is in hundredths of
-- a per cent (02, change 7); that the weight of whole per cents is the one that 01 prints is in PerCent.antt.
use Rattle.std.specs.Prelude.{ℕ, ◌*◌, ◌-◌, cond, ltb, ℤ, pos, ◌+ℤ◌, ◌-ℤ◌, ◌*ℤ◌}
use Rattle.arithmetic.specs.Fraction.{Fraction, ◌over◌, whole, ◌+ᶠ◌, ◌*ᶠ◌}
use Rattle.basis.specs.declared.Convergence.{Convergence}

-- 10,000T + (8P − 20,000)n
abbrev pub slope_of : ℕ → ℕ → ℕ → ℤ
slope_of T P n = pos (10_000 * T) +ℤ (pos (8 * P) -ℤ pos 20_000) *ℤ pos n

-- Weight, n years since F: (T − n)² × (10,000T + (8P − 20,000)n) / (10,000T³) if n is below T, otherwise 0
abbrev pub weight_of : ℕ → ℕ → ℕ → Fraction
weight_of T P n = cond (ltb n T) ((pos ((T - n) * (T - n)) *ℤ slope_of T P n) over (10_000 * (T * T * T))) (whole (pos 0))

-- Component: L + (I − L) × weight, not rounded; its divisor is that of the weight, 10,000T³ before T and 1 from T on
unfoldable pub component_of : Convergence → ℕ → Fraction
component_of c n = whole c.long +ᶠ whole (c.initial -ℤ c.long) *ᶠ weight_of c.period c.remaining n

-- the terms I, L, T and P
abbrev pub terms : ℤ → ℤ → ℕ → ℕ → Convergence
terms I L T P = record { initial = I; long = L; period = T; remaining = P }
