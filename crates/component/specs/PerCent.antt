-- The weight as 01 prints it ("The projection", Weight), with P in per cent, and that it is the weight of 100P hundredths.
use Rattle.std.specs.Prelude.{◌≡◌, ℕ, ◌*◌, ◌-◌, ◌≤◌, ◌<◌, cond, ltb, ℤ, pos, ◌+ℤ◌, ◌-ℤ◌, ◌*ℤ◌}
use Rattle.arithmetic.specs.Fraction.{Fraction, ◌over◌, whole}
use Rattle.basis.specs.declared.Convergence.{Convergence}
use Rattle.component.specs.Component.{weight_of, terms}

-- 100T + (8P − 200)n
abbrev pub printed_slope : ℕ → ℕ → ℕ → ℤ
printed_slope T P n = pos (100 * T) +ℤ (pos (8 * P) -ℤ pos 200) *ℤ pos n

-- (T − n)² × (100T + (8P − 200)n) / (100T³) if n is below T, otherwise 0
abbrev pub printed_weight : ℕ → ℕ → ℕ → Fraction
printed_weight T P n = cond (ltb n T) ((pos ((T - n) * (T - n)) *ℤ printed_slope T P n) over (100 * (T * T * T))) (whole (pos 0))

-- the terms I, L, T and P, with P in per cent
abbrev pub terms_in_per_cent : ℤ → ℤ → ℕ → ℕ → Convergence
terms_in_per_cent I L T P = terms I L T (100 * P)

-- the two are one fraction: each numerator times the other's denominator, and neither denominator is 0
pub record WeightInPerCent : Type 0 where
  pub proper : (T P n : ℕ) → 1 ≤ T → 0 < (weight_of T P n).den
  pub printed_proper : (T P n : ℕ) → 1 ≤ T → 0 < (printed_weight T P n).den
  pub same : (T P n : ℕ) →
      (weight_of T (100 * P) n).num *ℤ pos (printed_weight T P n).den ≡ (printed_weight T P n).num *ℤ pos (weight_of T (100 * P) n).den
