-- The exact model (01, "Distances from the exact model"): the projection's rules without rounding, in fractions of whole numbers.
use Rattle.std.specs.Prelude.{ℕ, zero, suc, ◌+◌, ◌-◌, ◌/◌, cond, pos}
use Rattle.arithmetic.specs.Fraction.{Fraction, ◌over◌, whole, ◌+ᶠ◌, ◌-ᶠ◌, ◌*ᶠ◌, ◌/ᶠ◌, lesser, sumᶠ, U}
use Rattle.basis.specs.Basis.{Basis, accumulation_of}
use Rattle.improvement.specs.Improvement.{components_of, addition_of, is_actual}
use Rattle.projection.specs.Projection.{years_to}
use Rattle.survivorship.specs.Survivorship.{year_on}
use Rattle.survivorship.specs.declared.Kind.{Kind}

-- the two components' sum, which is not rounded, plus the addition after F
unfoldable pub exact_projected : Basis → ℕ → ℕ → Fraction
exact_projected b age year = components_of b age year +ᶠ whole (addition_of b year)

-- an actual improvement is exact (02, change 2)
unfoldable pub exact_improvement : Basis → ℕ → ℕ → Fraction
exact_improvement b age year = cond (is_actual b year) (whole (b.actual age year)) (exact_projected b age year)

-- U in B; each later year multiplies it by (U − improvement) / U
unfoldable pub exact_factor_after : Basis → ℕ → ℕ → Fraction
exact_factor_after b age zero = whole (pos U)
exact_factor_after b age (suc k) = exact_factor_after b age k *ᶠ (whole (pos U) -ᶠ exact_improvement b age (b.base + 1 + k)) /ᶠ U

-- k is the years from B to the year
unfoldable pub exact_factor : Basis → ℕ → ℕ → Fraction
exact_factor b age year = exact_factor_after b age (years_to b year)

-- the lesser of U and base rate × factor / U
unfoldable pub exact_rate : Basis → ℕ → ℕ → Fraction
exact_rate b age year = lesser (whole (pos U)) (whole (pos (b.base_rate age)) *ᶠ exact_factor b age year /ᶠ U)

-- U at first; each year multiplies them by (U − rate) / U
unfoldable pub exact_survivors : Basis → Kind → ℕ → ℕ → ℕ → Fraction
exact_survivors b kind age zero year = whole (pos U)
exact_survivors b kind age (suc n) year =
    exact_survivors b kind age n year *ᶠ (whole (pos U) -ᶠ exact_rate b (age + n) (year_on kind n year)) /ᶠ U

-- U at first; each year multiplies it by U / (U + rate of discount)
unfoldable pub exact_discount : Basis → ℕ → Fraction
exact_discount b zero = whole (pos U)
exact_discount b (suc j) = exact_discount b j *ᶠ (pos U over accumulation_of b)

-- U/2 plus the survivors after 1 to N years
unfoldable pub exact_expectation : Basis → Kind → ℕ → ℕ → ℕ → Fraction
exact_expectation b kind age deferment year =
    whole (pos (U / 2)) +ᶠ sumᶠ (λ k. exact_survivors b kind (age + deferment) (suc k) (year + deferment)) (150 - age - deferment)

-- discount × survivors / U after j years
unfoldable pub exact_payment : Basis → Kind → ℕ → ℕ → ℕ → Fraction
exact_payment b kind age j year = exact_discount b j *ᶠ exact_survivors b kind age j year /ᶠ U

-- the sum of these over its j, from the deferment to 150 − age
unfoldable pub exact_annuity : Basis → Kind → ℕ → ℕ → ℕ → Fraction
exact_annuity b kind age deferment year = sumᶠ (λ k. exact_payment b kind age (deferment + k) year) (suc (150 - age - deferment))
