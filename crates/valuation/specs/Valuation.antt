-- Expectation and annuity, each period and cohort (01, "The projection").
use Rattle.std.specs.Prelude.{ℕ, zero, suc, ◌+◌, ◌-◌, ◌/◌, ℤ, pos, ◌+ℤ◌, ◌*ℤ◌}
use Rattle.arithmetic.specs.Fraction.{◌over◌, whole, ◌/ᶠ◌, round, U}
use Rattle.outcome.specs.Outcome.{Outcome, value, and_then, sum_of}
use Rattle.basis.specs.Basis.{Basis, accumulation_of}
use Rattle.survivorship.specs.declared.Kind.{Kind}
use Rattle.survivorship.specs.Survivorship.{survivors_of}

-- ---- Expectation
-- the survivors after 1, 2, up to n years, added: the curtate expectation
unfoldable pub curtate_of : Basis → Kind → ℕ → ℕ → ℕ → Outcome ℤ
curtate_of b kind age n year = sum_of (λ k. survivors_of b kind age (suc k) year) n

-- start at age + deferment in year + deferment, and add U/2; N = 150 − age − deferment
unfoldable pub expectation_of : Basis → Kind → ℕ → ℕ → ℕ → Outcome ℤ
expectation_of b kind age deferment year =
    and_then (curtate_of b kind (age + deferment) (150 - age - deferment) (year + deferment)) (λ t. value (pos (U / 2) +ℤ t))

-- ---- Annuity, yearly in advance
-- round(discount × U / (U + rate of discount))
abbrev pub discount_next : ℤ → ℕ → ℤ
discount_next v accumulation = round ((v *ℤ pos U) over accumulation)

-- discount is U at first, then the next one each year
unfoldable pub discount_after : Basis → ℕ → ℤ
discount_after b zero = pos U
discount_after b (suc j) = discount_next (discount_after b j) (accumulation_of b)

-- round(discount × survivors / U)
abbrev pub payment : ℤ → ℤ → ℤ
payment v s = round (whole (v *ℤ s) /ᶠ U)

-- the payment after j years; survivorship starts at the undeferred age
unfoldable pub payment_after : Basis → Kind → ℕ → ℕ → ℕ → Outcome ℤ
payment_after b kind age j year = and_then (survivors_of b kind age j year) (λ s. value (payment (discount_after b j) s))

-- added for each j from the deferment to 150 − age
unfoldable pub annuity_of : Basis → Kind → ℕ → ℕ → ℕ → Outcome ℤ
annuity_of b kind age deferment year = sum_of (λ k. payment_after b kind age (deferment + k) year) (suc (150 - age - deferment))
