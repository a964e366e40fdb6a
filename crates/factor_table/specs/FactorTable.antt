-- What is worked out once for all records of the grid (02, changes 5 and 9): the states of the sweep from B on, and the discounts. From 2130 on
-- every second year is stored, and of it the ages that have a birth year up to 2110; a year between is one step from the year before it.
use Rattle.std.specs.Prelude.{◌≡◌, List, ℕ, ◌+◌, ◌*◌, ◌-◌, ◌≤◌, ◌<◌, pos, length, get_or}
use Rattle.basis.specs.Basis.{Basis}
use Rattle.history.specs.History.{basis_with, Workable}
use Rattle.sweep.specs.Sweep.{sweep_after}
use Rattle.sweep.specs.Encoding.{decoded}
use Rattle.valuation.specs.Valuation.{discount_after}

-- ---- the years from B to 2129
abbrev pub early_years : Basis → ℕ
early_years b = 2130 - b.base

-- 131 numbers for each of the 138 years from 1992 to 2129, the most that there are
abbrev pub early_length : ℕ
early_length = 18078

-- the first n years from B on, each with the state of the sweep: 131 numbers a year
abbrev pub YearsStored : Basis → List ℕ → ℕ → Type 0
YearsStored b numbers n = (k i : ℕ) → k < n → i < 131 → decoded (20 + i) (get_or numbers (131 * k + i) 0) ≡ sweep_after b k (20 + i)

-- with B after 1992 there are fewer years than have room: 0 in the rest of it
abbrev pub RestIsZero : Basis → List ℕ → Type 0
RestIsZero b numbers = (i : ℕ) → 131 * early_years b ≤ i → i < early_length → get_or numbers i 0 ≡ 0

-- ---- every second year from 2130 to 2260: 66 of them
abbrev pub later_year : ℕ → ℕ
later_year m = 2130 + 2 * m

-- in 2130 all 131 ages have a birth year up to 2110, in 2132 those from 22 on, and so on; in 2260 age 150 alone
abbrev pub later_ages : ℕ → ℕ
later_ages m = 131 - 2 * m

-- 131 numbers, then 129, and so on to 1: before those of a year there are 132m − m², and 4,356 in all
abbrev pub later_at : ℕ → ℕ
later_at m = 132 * m - m * m

-- the first n of these years, behind the early ones
abbrev pub LaterYearsStored : Basis → List ℕ → ℕ → Type 0
LaterYearsStored b numbers n =
    (m i : ℕ) → m < n → i < later_ages m →
    decoded (20 + (2 * m + i)) (get_or numbers (early_length + later_at m + i) 0) ≡ sweep_after b (later_year m - b.base) (20 + (2 * m + i))

-- ---- the discounts of 0 to 130 years, behind the factors
abbrev pub factors_length : ℕ
factors_length = 22434

abbrev pub table_length : ℕ
table_length = 22565

-- what stands there, by the years of discount
abbrev pub stored_discount : List ℕ → ℕ → ℕ
stored_discount numbers j = get_or numbers (factors_length + j) 0

-- the first n discounts
abbrev pub DiscountsStored : Basis → List ℕ → ℕ → Type 0
DiscountsStored b numbers n = (j : ℕ) → j < n → pos (stored_discount numbers j) ≡ discount_after b j

-- ---- all of it; no number is left free
pub record FactorTable (b : Basis) (numbers : List ℕ) : Type 0 where
  pub size : length numbers ≡ table_length
  pub years : YearsStored b numbers (early_years b)
  pub rest : RestIsZero b numbers
  pub later : LaterYearsStored b numbers 66
  pub discounts : DiscountsStored b numbers 131

-- a data run and its history that can be worked with, and what was worked out of them
abbrev pub Tabled : List ℕ → List ℕ → List ℕ → Type 0
Tabled run history numbers = Workable run history × FactorTable (basis_with run history) numbers
