-- An enquiry's own checks (01, "Who can cause a refusal"), in the order 6, 8, 7.
use Rattle.std.specs.Prelude.{ℕ, ◌+◌, Bool, ◌&&◌, leb}
use Rattle.outcome.specs.Outcome.{Finding, refusal, unless, first_of}

abbrev pub in_range : ℕ → ℕ → ℕ → Bool
in_range low high n = leb low n && leb n high

-- 6: age outside 20 to 150
unfoldable pub age_check : ℕ → Finding
age_check age = unless (in_range 20 150 age) (refusal 6 age 0)

-- 8: age + deferment above 150
unfoldable pub deferment_check : ℕ → ℕ → Finding
deferment_check age deferment = unless (leb (age + deferment) 150) (refusal 8 age deferment)

-- 7: the enquiry's year after 2130, or before the first that it may name
unfoldable pub year_check : ℕ → ℕ → Finding
year_check first year = unless (in_range first 2130 year) (refusal 7 year 0)

-- an enquiry for an improvement, factor or rate has no deferment
abbrev pub cell_check : ℕ → ℕ → ℕ → Finding
cell_check first age year = first_of (age_check age) (year_check first year)

-- one for survivorship, an expectation or an annuity may name years from the first that has a rate on; year + deferment may be after 2130
unfoldable pub question_check : ℕ → ℕ → ℕ → ℕ → Finding
question_check first age deferment year = first_of (age_check age) (first_of (deferment_check age deferment) (year_check first year))
