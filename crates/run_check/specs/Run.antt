-- The fields of a data run with their limits, and the first refusal of a run (01, "The basis file"; refusals 1, 4 and 5).
use Rattle.std.specs.Prelude.{ℕ, ◌-◌, cond, List, [], ◌∷◌, ◌++◌, length, eqb, ℤ, pos, neg_ℤ}
use Rattle.arithmetic.specs.Fraction.{U}
use Rattle.outcome.specs.Outcome.{Finding, refused_by, refusal}
use Rattle.layout.specs.declared.Number.TheVariants.{Byte, Half, Word, SignedWord}
use Rattle.layout.specs.Layout.{Form, letter_of, proportion_of, greatest_of, form_of_run, run_length, fields_end, ages, birth_years}
use Rattle.layout.specs.Layout.{foundation_at, base_at, addition_at, discount_at, zeros_at, base_rates_at}
use Rattle.layout.specs.Layout.{age_initial_rates_at, age_long_term_rates_at, age_periods_at, age_proportions_at}
use Rattle.layout.specs.Layout.{birth_year_initial_rates_at, birth_year_long_term_rates_at, birth_year_periods_at, birth_year_proportions_at}
use Rattle.layout.specs.Layout.{earliest_year, last_foundation_year, last_base_year, addition_limit, least_discount, greatest_discount}
use Rattle.layout.specs.Layout.{rate_limit, longest_period}
use Rattle.field_check.specs.declared.Field.{Field}
use Rattle.field_check.specs.Field.{field, fields_check}

-- ---- the letters of the mark and the zero bytes (4)
-- bytes that have one value only
abbrev pub exactly : ℤ → ℕ → ℕ → Field
exactly byte offset count = field 4 Byte byte byte offset count

abbrev pub mark_fields : Form → List Field
mark_fields form =
    exactly (pos 77) 0 1
    ∷ exactly (pos 80) 1 1
    ∷ exactly (pos 66) 2 1
    ∷ exactly (pos (letter_of form)) 3 1
    ∷ []

-- before the base rates, and behind the fields
abbrev pub zero_fields : Form → List Field
zero_fields form =
    exactly (pos 0) zeros_at (base_rates_at - zeros_at)
    ∷ exactly (pos 0) (fields_end form) (run_length form - fields_end form)
    ∷ []

-- ---- the fields by offset (5)
-- F, B, the constant addition and the rate of discount
abbrev pub single_fields : List Field
single_fields =
    field 5 Half (pos earliest_year) (pos last_foundation_year) foundation_at 1
    ∷ field 5 Half (pos earliest_year) (pos last_base_year) base_at 1
    ∷ field 5 SignedWord (neg_ℤ (pos addition_limit)) (pos addition_limit) addition_at 1
    ∷ field 5 SignedWord least_discount greatest_discount discount_at 1
    ∷ []

abbrev pub base_rates : Field
base_rates = field 5 Word (pos 0) (pos U) base_rates_at ages

-- I or L, T, and P, which the file counts as its form does
abbrev pub rates : ℕ → ℕ → Field
rates offset count = field 5 SignedWord (neg_ℤ (pos rate_limit)) (pos rate_limit) offset count

abbrev pub periods : ℕ → ℕ → Field
periods offset count = field 5 Byte (pos 1) (pos longest_period) offset count

abbrev pub proportions : Form → ℕ → ℕ → Field
proportions form offset count = field 5 (proportion_of form) (pos 0) (pos (greatest_of form)) offset count

-- the four tables of the terms of improvement
abbrev pub term_fields : Form → ℕ → ℕ → ℕ → ℕ → ℕ → List Field
term_fields form initial long period remaining count =
    rates initial count ∷ rates long count ∷ periods period count ∷ proportions form remaining count ∷ []

abbrev pub age_fields : Form → List Field
age_fields form = term_fields form age_initial_rates_at age_long_term_rates_at age_periods_at age_proportions_at ages

abbrev pub birth_year_fields : Form → List Field
birth_year_fields form =
    term_fields form
    (birth_year_initial_rates_at form) (birth_year_long_term_rates_at form) (birth_year_periods_at form) (birth_year_proportions_at form) birth_years

unfoldable pub fields_of : Form → List Field
fields_of form = mark_fields form ++ (zero_fields form ++ (single_fields ++ (base_rates ∷ (age_fields form ++ birth_year_fields form))))

-- ---- the length is not that of the form that it tells (1), then the fields
unfoldable pub run_check : List ℕ → Finding
run_check run =
    let form = form_of_run (length run) in
    cond (eqb (length run) (run_length form)) (fields_check run (fields_of form)) (refused_by (refusal 1 0 0))
