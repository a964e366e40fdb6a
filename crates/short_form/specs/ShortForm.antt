-- The short form (01, "Short form"): a data run with one long-term rate S in place of its own long-term rates, periods and
-- proportions.
use Rattle.std.specs.Prelude.{ℕ, zero, suc, ◌+◌, ◌*◌, ◌-◌, ◌/◌, ◌≤◌, ◌<◌, ◌≡◌, cond, List, [], ◌∷◌, ◌++◌, map, leb, length, take, drop, replicate, ℤ, pos, neg_ℤ, ◌*ℤ◌}
use Rattle.arithmetic.specs.Round.{round_div}
use Rattle.basis.specs.declared.Convergence.{Convergence}
use Rattle.little_endian.specs.Bytes.{i32_bytes}
use Rattle.outcome.specs.Outcome.{Finding, passed, refusal, unless, first_of}
use Rattle.field_check.specs.Field.{between}
use Rattle.layout.specs.Layout.{Form}
use Rattle.layout.specs.Layout.{proportion_bytes, form_of_run, run_length, fields_end, ages, birth_years, rate_limit, age_long_term_rates_at, birth_year_initial_rates_at}
use Rattle.run_check.specs.Run.{run_check}
use Rattle.lent.specs.Lent.{room_check}
use Rattle.basis.specs.Basis.{Basis, basis_of}

-- ---- the check: the run's own, then S beyond its limit (5)
-- the limit of every long-term rate
abbrev pub long_term_limit : ℕ
long_term_limit = rate_limit

unfoldable pub short_form_check : List ℕ → ℤ → Finding
short_form_check run rate =
    first_of (run_check run) (unless (between (neg_ℤ (pos long_term_limit)) (pos long_term_limit) rate) (refusal 5 age_long_term_rates_at 0))

-- before these the lent output's room (11), which is that of the run's own form
abbrev pub short_check : List ℕ → ℤ → List ℕ → Finding
short_check run rate out = first_of (room_check (run_length (form_of_run (length run))) out) (short_form_check run rate)

-- ---- the rates by age
-- the share of S at an age, in thirtieths: 30 less what the age exceeds 90 (02, change 4). A difference of natural numbers is 0 at
-- the least, so that it is never below 0 nor above 30
abbrev pub share_of : ℕ → ℕ
share_of age = 30 - (age - 90)

abbrev pub long_term_of : ℤ → ℕ → ℤ
long_term_of rate age = round_div (rate *ℤ pos (share_of age)) 30

-- ---- the periods T and the proportions P: a house rule
-- the period at an age is 20 through age 60, then 20 less the whole part of (age − 60) / 2 through 90, and 5 above (02, change 8)
abbrev pub age_period_of : ℕ → ℕ
age_period_of age = cond (leb age 60) 20 (cond (leb age 90) (20 - (age - 60) / 2) 5)

-- "Birth years stay at 20"
abbrev pub birth_year_period : ℕ
birth_year_period = 20

-- every P is 50 per cent, in hundredths
abbrev pub every_proportion : ℕ
every_proportion = 5_000

-- ---- the tables, as they stand in a data run
-- n entries of a table, one after another, from that of a first age or place on
unfoldable pub entries_from : (ℕ → List ℕ) → ℕ → ℕ → List ℕ
entries_from entry first zero = []
entries_from entry first (suc n) = entry first ++ entries_from entry (first + 1) n

abbrev pub long_term_rates : ℤ → List ℕ
long_term_rates rate = entries_from (λ age. i32_bytes (long_term_of rate age)) 20 ages

abbrev pub age_periods : List ℕ
age_periods = entries_from (λ age. age_period_of age ∷ []) 20 ages

abbrev pub birth_year_periods : List ℕ
birth_year_periods = replicate birth_years birth_year_period

-- as the form writes them
abbrev pub proportions : Form → ℕ → List ℕ
proportions form n = entries_from (λ place. proportion_bytes form every_proportion) 0 n

-- ---- the data run
-- what stands before the age L, then the age L, T and P
unfoldable pub ages_of : Form → List ℕ → ℤ → List ℕ
ages_of form run rate = take age_long_term_rates_at run ++ long_term_rates rate ++ age_periods ++ proportions form ages

-- the birth-year I, then L, which are 0, T and P, and the form's last zero bytes
unfoldable pub birth_years_of : Form → List ℕ → List ℕ
birth_years_of form run =
    take (4 * birth_years) (drop (birth_year_initial_rates_at form) run)
    ++ replicate (4 * birth_years) 0 ++ birth_year_periods ++ proportions form birth_years ++ replicate (run_length form - fields_end form) 0

-- in the run's own form
unfoldable pub short_form_of : List ℕ → ℤ → List ℕ
short_form_of run rate = let form = form_of_run (length run) in ages_of form run rate ++ birth_years_of form run

-- ---- what it stands for: P is 50 per cent, in hundredths
abbrev pub short_terms : ℤ → ℤ → ℕ → Convergence
short_terms initial long period = record { initial = initial; long = long; period = period; remaining = 5_000 }

-- a basis that differs from another only in long-term rates, T and P
pub record Shortened (b : Basis) (rate : ℤ) (short : Basis) : Type 0 where
  pub foundation : short.foundation ≡ b.foundation
  pub base : short.base ≡ b.base
  pub addition : short.addition ≡ b.addition
  pub discount : short.discount ≡ b.discount
  pub base_rate : (age : ℕ) → 20 ≤ age → age ≤ 150 → short.base_rate age ≡ b.base_rate age
  pub by_age : (age : ℕ) → 20 ≤ age → age ≤ 150 → short.by_age age ≡ short_terms (b.by_age age).initial (long_term_of rate age) (age_period_of age)
  pub by_birth_year : (year : ℕ) → 1842 ≤ year → year ≤ 2110 → short.by_birth_year year ≡ short_terms (b.by_birth_year year).initial (pos 0) 20

-- ---- the theorem: from an accepted data run and S it writes a data run that differs only in long-term rates, T and P
pub record ShortFormStands (run : List ℕ) (rate : ℤ) : Type 0 where
  pub differs : short_form_check run rate ≡ passed → Shortened (basis_of run) rate (basis_of (short_form_of run rate))
  -- which is accepted itself, so that every enquiry answers from it
  pub accepted : short_form_check run rate ≡ passed → run_check (short_form_of run rate) ≡ passed
  -- and of its run's own length, which tells the form (02, change 7)
  pub form : short_form_check run rate ≡ passed → length (short_form_of run rate) ≡ length run

-- ---- the period by age, case by case, and at the ages where the cases meet (02, change 8)
pub record PeriodByAge : Type 0 where
  pub level : (age : ℕ) → age ≤ 60 → age_period_of age ≡ 20
  pub falling : (age : ℕ) → 60 < age → age ≤ 90 → age_period_of age ≡ 20 - (age - 60) / 2
  pub least : (age : ℕ) → 90 < age → age_period_of age ≡ 5
  pub edges : map age_period_of (60 ∷ 61 ∷ 62 ∷ 89 ∷ 90 ∷ 91 ∷ []) ≡ 20 ∷ 20 ∷ 19 ∷ 6 ∷ 5 ∷ 5 ∷ []
