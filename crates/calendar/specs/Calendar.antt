-- The Gregorian calendar: which dates there are, and the days since 1 January (02, change 10).
use Rattle.std.specs.Prelude.{ℕ, zero, suc, ◌+◌, ◌-◌, ◌%◌, ◌≤◌, Bool, true, false, cond, not, ◌&&◌, ◌||◌, ◌≡◌, List, [], ◌∷◌, eqb, leb, ltb, get_or}

-- every fourth year is a leap year, but of the centuries only every fourth
abbrev pub is_leap : ℕ → Bool
is_leap year = eqb (year % 4) 0 && (not (eqb (year % 100) 0) || eqb (year % 400) 0)

abbrev pub days_in : ℕ → ℕ
days_in year = cond (is_leap year) 366 365

-- the months of a common year; February has one day more in a leap year
abbrev pub lengths : List ℕ
lengths = 31 ∷ 28 ∷ 31 ∷ 30 ∷ 31 ∷ 30 ∷ 31 ∷ 31 ∷ 30 ∷ 31 ∷ 30 ∷ 31 ∷ []

abbrev pub length_of : Bool → ℕ → ℕ
length_of leap month = get_or lengths (month - 1) 0 + cond (leap && eqb month 2) 1 0

-- the days of the first n months
abbrev pub days_of : Bool → ℕ → ℕ
days_of leap zero = 0
days_of leap (suc n) = days_of leap n + length_of leap (suc n)

-- a month from 1 to 12, and a day from 1 to its length
abbrev pub exists : ℕ → ℕ → ℕ → Bool
exists year month day = leb 1 month && leb month 12 && leb 1 day && leb day (length_of (is_leap year) month)

-- the days of the months before, and those of its own month before it
abbrev pub days_since : ℕ → ℕ → ℕ → ℕ
days_since year month day = days_of (is_leap year) (month - 1) + (day - 1)

-- what the table of days before each month says of one: those of a common year, one less than a leap year's from March on, and at most 334
pub record CommonDays (month days : ℕ) : Type 0 where
  pub common : days ≡ days_of false (month - 1)
  pub leap : days + cond (ltb 2 month) 1 0 ≡ days_of true (month - 1)
  pub small : days ≤ 334
