-- The period by age: the request's three cases (02, change 8), and its size, which the limits of a T admit. Assumes nothing.
use mathlib.Core.Path.{refl}
use Prim.Native.Nat.{ℕ, ◌≤◌, ◌<◌}
use native.Mathlib.Decide.{dec_lt}
use native.Mathlib.Omega.{arith}
use borrow.Author.Tests.{le-leb, lt-leb}
use Rattle.short_form.specs.ShortForm.{age_period_of, PeriodByAge}

pub period-by-age : PeriodByAge
period-by-age =
    record {
      level = λ age h. rw (le-leb age 60 h) refl;
      falling = λ age h k. rw (lt-leb age 60 h, le-leb age 90 k) refl;
      least = λ age h. rw (lt-leb age 60 (omega arith), lt-leb age 90 h) refl;
      edges = refl;
    }

pub age-period-size : (age : ℕ) → (5 ≤ age_period_of age) × (age_period_of age ≤ 20)
age-period-size age = by (dec_lt 60 age) (dec_lt 90 age)
  where
    by : Dec (60 < age) → Dec (90 < age) → (5 ≤ age_period_of age) × (age_period_of age ≤ 20)
    by (no l) k = rw (period-by-age.level age (omega arith)) (omega arith, omega arith)
    by (yes l) (no k) = rw (period-by-age.falling age l (omega arith)) (omega arith, omega arith)
    by (yes l) (yes k) = rw (period-by-age.least age k) (omega arith, omega arith)
