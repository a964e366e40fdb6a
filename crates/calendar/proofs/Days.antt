-- The table's rule, computed once over its twelve entries, and the laws of a date. Assumes nothing.
use mathlib.Core.Path.{◌≡◌, refl, ◌∙◌, ap}
use mathlib.Core.Bool.{Bool, true, false, cond, ◌&&◌}
use mathlib.Core.List.{List, [], ◌∷◌}
use Prim.Native.Nat.{ℕ, zero, suc, ◌+◌, ◌-◌, ◌≤◌, ◌<◌}
use native.Mathlib.Nat.{not-suc-le-zero}
use native.Mathlib.Decide.{dec_lt}
use native.Mathlib.Omega.{arith}
use lib.Dec.{T, eqb, leb, ltb, eqb→eq, leb→le}
use lib.ListN.{get_or}
use borrow.Author.Tests.{leb-true}
use Rattle.calendar.specs.Calendar.{is_leap, days_in, length_of, days_of, days_since, CommonDays, exists}

-- ---- a rule of the months: one test of each of them, which antt computes
every : (ℕ → Bool) → ℕ → Bool
every test zero = true
every test (suc n) = test n && every test n

first : (a b : Bool) → T (a && b) → T a
first true b t = tt
first false b t = t

second : (a b : Bool) → T (a && b) → T b
second true b t = t
second false b t = absurd t

each : (test : ℕ → Bool) (n : ℕ) → T (every test n) → (k : ℕ) → k < n → T (test k)
unfolding every
each test zero t k l = absurd (not-suc-le-zero l)
each test (suc n) t k l = by (dec_lt k n) (λ m. each test n (second (test n) (every test n) t) k m)
  where
    by : Dec (k < n) → (k < n → T (test k)) → T (test k)
    by (yes m) h = h m
    by (no m) h = let e : k ≡ n = omega arith in rw e (first (test n) (every test n) t)

-- ---- the table
unfoldable pub table : List ℕ
table = 0 ∷ 31 ∷ 59 ∷ 90 ∷ 120 ∷ 151 ∷ 181 ∷ 212 ∷ 243 ∷ 273 ∷ 304 ∷ 334 ∷ []

-- the days before the month behind k others
right : ℕ → Bool
right k = eqb (get_or table k 0) (days_of false k) && (eqb (get_or table k 0 + cond (ltb 2 (suc k)) 1 0) (days_of true k) && leb (get_or table k 0) 334)

pub table_right : (month : ℕ) → 1 ≤ month → month ≤ 12 → CommonDays month (get_or table (month - 1) 0)
unfolding table right every
table_right month low high =
    let k = month - 1 in
    let m : month ≡ suc k = omega arith in
    let x = get_or table k 0 in
    let t = each right 12 tt k (omega arith) in
    let common = first (eqb x (days_of false k)) _ t in
    let rest = second (eqb x (days_of false k)) _ t in
    record {
      common = eqb→eq _ _ common;
      leap = ap (λ n. x + cond (ltb 2 n) 1 0) m ∙ eqb→eq _ _ (first (eqb (x + cond (ltb 2 (suc k)) 1 0) (days_of true k)) _ rest);
      small = leb→le _ _ (second (eqb (x + cond (ltb 2 (suc k)) 1 0) (days_of true k)) _ rest);
    }

-- ---- the length of a month
-- a month's days are what the next month has beyond its own
pub next_month : (leap : Bool) (month : ℕ) → 1 ≤ month → days_of leap (month + 1 - 1) ≡ days_of leap (month - 1) + length_of leap month
next_month leap month low =
    let e : month + 1 - 1 ≡ suc (month - 1) = omega arith in
    let m : suc (month - 1) ≡ month = omega arith in
    rw e (ap (λ n. days_of leap (month - 1) + length_of leap n) m)

-- ---- a date that exists
-- the month behind k others has at most 31 days, and ends within the year
inside : Bool → ℕ → Bool
inside leap k = leb (length_of leap (suc k)) 31 && leb (days_of leap k + length_of leap (suc k)) (cond leap 366 365)

inside-year : (leap : Bool) (month : ℕ) → 1 ≤ month → month ≤ 12
    → (length_of leap month ≤ 31) × (days_of leap (month - 1) + length_of leap month ≤ cond leap 366 365)
unfolding inside every
inside-year leap month low high = let m : suc (month - 1) ≡ month = omega arith in rw m at (by leap)
  where
    of : (l : Bool) (k : ℕ) → T (inside l k) → (length_of l (suc k) ≤ 31) × (days_of l k + length_of l (suc k) ≤ cond l 366 365)
    of l k t = (leb→le _ _ (first (leb (length_of l (suc k)) 31) _ t), leb→le _ _ (second (leb (length_of l (suc k)) 31) _ t))

    by : (l : Bool) → (length_of l (suc (month - 1)) ≤ 31) × (days_of l (month - 1) + length_of l (suc (month - 1)) ≤ cond l 366 365)
    by true = of true (month - 1) (each (inside true) 12 tt (month - 1) (omega arith))
    by false = of false (month - 1) (each (inside false) 12 tt (month - 1) (omega arith))

pub record Exists (year month day : ℕ) : Type 0 where
  pub month-low : 1 ≤ month
  pub month-high : month ≤ 12
  pub day-low : 1 ≤ day
  pub day-high : day ≤ 31
  pub before-end : days_since year month day < days_in year

pub date-exists : (year month day : ℕ) → exists year month day ≡ true → Exists year month day
date-exists year month day h =
    by (leb 1 month) (leb month 12) (leb 1 day) (leb day (length_of (is_leap year) month)) refl refl refl refl h
  where
    by : (a b c d : Bool) → leb 1 month ≡ a → leb month 12 ≡ b → leb 1 day ≡ c → leb day (length_of (is_leap year) month) ≡ d → (a && b && c && d) ≡ true
        → Exists year month day
    by true true true true e f g k t =
        let l = leb-true 1 month e in
        let u = leb-true month 12 f in
        let low = leb-true 1 day g in
        let high = leb-true day (length_of (is_leap year) month) k in
        let in-year = inside-year (is_leap year) month l u in
        record { month-low = l; month-high = u; day-low = low; day-high = omega (arith, in-year.0); before-end = omega (arith, in-year.1) }
    by true true true false e f g k t = let z : ◌≡◌ {A = ℕ} 0 1 = cc in absurd (omega arith)
    by true true false d e f g k t = let z : ◌≡◌ {A = ℕ} 0 1 = cc in absurd (omega arith)
    by true false c d e f g k t = let z : ◌≡◌ {A = ℕ} 0 1 = cc in absurd (omega arith)
    by false b c d e f g k t = let z : ◌≡◌ {A = ℕ} 0 1 = cc in absurd (omega arith)

-- no date but 1 January has no day before it: January's own days are before every later month
after-january : (leap : Bool) (n : ℕ) → 31 ≤ days_of leap (suc n)
after-january true zero = omega arith
after-january false zero = omega arith
after-january leap (suc n) = omega (arith, after-january leap n)

pub first-day : (year month day : ℕ) → exists year month day ≡ true → days_since year month day ≡ 0 → (month ≡ 1) × (day ≡ 1)
first-day year month day h e =
    let x = date-exists year month day h in (by (month - 1) refl x.month-low (omega arith), omega (arith, x.day-low))
  where
    by : (n : ℕ) → month - 1 ≡ n → 1 ≤ month → days_of (is_leap year) n ≡ 0 → month ≡ 1
    by zero m low z = omega arith
    by (suc n) m low z = absurd (omega (arith, after-january (is_leap year) n))
