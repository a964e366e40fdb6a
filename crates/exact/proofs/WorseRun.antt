-- What stands in each stretch of the run, stretch by stretch, and so its fields; no stretch is computed byte by byte. Assumes nothing.
use mathlib.Core.Path.{◌≡◌, ◌∙◌, ap, sym, refl}
use mathlib.Core.List.{List, []}
use Prim.Native.Nat.{ℕ, ◌+◌, ◌*◌, ◌-◌, ◌≤◌, ◌<◌}
use native.Mathlib.Decide.{dec_lt}
use native.Mathlib.Omega.{arith}
use lib.IntN.{ℤ, pos, negsuc, nat_abs}
use lib.ListN.{length, drop, get_or, replicate, length-replicate, length-append, get_or-replicate, get_or-append}
use lib.Seq.{drop-drop, drop_at, get_or-drop}
use Rattle.layout.specs.Layout.{mpb1, hundredths_of, form_of_run, run_length, fields_end, rate_limit, addition_at, discount_at, base_rates_at}
use Rattle.layout.specs.Layout.{age_initial_rates_at, age_long_term_rates_at, age_periods_at, age_proportions_at}
use Rattle.layout.specs.Layout.{birth_year_initial_rates_at, birth_year_long_term_rates_at, birth_year_periods_at, birth_year_proportions_at}
use Rattle.little_endian.specs.Bytes.{i32_at, signed32}
use Rattle.basis.specs.declared.Convergence.{Convergence}
use Rattle.basis.specs.Basis.{Basis, basis_of, ConvergenceLimits, Accepted}
use Rattle.layout.proofs.EachForm.{of-run}
use Rattle.basis.proofs.Places.{age-place, birth-year-place}
use Rattle.component.specs.Component.{component_of, terms}
use Rattle.history.specs.History.{basis_with}
use Rattle.improvement.specs.Improvement.{addition_of, components_of}
use Rattle.exact.specs.Model.{exact_projected, exact_improvement}
use Rattle.exact.specs.Distance.{NotBelowZero, Improving}
use Rattle.exact.specs.WorseRun.{times, worse_tables, worse_fields, worse_run, PremiseOfTheTaken}

-- ---- stretches
length-times : (n x : ℕ) (s : List ℕ) → length (times n x s) ≡ n + length s
unfolding times
length-times n x s = length-append (replicate n x) s ∙ ap (λ m. m + length s) (length-replicate n x)

-- a stretch of a run: from a place on a byte n times, and then the rest
record Stretch (run : List ℕ) (at n byte : ℕ) (rest : List ℕ) : Type 0 where
  is : drop at run ≡ times n byte rest

-- behind a stretch comes the next one
next : {run s : List ℕ} {at n x m y : ℕ} → Stretch run at n x (times m y s) → Stretch run (at + n) m y s
unfolding times
next {run} {s} {at} {n} {x} {m} {y} h =
    record { is = sym (drop-drop n at run) ∙ ap (drop n) h.is ∙ drop_at (replicate n x) (times m y s) n (length-replicate n x) }

-- and within one every byte is the same
within : {run s : List ℕ} {at n x : ℕ} → Stretch run at n x s → (i : ℕ) → at ≤ i → i < at + n → get_or run i 0 ≡ x
unfolding times
within {run} {s} {at} {n} {x} h i low high =
    let k = i - at in
    let e : at + k ≡ i = omega arith in
    let l = length-replicate n x in
    let here = rw (get_or-drop at run k 0, e) at (ap (λ t. get_or t k 0) h.is) in
    here ∙ get_or-append (replicate n x) s 0 k (omega (arith, l)) ∙ get_or-replicate n k x 0 (omega arith)

-- ---- where each stretch begins
from-addition : Stretch worse_run addition_at 22 0 (times 524 1 (times 1048 0 (times 131 50 (times 131 100 worse_tables))))
unfolding worse_run worse_fields
from-addition = record { is = refl }

from-base-rates : Stretch worse_run base_rates_at 524 1 (times 1048 0 (times 131 50 (times 131 100 worse_tables)))
from-base-rates = next from-addition

from-age-rates : Stretch worse_run age_initial_rates_at 1048 0 (times 131 50 (times 131 100 worse_tables))
from-age-rates = next from-base-rates

from-age-periods : Stretch worse_run age_periods_at 131 50 (times 131 100 worse_tables)
from-age-periods = next from-age-rates

from-age-proportions : Stretch worse_run age_proportions_at 131 100 worse_tables
from-age-proportions = next from-age-periods

from-birth-years : Stretch worse_run (birth_year_initial_rates_at mpb1) 428 255
    (times 1 1 (times 3 0 (times 1 1 (times 3 0 (times 640 255 (times 1076 0 (times 269 50 (times 269 100 []))))))))
unfolding worse_tables
from-birth-years = next from-age-proportions

from-1949 : Stretch worse_run 2292 1 1 (times 3 0 (times 1 1 (times 3 0 (times 640 255 (times 1076 0 (times 269 50 (times 269 100 [])))))))
from-1949 = next from-birth-years

from-1950 : Stretch worse_run 2296 1 1 (times 3 0 (times 640 255 (times 1076 0 (times 269 50 (times 269 100 [])))))
from-1950 = next (next from-1949)

from-1951 : Stretch worse_run 2300 640 255 (times 1076 0 (times 269 50 (times 269 100 [])))
from-1951 = next (next from-1950)

from-birth-year-long-term-rates : Stretch worse_run (birth_year_long_term_rates_at mpb1) 1076 0 (times 269 50 (times 269 100 []))
from-birth-year-long-term-rates = next from-1951

from-birth-year-periods : Stretch worse_run (birth_year_periods_at mpb1) 269 50 (times 269 100 [])
from-birth-year-periods = next from-birth-year-long-term-rates

from-birth-year-proportions : Stretch worse_run (birth_year_proportions_at mpb1) 269 100 []
from-birth-year-proportions = next from-birth-year-periods

-- ---- its form
size : length worse_run ≡ run_length mpb1
unfolding worse_run worse_fields worse_tables
size = simp length-times refl

its-form : form_of_run (length worse_run) ≡ mpb1
its-form = of-run mpb1 (length worse_run) size

-- ---- its fields
-- a word within a stretch
word : {run s : List ℕ} {at n x : ℕ} → Stretch run at n x s → (i : ℕ) → at ≤ i → i + 4 ≤ at + n
    → i32_at run i ≡ signed32 (x + 256 * x + 65536 * x + 16777216 * x)
word h i low high =
    rw (
      within h i low (omega arith),
      within h (i + 1) (omega arith) (omega arith),
      within h (i + 2) (omega arith) (omega arith),
      within h (i + 3) (omega arith) (omega arith),
    )
    refl

foundation-is : (basis_of worse_run).foundation ≡ 2006
unfolding basis_of worse_run
foundation-is = refl

base-is : (basis_of worse_run).base ≡ 2008
unfolding basis_of worse_run
base-is = refl

addition-is : (basis_of worse_run).addition ≡ pos 0
unfolding basis_of signed32
addition-is = word from-addition addition_at (omega arith) (omega arith)

discount-is : (basis_of worse_run).discount ≡ pos 0
unfolding basis_of signed32
discount-is = word from-addition discount_at (omega arith) (omega arith)

base-rate-is : (age : ℕ) → 20 ≤ age → age ≤ 150 → (basis_of worse_run).base_rate age ≡ 16_843_009
unfolding basis_of
base-rate-is age low high =
    let i = base_rates_at + 4 * (age - 20) in
    rw (
      age-place age high,
      within from-base-rates i (omega arith) (omega arith),
      within from-base-rates (i + 1) (omega arith) (omega arith),
      within from-base-rates (i + 2) (omega arith) (omega arith),
      within from-base-rates (i + 3) (omega arith) (omega arith),
    )
    refl

terms-are : {i l : ℤ} {t p : ℕ} (i' l' : ℤ) (t' p' : ℕ) → i ≡ i' → l ≡ l' → t ≡ t' → p ≡ p' → terms i l t p ≡ terms i' l' t' p'
terms-are i l t p e f g h = rw (e, f, g, h) refl

in-hundredths : {byte p : ℕ} → byte ≡ p → hundredths_of mpb1 * byte ≡ hundredths_of mpb1 * p
in-hundredths e = ap (λ k. hundredths_of mpb1 * k) e

by-age-is : (age : ℕ) → 20 ≤ age → age ≤ 150 → (basis_of worse_run).by_age age ≡ terms (pos 0) (pos 0) 50 10_000
unfolding basis_of signed32
by-age-is age low high =
    let place = age - 20 in
    rw (its-form, age-place age high)
    (terms-are _ _ _ _ (word from-age-rates (age_initial_rates_at + 4 * place) (omega arith) (omega arith))
    (word from-age-rates (age_long_term_rates_at + 4 * place) (omega arith) (omega arith))
    (within from-age-periods (age_periods_at + 1 * place) (omega arith) (omega arith))
    (in-hundredths (within from-age-proportions (age_proportions_at + 1 * place) (omega arith) (omega arith))))

-- a birth year's terms from its initial rate
by-birth-year-is : (year : ℕ) → 1842 ≤ year → year ≤ 2110 → (z : ℤ) → i32_at worse_run (birth_year_initial_rates_at mpb1 + 4 * (year - 1842)) ≡ z
    → (basis_of worse_run).by_birth_year year ≡ terms z (pos 0) 50 10_000
unfolding basis_of signed32
by-birth-year-is year low high z e =
    rw (its-form, birth-year-place year high)
    (terms-are _ _ _ _ e (word from-birth-year-long-term-rates (birth_year_long_term_rates_at mpb1 + 4 * (year - 1842)) (omega arith) (omega arith))
    (within from-birth-year-periods (birth_year_periods_at mpb1 + 1 * (year - 1842)) (omega arith) (omega arith))
    (in-hundredths (within from-birth-year-proportions (birth_year_proportions_at mpb1 + 1 * (year - 1842)) (omega arith) (omega arith))))

earlier : (year : ℕ) → 1842 ≤ year → year < 1949 → i32_at worse_run (birth_year_initial_rates_at mpb1 + 4 * (year - 1842)) ≡ negsuc 0
unfolding signed32
earlier year low high = word from-birth-years (birth_year_initial_rates_at mpb1 + 4 * (year - 1842)) (omega arith) (omega arith)

later : (year : ℕ) → 1950 < year → year ≤ 2110 → i32_at worse_run (birth_year_initial_rates_at mpb1 + 4 * (year - 1842)) ≡ negsuc 0
unfolding signed32
later year low high = word from-1951 (birth_year_initial_rates_at mpb1 + 4 * (year - 1842)) (omega arith) (omega arith)

-- a byte 1 and three bytes 0
one : {run r s : List ℕ} {at : ℕ} → Stretch run at 1 1 r → Stretch run (at + 1) 3 0 s → i32_at run at ≡ pos 1
unfolding signed32
one {at = at} h g =
    rw (
      within h at (omega arith) (omega arith),
      within g (at + 1) (omega arith) (omega arith),
      within g (at + 2) (omega arith) (omega arith),
      within g (at + 3) (omega arith) (omega arith),
    )
    refl

born-1949 : (basis_of worse_run).by_birth_year 1949 ≡ terms (pos 1) (pos 0) 50 10_000
born-1949 = by-birth-year-is 1949 (omega arith) (omega arith) (pos 1) (one from-1949 (next from-1949))

born-1950 : (basis_of worse_run).by_birth_year 1950 ≡ terms (pos 1) (pos 0) 50 10_000
born-1950 = by-birth-year-is 1950 (omega arith) (omega arith) (pos 1) (one from-1950 (next from-1950))

-- ---- it is accepted
small : (z : ℤ) → nat_abs z ≤ rate_limit → ConvergenceLimits (terms z (pos 0) 50 10_000)
small z h = record { initial = h; long = omega arith; period_low = omega arith; period_high = omega arith; remaining = omega arith }

limits_of : {c : Convergence} (z : ℤ) → c ≡ terms z (pos 0) 50 10_000 → nat_abs z ≤ rate_limit → ConvergenceLimits c
limits_of z e h = rw e (small z h)

birth-limits : (year : ℕ) → 1842 ≤ year → year ≤ 2110 → ConvergenceLimits ((basis_of worse_run).by_birth_year year)
birth-limits year low high = by (dec_lt year 1949) (dec_lt 1950 year) (dec_lt year 1950)
  where
    by : Dec (year < 1949) → Dec (1950 < year) → Dec (year < 1950) → ConvergenceLimits ((basis_of worse_run).by_birth_year year)
    by (yes l) m k = limits_of (negsuc 0) (by-birth-year-is year low high (negsuc 0) (earlier year low l)) (omega arith)
    by (no l) (yes m) k = limits_of (negsuc 0) (by-birth-year-is year low high (negsuc 0) (later year m high)) (omega arith)
    by (no l) (no m) (yes k) = let e : year ≡ 1949 = omega arith in rw e (limits_of (pos 1) born-1949 (omega arith))
    by (no l) (no m) (no k) = let e : year ≡ 1950 = omega arith in rw e (limits_of (pos 1) born-1950 (omega arith))

worse-accepted : Accepted worse_run
unfolding worse_run
worse-accepted =
    record {
      size = rw its-form size;
      mark = rw its-form refl;
      zeros = λ at low high. within from-addition at (omega arith) (omega arith);
      last_zeros = λ at low high. let l : fields_end mpb1 ≤ at = rw its-form at low in absurd (omega (arith, size, l));
      limits =
          record {
            foundation_low = omega (arith, foundation-is);
            foundation_high = omega (arith, foundation-is);
            base_low = omega (arith, base-is);
            base_high = omega (arith, base-is);
            addition = rw addition-is (omega arith);
            discount_low = rw discount-is (record { le = tt });
            discount_high = rw discount-is (record { le = tt });
            base_rate = λ age low high. rw (base-rate-is age low high) (omega arith);
            by_age = λ age low high. limits_of (pos 0) (by-age-is age low high) (omega arith);
            by_birth_year = birth-limits;
          };
    }

-- ---- the premise
abbrev W : Basis
W = basis_with worse_run []

-- the age's components are 0, so that an exact improvement is the birth year's
born-1948 : (basis_of worse_run).by_birth_year 1948 ≡ terms (negsuc 0) (pos 0) 50 10_000
born-1948 = by-birth-year-is 1948 (omega arith) (omega arith) (negsuc 0) (earlier 1948 (omega arith) (omega arith))

born-1951 : (basis_of worse_run).by_birth_year 1951 ≡ terms (negsuc 0) (pos 0) 50 10_000
born-1951 = by-birth-year-is 1951 (omega arith) (omega arith) (negsuc 0) (later 1951 (omega arith) (omega arith))

at-60 : (basis_of worse_run).by_age 60 ≡ terms (pos 0) (pos 0) 50 10_000
at-60 = by-age-is 60 (omega arith) (omega arith)

at-62 : (basis_of worse_run).by_age 62 ≡ terms (pos 0) (pos 0) 50 10_000
at-62 = by-age-is 62 (omega arith) (omega arith)

in-2009 : NotBelowZero (exact_improvement W 60 2009)
unfolding component_of components_of addition_of exact_projected exact_improvement
in-2009 = rw (foundation-is, base-is, addition-is, at-60, born-1949) (record { le = tt })

in-2010 : NotBelowZero (exact_improvement W 60 2010)
unfolding component_of components_of addition_of exact_projected exact_improvement
in-2010 = rw (foundation-is, base-is, addition-is, at-60, born-1950) (record { le = tt })

taken : Improving W 60 2010
taken t after upto = by (dec_lt t 2010)
  where
    by : Dec (t < 2010) → NotBelowZero (exact_improvement W 60 t)
    by (yes l) = let e : t ≡ 2009 = omega (arith, base-is, after) in rw e in-2009
    by (no l) = let h : t ≤ 2010 = upto in let e : t ≡ 2010 = omega arith in rw e in-2010

pub premise-of-the-taken : PremiseOfTheTaken
unfolding component_of components_of addition_of exact_projected exact_improvement
premise-of-the-taken =
    record {
      accepted = worse-accepted;
      below_at_another_age = λ h. absurd (rw (foundation-is, base-is, addition-is, at-62, born-1948) at h).le;
      below_in_base_year = λ h. absurd (rw (foundation-is, base-is, addition-is, at-60, born-1948) at h).le;
      below_later = λ h. absurd (rw (foundation-is, base-is, addition-is, at-60, born-1951) at h).le;
      holds = taken;
      holds_over = λ j l. let e : j ≡ 0 = omega arith in rw e taken;
    }
