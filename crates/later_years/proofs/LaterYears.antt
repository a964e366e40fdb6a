-- The factor's own step, with an improvement that is the long-term one and stands. Assumes nothing.
use mathlib.Core.Path.{◌≡◌, ◌∙◌, ap, sym, refl}
use Prim.Native.Nat.{ℕ, suc, ◌+◌, ◌-◌, ◌≤◌, ◌<◌}
use native.Mathlib.Decide.{dec_lt}
use native.Mathlib.Omega.{arith}
use mathlib.Core.Bool.{Bool, true, false, cond}
use lib.IntN.{ℤ, pos}
use lib.Signed.{le_z}
use Rattle.arithmetic.specs.Fraction.{U}
use Rattle.basis.specs.Basis.{Basis, Limited}
use Rattle.outcome.specs.declared.Refusal.{Refusal}
use Rattle.outcome.specs.Outcome.{Outcome, value, refused, refusal, and_then}
use Rattle.improvement.specs.Improvement.{improvement_of}
use Rattle.improvement.specs.LongTerm.{long_term_improvement}
use Rattle.improvement.proofs.LongTerm.{long-term-from-2130}
use Rattle.projection.specs.Projection.{factor_next, factor_needed, factor_from, factor_step, years_to, factor_of}
use Rattle.projection.proofs.Cases.{year-refused}
use Rattle.projection.proofs.Years.{goes_on}
use Rattle.later_years.specs.LaterYears.{EachLaterYear}
use Rattle.later_years.proofs.Same.{refused-at}

module _ (b : Basis) (limits : Limited b) (age : ℕ) (low : 20 ≤ age) (high : age ≤ 150) where
  -- a year's factor from 2130 on
  by-long-term : (year : ℕ) → 2130 ≤ year → year ≤ 2110 + age → (f : ℤ) →
      factor_from age year (improvement_of b age year) f ≡ factor_needed age year (factor_next f (long_term_improvement b age year))
  unfolding factor_from
  by-long-term year from upto f = rw ((long-term-from-2130 b).never_beyond limits age year low high from upto) refl

  later-year : (year : ℕ) → 2130 ≤ year → year < 2110 + age →
      factor_of b age (year + 1) ≡ and_then (factor_of b age year) (λ f. factor_needed age (year + 1) (factor_next f (long_term_improvement b age (year + 1))))
  later-year year from upto =
      let k = year - b.base in
      let e : b.base + k ≡ year = omega (arith, limits.base_high) in
      let n : b.base + suc k ≡ year + 1 = omega (arith, limits.base_high) in
      (rw (e, n) at (goes_on b age k)) ∙ each (factor_of b age year)
    where
      each : (o : Outcome ℤ) → and_then o (λ f. factor_from age (year + 1) (improvement_of b age (year + 1)) f)
          ≡ and_then o (λ f. factor_needed age (year + 1) (factor_next f (long_term_improvement b age (year + 1))))
      each (value f) = by-long-term (year + 1) (omega arith) (omega arith) f
      each (refused r) = refl

  -- 10 alone refuses such a year
  ten-alone : (year : ℕ) (f : ℤ) (r : Refusal) → factor_needed age year f ≡ refused r → r.number ≡ 10
  unfolding factor_needed
  ten-alone year f r h = by (le_z f (pos 4_000_000_000)) h
    where
      by : (t : Bool) → cond t (value f) (refused (refusal 10 age year)) ≡ refused r → r.number ≡ 10
      by true k = let z : ◌≡◌ {A = ℕ} 0 1 = cc in absurd (omega arith)
      by false k = let e : r ≡ refusal 10 age year = cc in ap (λ x. x.number) e

  nine-early : (year : ℕ) (r : Refusal) → year ≤ 2110 + age → factor_of b age year ≡ refused r → r.number ≡ 9 → r.second < 2130
  unfolding factor_of
  nine-early year r upto h nine =
      let w = refused-at (factor_step b age) (pos U) (years_to b year) r h in
      let t = b.base + 1 + w.0 in
      let q = year-refused age t (improvement_of b age t) w.1 r w.3 in
      let names : r.second ≡ t = ap (λ x. x.second) q.1 in
      by t names (omega (arith, w.2)) w.1 w.3 (dec_lt t 2130)
    where
      by : (t : ℕ) → r.second ≡ t → t ≤ 2110 + age → (f : ℤ) → factor_from age t (improvement_of b age t) f ≡ refused r → Dec (t < 2130) → r.second < 2130
      by t e born f k (yes l) = omega (arith, e, l)
      by t e born f k (no l) =
          let ten = ten-alone t (factor_next f (long_term_improvement b age t)) r (sym (by-long-term t (omega arith) born f) ∙ k) in
          absurd (omega (arith, ten, nine))

pub each-later-year : (b : Basis) → EachLaterYear b
each-later-year b =
    record {
      factor = λ limits age year low high from upto. later-year b limits age low high year from upto;
      nine = λ limits age year r low high upto h nine. nine-early b limits age low high year r upto h nine;
    }
