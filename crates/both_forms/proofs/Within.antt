-- A basis holds what its tables hold: two that agree at every age from 20 to 150 and every birth year from 1842 to 2110 are the same. Assumes nothing.
use mathlib.Core.Path.{◌≡◌, refl, sym, ◌∙◌, fun_ext}
use mathlib.Core.List.{List}
use Prim.Native.Nat.{ℕ, ◌+◌, ◌≤◌}
use native.Mathlib.Omega.{arith}
use lib.IntN.{pos}
use Rattle.basis.specs.Basis.{Basis, basis_of, age_place, birth_year_place}
use Rattle.basis.proofs.Places.{age-place, birth-year-place, age-place-inside, birth-year-place-inside}

-- the age, and the birth year, whose place it is
abbrev nearest_age : ℕ → ℕ
nearest_age age = 20 + age_place age

abbrev nearest_year : ℕ → ℕ
nearest_year year = 1842 + birth_year_place year

age-back : (age : ℕ) → age_place (nearest_age age) ≡ age_place age
age-back age = let i = age-place-inside age in age-place (nearest_age age) (omega (arith, i)) ∙ omega arith

year-back : (year : ℕ) → birth_year_place (nearest_year year) ≡ birth_year_place year
year-back year = let i = birth-year-place-inside year in birth-year-place (nearest_year year) (omega (arith, i)) ∙ omega arith

module _ (run : List ℕ) where
  rate-near : (age : ℕ) → (basis_of run).base_rate (nearest_age age) ≡ (basis_of run).base_rate age
  unfolding basis_of
  rate-near age = rw (age-back age) refl

  age-near : (age : ℕ) → (basis_of run).by_age (nearest_age age) ≡ (basis_of run).by_age age
  unfolding basis_of
  age-near age = rw (age-back age) refl

  year-near : (year : ℕ) → (basis_of run).by_birth_year (nearest_year year) ≡ (basis_of run).by_birth_year year
  unfolding basis_of
  year-near year = rw (year-back year) refl

  none-actual : (basis_of run).actual ≡ (λ (age year : ℕ). pos 0)
  unfolding basis_of
  none-actual = refl

-- a basis field by field
same-record : (b c : Basis) → b.foundation ≡ c.foundation → b.base ≡ c.base → b.addition ≡ c.addition → b.discount ≡ c.discount
    → b.base_rate ≡ c.base_rate → b.by_age ≡ c.by_age → b.by_birth_year ≡ c.by_birth_year → b.actual ≡ c.actual → b ≡ c
same-record b c f s a d r x y h = each
  where
    each : ◌≡◌ {A = Basis}
        (record { foundation = b.foundation; base = b.base; addition = b.addition; discount = b.discount; base_rate = b.base_rate; by_age = b.by_age; by_birth_year = b.by_birth_year; actual = b.actual })
        (record { foundation = c.foundation; base = c.base; addition = c.addition; discount = c.discount; base_rate = c.base_rate; by_age = c.by_age; by_birth_year = c.by_birth_year; actual = c.actual })
    each = rw (f, s, a, d, r, x, y, h) refl

module _ (run other : List ℕ) where
  pub same-within : (basis_of run).foundation ≡ (basis_of other).foundation → (basis_of run).base ≡ (basis_of other).base
      → (basis_of run).addition ≡ (basis_of other).addition → (basis_of run).discount ≡ (basis_of other).discount
      → ((age : ℕ) → 20 ≤ age → age ≤ 150 → (basis_of run).base_rate age ≡ (basis_of other).base_rate age)
      → ((age : ℕ) → 20 ≤ age → age ≤ 150 → (basis_of run).by_age age ≡ (basis_of other).by_age age)
      → ((year : ℕ) → 1842 ≤ year → year ≤ 2110 → (basis_of run).by_birth_year year ≡ (basis_of other).by_birth_year year)
      → basis_of run ≡ basis_of other
  same-within f s a d rates ages years =
      let inside = age-place-inside in
      let within = birth-year-place-inside in
      same-record (basis_of run) (basis_of other) f s a d
      (fun_ext (λ age. sym (rate-near run age) ∙ rates (nearest_age age) (omega arith) (omega (arith, inside age)) ∙ rate-near other age))
      (fun_ext (λ age. sym (age-near run age) ∙ ages (nearest_age age) (omega arith) (omega (arith, inside age)) ∙ age-near other age))
      (fun_ext (λ year. sym (year-near run year) ∙ years (nearest_year year) (omega arith) (omega (arith, within year)) ∙ year-near other year))
      (none-actual run ∙ sym (none-actual other))
