-- Each of the 22,565 numbers is an early year's at an age, one of the rest, which are 0, a later year's at an age, or a discount; and each of these
-- is given. Assumes nothing.
use mathlib.Core.Path.{◌≡◌, ◌∙◌, ap, sym}
use mathlib.Core.List.{List}
use Prim.Native.Nat.{ℕ, ◌+◌, ◌*◌, ◌-◌, ◌/◌, ◌%◌, ◌<◌}
use native.Mathlib.Decide.{dec_lt}
use native.Mathlib.Omega.{arith}
use lib.IntN.{nat_abs}
use lib.ListN.{get_or}
use Rattle.basis.specs.Basis.{Basis}
use Rattle.sweep.proofs.Fixed.{decoded-once, same_numbers}
use Rattle.factor_table.specs.FactorTable.{early_years, early_length, later_ages, later_at, factors_length, table_length, FactorTable}
use Rattle.factor_table.proofs.LaterPlaces.{place_found}
use Rattle.factor_table.specs.Fixed.{FactorTableIsFixed}

module _ (b : Basis) (xs ys : List ℕ) (w : FactorTable b xs) (v : FactorTable b ys) where
  -- the number of a year at an age
  stored : (k i : ℕ) → k < early_years b → i < 131 → get_or xs (131 * k + i) 0 ≡ get_or ys (131 * k + i) 0
  stored k i h l = decoded-once (20 + i) _ _ (w.years k i h l ∙ sym (v.years k i h l))

  in-years : (i : ℕ) → i < 131 * early_years b → get_or xs i 0 ≡ get_or ys i 0
  in-years i h =
      let e : 131 * (i / 131) + i % 131 ≡ i = omega arith in
      rw e at (stored (i / 131) (i % 131) (omega arith) (omega arith))

  in-later : (m i : ℕ) → m < 66 → i < later_ages m → get_or xs (early_length + later_at m + i) 0 ≡ get_or ys (early_length + later_at m + i) 0
  in-later m i h l = decoded-once (20 + (2 * m + i)) _ _ (w.later m i h l ∙ sym (v.later m i h l))

  behind-early : (p : ℕ) → p < later_at 66 → get_or xs (early_length + p) 0 ≡ get_or ys (early_length + p) 0
  behind-early p h =
      let f = place_found 66 p (omega arith) h in
      let e : early_length + later_at f.0 + f.1 ≡ early_length + p = omega (arith, f.4) in
      rw e at (in-later f.0 f.1 f.2 f.3)

  in-discounts : (j : ℕ) → j < 131 → get_or xs (factors_length + j) 0 ≡ get_or ys (factors_length + j) 0
  in-discounts j h = ap nat_abs (w.discounts j h ∙ sym (v.discounts j h))

  each : (i : ℕ) → i < table_length → get_or xs i 0 ≡ get_or ys i 0
  each i h = by (dec_lt i early_length) (dec_lt i (131 * early_years b)) (dec_lt i factors_length)
    where
      by : Dec (i < early_length) → Dec (i < 131 * early_years b) → Dec (i < factors_length) → get_or xs i 0 ≡ get_or ys i 0
      by (yes l) (yes m) n = in-years i m
      by (yes l) (no m) n = w.rest i (omega arith) l ∙ sym (v.rest i (omega arith) l)
      by (no l) m (yes n) =
          let e : early_length + (i - early_length) ≡ i = omega arith in
          rw e at (behind-early (i - early_length) (omega arith))
      by (no l) m (no n) =
          let e : factors_length + (i - factors_length) ≡ i = omega arith in
          rw e at (in-discounts (i - factors_length) (omega arith))

pub factor-table-is-fixed : FactorTableIsFixed
factor-table-is-fixed =
    record {
      same = λ b xs ys w v. same_numbers xs ys (w.size ∙ sym v.size) (λ i l. each b xs ys w v i (omega (arith, w.size)));
    }
