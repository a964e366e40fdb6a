-- Each part is stored behind the one before it, and so keeps it; the years begin in 1992 at the earliest. Assumes nothing.
use mathlib.Core.Path.{◌≡◌, ◌∙◌, ap}
use mathlib.Core.List.{List}
use Prim.Native.Nat.{ℕ, ◌+◌, ◌*◌, ◌≤◌}
use native.Mathlib.Omega.{arith}
use lib.ListN.{length}
use Rattle.basis.specs.Basis.{Basis}
use Rattle.sweep.specs.Encoding.{decoded}
use Rattle.factor_table.specs.Inner.Storing.{KeptBefore}
use Rattle.factor_table.proofs.LaterPlaces.{ends-in-time}
use Rattle.factor_table.specs.FactorTable.{early_years, early_length, later_at, factors_length, table_length}
use Rattle.factor_table.specs.FactorTable.{YearsStored, RestIsZero, LaterYearsStored, DiscountsStored, FactorTable}

pub stored-behind : (b : Basis) (years cleared later after : List ℕ) → 1992 ≤ b.base → length after ≡ table_length
    → YearsStored b years (early_years b) → RestIsZero b cleared → KeptBefore (131 * early_years b) years cleared
    → LaterYearsStored b later 66 → KeptBefore early_length cleared later
    → DiscountsStored b after 131 → KeptBefore factors_length later after → FactorTable b after
stored-behind b years cleared later after first size stored zero stand rows kept discounts last =
    record {
      size = size;
      years = λ k i l m.
          let at = 131 * k + i in
          ap (decoded (20 + i)) (last at (omega arith) ∙ kept at (omega arith) ∙ stand at (omega arith)) ∙ stored k i l m;
      rest = λ i l m. last i (omega arith) ∙ kept i m ∙ zero i l m;
      later = λ m i l q. ap (decoded (20 + (2 * m + i))) (last (early_length + later_at m + i) (omega (arith, ends-in-time m l))) ∙ rows m i l q;
      discounts = discounts;
    }
