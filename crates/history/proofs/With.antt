-- A basis with its history has the fields of its data run, and their limits. Assumes nothing.
use mathlib.Core.Path.{◌≡◌, refl}
use mathlib.Core.List.{List}
use Prim.Native.Nat.{ℕ}
use Rattle.basis.specs.Basis.{basis_of, accumulation_of, rated_from, Limited}
use Rattle.history.specs.History.{basis_with, Workable}

pub accumulation-with : (run history : List ℕ) → accumulation_of (basis_of run) ≡ accumulation_of (basis_with run history)
unfolding accumulation_of
accumulation-with run history = refl

pub rated-with : (run history : List ℕ) → rated_from (basis_of run) ≡ rated_from (basis_with run history)
unfolding rated_from
rated-with run history = refl

pub limits-with : {run history : List ℕ} → Workable run history → Limited (basis_with run history)
limits-with ok =
    let l = ok.basis.limits in
    record {
      foundation_low = l.foundation_low;
      foundation_high = l.foundation_high;
      base_low = l.base_low;
      base_high = l.base_high;
      addition = l.addition;
      discount_low = l.discount_low;
      discount_high = l.discount_high;
      base_rate = l.base_rate;
      by_age = l.by_age;
      by_birth_year = l.by_birth_year;
    }
