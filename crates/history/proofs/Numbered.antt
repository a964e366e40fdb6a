-- No number but those of the papers' list: by the laws of what refuses by numbers of a list. Assumes nothing.
use mathlib.Core.Path.{refl}
use mathlib.Core.List.{List}
use Prim.Native.Nat.{ℕ, zero, suc, ◌+◌, ◌*◌}
use lib.Dec.{eqb}
use lib.ListN.{length}
use Rattle.basis.specs.Basis.{Basis, basis_of}
use Rattle.outcome.specs.Refusals.{numbers, is_listed, Listed, RefusesBy}
use Rattle.outcome.proofs.Refusals.{passed-by, unless-by, first_by}
use Rattle.field_check.specs.declared.Field.{Field}
use Rattle.field_check.specs.Field.{fields_check}
use Rattle.field_check.proofs.Numbered.{field-by}
use Rattle.run_check.proofs.Numbered.{run-numbered}
use Rattle.block.proofs.Numbered.{blocks-numbered}
use Rattle.history.specs.History.{actual_years, length_needed, history_data, shifted_by, yearly_fields, history_fields, history_check, run_and_history_check}
use Rattle.history.specs.History.{younger_ages, older_ages, first_remaining, second_remaining}
use Rattle.history.proofs.Ways.{fields-parts}

yearly-numbered : (s : List ℕ) (first second : Field) (at n : ℕ) → Listed numbers first.number → Listed numbers second.number
    → RefusesBy numbers (fields_check s (yearly_fields first second at n))
unfolding fields_check yearly_fields
yearly-numbered s first second at zero p q = passed-by
yearly-numbered s first second at (suc n) p q =
    first_by (field-by s (shifted_by at first) p) (first_by (field-by s (shifted_by (at + 506) second) q) (yearly-numbered s first second (at + 1012) n p q))

fields-numbered : (s : List ℕ) (years : ℕ) → RefusesBy numbers (fields_check s (history_fields years))
unfolding numbers is_listed
fields-numbered s years =
    rw (fields-parts s years)
    (first_by (yearly-numbered s first_remaining second_remaining 0 years refl refl) (yearly-numbered s younger_ages older_ages 0 years refl refl))

pub history-numbered : (b : Basis) (history : List ℕ) → RefusesBy numbers (history_check b history)
unfolding history_check numbers is_listed
history-numbered b history =
    first_by (unless-by (eqb (length history) (length_needed b)) _ refl)
    (first_by (blocks-numbered 0 (2 * actual_years b) history) (fields-numbered (history_data b history) (actual_years b)))

pub basis-numbered : (run history : List ℕ) → RefusesBy numbers (run_and_history_check run history)
unfolding run_and_history_check
basis-numbered run history = first_by (run-numbered run) (history-numbered (basis_of run) history)
