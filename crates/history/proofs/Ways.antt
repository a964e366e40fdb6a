-- A history of the length needed is checked by its blocks, then by its fields, whose table has two parts. Assumes nothing.
use mathlib.Core.Path.{◌≡◌}
use mathlib.Core.List.{List}
use Prim.Native.Nat.{ℕ, ◌*◌}
use lib.ListN.{length}
use borrow.Author.Tests.{eq-eqb}
use Rattle.basis.specs.Basis.{Basis}
use Rattle.outcome.specs.Outcome.{first_of}
use Rattle.field_check.specs.Field.{fields_check}
use Rattle.field_check.proofs.Fields.{rows_join}
use Rattle.block.specs.Blocks.{blocks_check}
use Rattle.history.specs.History.{actual_years, length_needed, history_data, yearly_fields, younger_ages}
use Rattle.history.specs.History.{first_remaining, older_ages, second_remaining, history_fields, history_check}

-- ---- the table of fields in its two parts
pub fields-parts : (s : List ℕ) (years : ℕ) → fields_check s (history_fields years)
    ≡ first_of (fields_check s (yearly_fields first_remaining second_remaining 0 years)) (fields_check s (yearly_fields younger_ages older_ages 0 years))
unfolding history_fields
fields-parts s years = rows_join s (yearly_fields first_remaining second_remaining 0 years) (yearly_fields younger_ages older_ages 0 years)

-- ---- the length needed
module _ (b : Basis) (history : List ℕ) where
  pub right-length : length history ≡ length_needed b
      → history_check b history ≡ first_of (blocks_check 0 (2 * actual_years b) history) (fields_check (history_data b history) (history_fields (actual_years b)))
  unfolding history_check
  right-length h = simp (eq-eqb (length history) (length_needed b) h)
