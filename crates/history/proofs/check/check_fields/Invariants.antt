-- The years from k on give the fours and the fives so far; the whole is the first of both.
use mathlib.Core.Path.{◌≡◌}
use mathlib.Core.List.{List}
use Prim.Native.Nat.{ℕ, ◌*◌, ◌-◌}
use Rattle.outcome.specs.Outcome.{Finding, finding}
use Rattle.field_check.specs.declared.Field.{Field}
use Rattle.field_check.specs.Field.{fields_check}
use Rattle.block.specs.Blocks.{parts_of}
use Rattle.history.specs.History.{yearly_fields, younger_ages, first_remaining, older_ages, second_remaining}
use Rattle.history.proofs.check.check_fields.Given as goal

-- what two fields a year say from the k-th year on
abbrev pub From : List ℕ → ℕ → ℕ → Field → Field → Finding
From history years k first second = fields_check (parts_of (2 * years) history) (yearly_fields first second (1012 * k) (years - k))

abbrev pub invariant-loop-k : goal.invariant-loop-k
invariant-loop-k l =
    (finding l.fours ≡ From l.history l.years l.k first_remaining second_remaining) × (finding l.fives ≡ From l.history l.years l.k younger_ages older_ages)
