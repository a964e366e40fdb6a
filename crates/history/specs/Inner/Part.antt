-- The data of one block, looked at by itself: what its check says, with the places counted in the joined data.
use Rattle.std.specs.Prelude.{ℕ, ◌+◌, ◌*◌, List, take, drop}
use Rattle.outcome.specs.Outcome.{Finding, passed, refused_by, refusal}
use Rattle.field_check.specs.declared.Field.{Field}
use Rattle.field_check.specs.Field.{field_check}

-- the check of a part that begins at an offset of the whole
abbrev pub counted_from : ℕ → Finding → Finding
counted_from from passed = passed
counted_from from (refused_by r) = refused_by (refusal r.number (from + r.first) r.second)

-- a field in the data of a block
abbrev pub part_check : List ℕ → ℕ → Field → Finding
part_check history b f = counted_from (506 * b) (field_check (take 506 (drop (512 * b + 2) history)) f)
