-- A field of a data run, or of the data of a history: its numbers, its limits, and the first number outside them (01, "The basis file").
use Rattle.std.specs.Prelude.{ℕ, zero, suc, ◌+◌, Bool, cond, ◌&&◌, List, [], ◌∷◌, ℤ}
use Rattle.std.specs.Int.Signed.{le_z}
use Rattle.outcome.specs.Outcome.{Finding, passed, refused_by, refusal, first_of}
use Rattle.layout.specs.declared.Number.{Number}
use Rattle.layout.specs.Layout.{width_of, value_at}
use Rattle.field_check.specs.declared.Field.{Field}

-- whether a number is from the one to the other, both included
abbrev pub between : ℤ → ℤ → ℤ → Bool
between low high n = le_z low n && le_z n high

-- the first of n numbers, one after the other from an offset on, that is outside its limits
unfoldable pub entries_check : List ℕ → ℕ → Number → ℤ → ℤ → ℕ → ℕ → Finding
entries_check run number kind low high at zero = passed
entries_check run number kind low high at (suc n) =
    cond (between low high (value_at kind run at)) (entries_check run number kind low high (at + width_of kind) n) (refused_by (refusal number at 0))

-- a field: its refusal's number, its kind of number, its limits, its offset, and how many stand there
abbrev pub field : ℕ → Number → ℤ → ℤ → ℕ → ℕ → Field
field number kind low high offset count =
    record { number = number; kind = kind; low = low; high = high; offset = offset; count = count }

unfoldable pub field_check : List ℕ → Field → Finding
field_check run f = entries_check run f.number f.kind f.low f.high f.offset f.count

-- a table of fields, row by row
unfoldable pub fields_check : List ℕ → List Field → Finding
fields_check run [] = passed
fields_check run (f ∷ fs) = first_of (field_check run f) (fields_check run fs)
