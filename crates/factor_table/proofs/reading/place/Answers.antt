-- The place is the definition's, and the square is below what it is taken from.
use mathlib.Core.Path.{sym}
use Prim.Native.Nat.{◌+◌, ◌*◌, ◌-◌, ◌≤◌, ◌<◌}
use native.Mathlib.Omega.{arith}
use Rattle.basis.specs.Basis.{basis_of}
use Rattle.factor_table.specs.Inner.Reading.{later_of}
use Rattle.factor_table.specs.FactorTable.{later_at}
use Rattle.factor_table.proofs.StoredFactors.{early-place, later-place, later-within}
use Rattle.factor_table.proofs.reading.place.Goals as goal

-- where the place is, in a year from 2130 on
within : (c : goal.Else-year-lt2130) → let a = c.args in let m = later_of a.year in
    (m < 66) × (2 * m + 20 ≤ a.age) × (later_at m + (a.age - 20 - 2 * m) < 4356)
within c = let a = c.args in later-within a.age a.year (omega arith) c.if-year-lt2130.false (omega arith)

pub returns-then-year-lt2130 : goal.returns-then-year-lt2130
returns-then-year-lt2130 c =
    let a = c.args in
    let before = c.if-year-lt2130.true in
    let e = early-place (basis_of a.run.now) a.age a.year before in
    (omega (arith, e, c.base_year.ensures), omega (arith, before, c.base_year.ensures))

pub returns : goal.returns
returns c =
    let a = c.args in
    (sym (later-place (basis_of a.run.now) a.age a.year c.if-year-lt2130.false), omega (arith, (within c).2))
