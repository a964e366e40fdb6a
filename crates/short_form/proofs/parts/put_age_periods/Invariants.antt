-- What is left of the periods gives the same output as all of them.
use mathlib.Core.Path.{◌≡◌}
use Prim.Native.Nat.{◌+◌, ◌*◌, ◌-◌}
use Rattle.layout.specs.Layout.{ages, age_periods_at}
use Rattle.lent.specs.Lent.{placed}
use Rattle.short_form.specs.ShortForm.{entries_from, age_periods}
use Rattle.short_form.proofs.Tables.{period-entry}
use Rattle.short_form.proofs.parts.put_age_periods.Given as goal

abbrev pub invariant-loop-place : goal.invariant-loop-place
invariant-loop-place l =
    placed l.out (age_periods_at + 1 * l.place) (entries_from period-entry (20 + l.place) (ages - l.place)) ≡ placed l.initial.out age_periods_at age_periods
