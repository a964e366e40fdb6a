-- What is left of the rates gives the same output as all of them.
use mathlib.Core.Path.{◌≡◌}
use Prim.Native.Nat.{◌+◌, ◌*◌, ◌-◌}
use Rattle.layout.specs.Layout.{ages}
use Rattle.layout.specs.Layout.{age_long_term_rates_at}
use Rattle.lent.specs.Lent.{placed}
use Rattle.short_form.specs.ShortForm.{entries_from, long_term_rates}
use Rattle.short_form.proofs.Tables.{rate-entry}
use Rattle.short_form.proofs.parts.put_rates.Given as goal

abbrev pub invariant-loop-i : goal.invariant-loop-i
invariant-loop-i l =
    placed l.out (age_long_term_rates_at + 4 * l.i) (entries_from (rate-entry l.rate) (20 + l.i) (ages - l.i)) ≡ placed l.initial.out age_long_term_rates_at (long_term_rates l.rate)
