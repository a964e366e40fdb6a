-- What is left of the P gives the same output as all of them.
use mathlib.Core.Path.{◌≡◌}
use Prim.Native.Nat.{◌+◌, ◌*◌, ◌-◌}
use Rattle.layout.specs.Layout.{width_of, proportion_of}
use Rattle.lent.specs.Lent.{placed}
use Rattle.short_form.specs.ShortForm.{entries_from, proportions}
use Rattle.short_form.proofs.Tables.{proportion-entry}
use Rattle.layout.specs.Meaning.{meant}
use Rattle.short_form.proofs.parts.put_proportions.Given as goal

abbrev pub invariant-loop-i : goal.invariant-loop-i
invariant-loop-i l =
    let f = meant l.form in
    placed l.out (l.at + width_of (proportion_of f) * l.i) (entries_from (proportion-entry f) (0 + l.i) (l.n - l.i)) ≡ placed l.initial.out l.at (proportions f l.n)
