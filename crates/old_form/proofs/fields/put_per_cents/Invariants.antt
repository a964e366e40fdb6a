-- What is left of the P gives the same output as all of them.
use mathlib.Core.Path.{◌≡◌}
use Prim.Native.Nat.{◌+◌, ◌-◌}
use Rattle.layout.specs.Layout.{mpb1}
use Rattle.lent.specs.Lent.{placed}
use Rattle.old_form.specs.OldForm.{proportions_in}
use Rattle.old_form.proofs.fields.put_per_cents.Given as goal

abbrev pub invariant-loop-place : goal.invariant-loop-place
invariant-loop-place l =
    placed l.out (l.at + l.place) (proportions_in mpb1 l.run l.offset l.place (l.n - l.place)) ≡ placed l.initial.out l.at (proportions_in mpb1 l.run l.offset 0 l.n)
