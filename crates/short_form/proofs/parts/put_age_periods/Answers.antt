-- What is left of the periods gives the same output as all of them.
use mathlib.Core.Path.{◌≡◌, sym, ap, ◌∙◌}
use mathlib.Core.List.{[], ◌∷◌}
use Prim.Native.Nat.{ℕ, ◌+◌, ◌*◌}
use native.Mathlib.Nat.{one-mul}
use native.Mathlib.Omega.{arith}
use lib.ListN.{set}
use Rattle.layout.specs.Layout.{ages, age_periods_at}
use Rattle.lent.specs.Lent.{placed}
use Rattle.short_form.proofs.Entries.{stored, entries_turn, entries_end}
use Rattle.short_form.proofs.Tables.{period-entry, period-width}
use Rattle.short_form.proofs.parts.put_age_periods.Goals as goal

pub loop-place-preserved : goal.loop-place-preserved
loop-place-preserved c =
    let place = c.loop-place.place in
    let out = c.loop-place.out in
    let new : set out (age_periods_at + place) c.age_period.result ≡ placed out (age_periods_at + 1 * place) (period-entry (20 + place)) =
    rw one-mul
    (stored out (age_periods_at + place) c.age_period.result (omega arith) ∙ ap (λ (x : ℕ). placed out (age_periods_at + place) (x ∷ [])) c.age_period.ensures) in
    entries_turn period-entry 1 period-width out _ age_periods_at 20 ages place (omega arith) (omega arith) new ∙ c.loop-place.invariant

pub returns : goal.returns
returns c =
    sym (entries_end period-entry 1 period-width c.loop-place.out age_periods_at 20 ages c.loop-place.place (omega arith)) ∙ c.loop-place.invariant
