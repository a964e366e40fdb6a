-- Five parts, one after another.
use mathlib.Core.Path.{◌≡◌}
use Prim.Native.Nat.{◌-◌, ◌*◌}
use native.Mathlib.Omega.{arith}
use lib.ListN.{length}
use Rattle.layout.specs.Layout.{run_length, birth_years, birth_year_proportions_at}
use Rattle.short_form.proofs.Placing.{birth-years-placed}
use Rattle.layout.specs.Meaning.{meant}
use borrow.Author.Rules.{rules}
use Rattle.short_form.proofs.parts.put_birth_years.Goals as goal

pub returns : goal.returns
returns c =
    let from = c.birth_year_initial_rates_at-from in
    let long = c.birth_year_long_term_rates_at-long in
    let kept : long.result - from.result ≡ 4 * birth_years = omega (arith, from.ensures, long.ensures) in
    let shares : c.birth_year_proportions_at.result ≡ birth_year_proportions_at (meant c.args.form) = c.birth_year_proportions_at.ensures in
    let size : length c.args.run.now ≡ run_length (meant c.args.form) = search rules in
    birth-years-placed (meant c.args.form) c.args.run.now size c.args.out.now _ _ _ _ (search rules) _
    (rw (kept, from.ensures) at c.put.ensures) (rw long.ensures at c.put_repeated.ensures)
    (rw c.birth_year_periods_at.ensures at c.put_repeated-2.ensures)
    (rw shares at c.put_proportions.ensures)
    (rw (c.fields_end-end.ensures, size) at c.put_repeated-3.ensures)
