-- Two parts, one after another.
use Rattle.basis.specs.Basis.{Accepted}
use Rattle.old_form.proofs.SameBasis.{birth-year-limits}
use Rattle.old_form.proofs.Placing.{birth-years-placed}
use borrow.Author.Rules.{rules}
use Rattle.old_form.proofs.fields.put_birth_years.Goals as goal

pub put_per_cents-requires-clause-accepted : goal.put_per_cents-requires-clause-accepted
put_per_cents-requires-clause-accepted c =
    let run = c.args.run.now in
    let a : Accepted run = search rules in
    (a, rw (c.birth_year_proportions_at-proportions.ensures, c.form_of_run-form.ensures) (birth-year-limits run a), search rules)

pub returns : goal.returns
returns c =
    let run = c.args.run.now in
    let a : Accepted run = search rules in
    let same = c.form_of_run-form.ensures in
    birth-years-placed run a c.args.out.now _ _ (search rules)
    (rw (c.birth_year_initial_rates_at.ensures, c.birth_year_proportions_at-proportions.ensures, c.birth_year_initial_rates_at-from.ensures, same) at c.put.ensures)
    (rw (c.birth_year_proportions_at.ensures, c.birth_year_proportions_at-proportions.ensures, same) at c.put_per_cents.ensures)
