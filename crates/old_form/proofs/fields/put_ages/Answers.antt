-- Three parts, one after another.
use Rattle.basis.specs.Basis.{Accepted}
use Rattle.old_form.proofs.SameBasis.{age-limits}
use Rattle.old_form.proofs.Placing.{ages-placed}
use borrow.Author.Rules.{rules}
use Rattle.old_form.proofs.fields.put_ages.Goals as goal

pub put_per_cents-requires-clause-accepted : goal.put_per_cents-requires-clause-accepted
put_per_cents-requires-clause-accepted c =
    let a : Accepted c.args.run.now = search rules in
    (a, age-limits c.args.run.now a, search rules)

pub returns : goal.returns
returns c =
    let a : Accepted c.args.run.now = search rules in
    ages-placed c.args.run.now a c.args.out.now _ _ _ (search rules) c.put.ensures c.put-2.ensures c.put_per_cents.ensures
