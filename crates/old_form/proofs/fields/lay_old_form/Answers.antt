-- The part by age, then the part by birth year, fill the output.
use Rattle.old_form.proofs.Placing.{all_placed}
use Rattle.basis.specs.Basis.{Accepted}
use borrow.Author.Rules.{rules}
use Rattle.old_form.proofs.fields.lay_old_form.Goals as goal

pub returns : goal.returns
returns c =
    let a : Accepted c.args.run.now = search rules in
    all_placed c.args.run.now a c.args.out.now _ _ (search rules) c.put_ages.ensures c.put_birth_years.ensures
