-- Four parts, one after another.
use mir.Facts.{to_z-of_z}
use Rattle.short_form.proofs.Placing.{ages-placed}
use Rattle.layout.specs.Meaning.{meant}
use borrow.Author.Rules.{rules}
use Rattle.short_form.proofs.parts.put_ages.Goals as goal

pub returns : goal.returns
returns c =
    ages-placed (meant c.args.form) c.args.run.now (search rules) c.args.out.now _ _ _ _ (search rules) c.args.rate
    c.put.ensures (rw (to_z-of_z c.ranges.rate) at c.put_rates.ensures) c.put_age_periods.ensures c.put_proportions.ensures
