-- The factor of the table is the direct engine's, and the rate and the survivors follow from it.
use mathlib.Core.Path.{◌∙◌}
use borrow.Author.Rules.{rules}
use Rattle.projection.proofs.Years.{factor-bounded, rate-by-factor}
use Rattle.survivorship.proofs.Survivors.{survivors-by-rate}
use Rattle.swept_points.proofs.life_values.survivors_after_year.Goals as goal

pub rate_by-requires : goal.rate_by-requires
rate_by-requires c = (search rules, search rules, search rules, factor-bounded _ _ _ c.factor-factor.ensures)

pub returns : goal.returns
returns c = c.survivors_by.ensures ∙ survivors-by-rate _ _ _ _ (c.rate_by.ensures ∙ rate-by-factor _ _ _ c.factor-factor.ensures)
