-- The figures of the papers hold, by computation of the definitions. Assumes nothing.
use mathlib.Core.Path.{refl}
use Rattle.basis.specs.Basis.{accumulation_of}
use Rattle.outcome.specs.Outcome.{steps, sum_of}
use Rattle.component.specs.Component.{component_of}
use Rattle.improvement.specs.Improvement.{addition_of, components_of, projected_of, improvement_of, improvement_needed}
use Rattle.projection.specs.Projection.{factor_needed, factor_from, factor_of, rate_of}
use Rattle.survivorship.specs.Survivorship.{survivors_after_year, survivors_of}
use Rattle.valuation.specs.Valuation.{discount_after, payment_after, annuity_of}
use Rattle.figures.specs.Figures.{FiguresHold, HighAgesHold, AfterLastCellHold}

pub figures-hold : FiguresHold
unfolding component_of addition_of components_of projected_of improvement_of improvement_needed factor_needed factor_from factor_of rate_of steps sum_of accumulation_of survivors_after_year survivors_of discount_after payment_after annuity_of
figures-hold = record { hold = refl; number = refl }

pub high-ages-hold : HighAgesHold
high-ages-hold = record { hold = refl; number = refl }

pub after-last-cell-hold : AfterLastCellHold
unfolding component_of addition_of components_of projected_of improvement_of improvement_needed factor_needed factor_from factor_of rate_of steps survivors_after_year survivors_of
after-last-cell-hold = record { hold = refl; number = refl }
