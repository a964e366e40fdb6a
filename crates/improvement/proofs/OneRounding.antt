-- Numbers that tell one rounding from two, by computation of the definitions. Assumes nothing.
use mathlib.Core.Path.{refl}
use Rattle.component.specs.Component.{component_of}
use Rattle.improvement.specs.Improvement.{addition_of, components_of, projected_of}
use Rattle.improvement.specs.OneRounding.{OneRounding}

pub one-rounding : OneRounding
unfolding component_of addition_of components_of projected_of
one-rounding = record { two_halves = refl; two_halves_below_zero = refl }
