-- A factor is within its bound.
use mathlib.Core.Path.{ap}
use Rattle.outcome.specs.Outcome.{meaning}
use Rattle.projection.proofs.rate.rate_by.Goals as goal

pub rate_from-requires : goal.rate_from-requires
rate_from-requires c =
    let p = c.requires in
    (p.0, p.1, p.2, p.3 _ (ap meaning c.in_ok-factor.was))
