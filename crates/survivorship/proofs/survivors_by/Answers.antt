-- A value or a refusal of the rate is one of the year's survivors: the two cases of `and_then`.
use mathlib.Core.Path.{ap}
use Rattle.outcome.specs.Outcome.{meaning}
use Rattle.survivorship.proofs.survivors_by.Goals as goal

pub survivors_next-requires : goal.survivors_next-requires
survivors_next-requires c =
    let p = c.requires in
    (p.0, p.1 _ (ap meaning c.in_ok-rate.was))
