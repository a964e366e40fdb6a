-- The position at a start, and the one of a step more. Assumes nothing.
use Rattle.std.proofs.Common.{◌≡◌, ℕ, ◌+◌, List, refl, add-one}
use Rattle.lifeline.specs.Lifeline.{start_at, step_at, position_after}

pub no_step : (run history : List ℕ) (age year : ℕ) → position_after run history age year 0 ≡ (start_at run history age year).position
unfolding position_after
no_step run history age year = refl

pub one_step_more : (run history : List ℕ) (age year n : ℕ)
    → position_after run history age year (n + 1) ≡ (step_at run history (position_after run history age year n)).position
unfolding position_after
one_step_more run history age year n = rw add-one refl
