-- How a lent list of 131 numbers of 4 bytes encodes a state of the sweep: no factor is above 4 × U, and the numbers above it stand for refusals.
use Rattle.std.specs.Prelude.{◌≡◌, cond, List, ℕ, ◌+◌, ◌*◌, ◌-◌, ◌/◌, ◌%◌, ◌<◌, leb, ℤ, pos, length, get_or}
use Rattle.outcome.specs.Outcome.{Outcome, value, refused, refusal}
use Rattle.sweep.specs.Sweep.{State}

-- the number of a refusal that is given in a year
abbrev pub refused_number : ℕ → ℕ → ℕ
refused_number number year = 4_000_000_000 + (10_000 * number + year)

-- what a number stands for at an age
unfoldable pub decoded : ℕ → ℕ → Outcome ℤ
decoded age n =
    cond (leb n 4_000_000_000)
    (value (pos n))
    (refused (refusal ((n - 4_000_000_000) / 10_000) age ((n - 4_000_000_000) % 10_000)))

-- the state that a list of numbers encodes, from age 20 on
abbrev pub state_in : List ℕ → State
state_in numbers age = decoded age (get_or numbers (age - 20) 0)

-- a list of numbers encodes a state: one number for each age from 20 to 150
pub record Encodes (numbers : List ℕ) (state : State) : Type 0 where
  pub size : length numbers ≡ 131
  pub each : (i : ℕ) → i < 131 → decoded (20 + i) (get_or numbers i 0) ≡ state (20 + i)
