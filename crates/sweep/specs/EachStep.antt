-- What changes 5 and 9 say of the sweep (02), as one statement over every number of steps: after each of them, from its start in B on, it holds for
-- each age the direct engine's factor of that year, at the latest of the year of the birth year 2110, or that age's first refusal up to then.
use Rattle.std.specs.Prelude.{◌≡◌, List, ℕ, suc, ◌+◌, ◌≤◌, ◌<◌, length}
use Rattle.outcome.specs.declared.Refusal.{Refusal}
use Rattle.outcome.specs.Outcome.{passed, refused}
use Rattle.history.specs.History.{basis_with, run_and_history_check}
use Rattle.projection.specs.Projection.{factor_of}
use Rattle.sweep.specs.Sweep.{swept_year, sweep_start, sweep_step}
use Rattle.sweep.specs.Encoding.{state_in, Encodes}

-- the lists of numbers that n steps go through: the first is what the contract of `start` gives, and each later one what that of `step` leaves
-- of the one before it, in the years B, B + 1 and so on
pub record Swept (run history : List ℕ) (lists : ℕ → List ℕ) (n : ℕ) : Type 0 where
  pub started : Encodes (lists 0) sweep_start
  pub stepped : (k : ℕ) → k < n → Encodes (lists (suc k)) (sweep_step (basis_with run history) ((basis_with run history).base + k) (state_in (lists k)))

pub record EachStep (run history : List ℕ) : Type 0 where
  -- on an accepted basis and history, after k steps, at each age
  pub factor : run_and_history_check run history ≡ passed → (lists : ℕ → List ℕ) (n : ℕ) → Swept run history lists n →
      (k : ℕ) → k ≤ n → (age : ℕ) → 20 ≤ age → age ≤ 150 →
      state_in (lists k) age ≡ factor_of (basis_with run history) age (swept_year age ((basis_with run history).base + k))
  -- that year is the lesser of the year and 2110 + age: age 20 has 2130 for its last, age 149 has 2259
  pub up_to : (age year : ℕ) → year ≤ 2110 + age → swept_year age year ≡ year
  pub last : (age year : ℕ) → 2110 + age ≤ year → swept_year age year ≡ 2110 + age
  -- the first refusal of an age stands after every further step
  pub first : (lists : ℕ → List ℕ) (n : ℕ) → Swept run history lists n →
      (j k : ℕ) → j ≤ k → k ≤ n → (age : ℕ) → 20 ≤ age → age ≤ 150 → (r : Refusal) → state_in (lists j) age ≡ refused r
      → state_in (lists k) age ≡ refused r
  -- what a step needs of the list that it is lent
  pub size : (lists : ℕ → List ℕ) (n : ℕ) → Swept run history lists n → (k : ℕ) → k ≤ n → length (lists k) ≡ 131
