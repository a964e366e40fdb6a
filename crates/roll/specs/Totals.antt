-- The running total (02, change 6): "After each call on a roll so opened and changed by these calls alone, the total is the sum for those who
-- joined and have not left, worked out from the list of calls."
use Rattle.std.specs.Prelude.{◌≡◌, ℕ, ◌*◌, ◌^◌, ◌<◌, ◌≤◌, List, [], map, length, drop, pos}
use Rattle.outcome.specs.Outcome.{value, and_then}
use Rattle.roll.specs.Roll.{Member, numbers_of, total_of, Call, leaves, members_by, after_call, members_after}
use Rattle.roll.specs.Kept.{year_in, numbers_in, ages_in, pensions_in, liabilities_in, opened_roll, total_said, total_answer, roll_by, roll_after}

-- a roll after some calls, and those who joined by them and have not left
pub record Stands (year : ℕ) (roll : List ℕ) (members : List Member) : Type 0 where
  -- "the total is the sum for those who joined and have not left"
  pub total : total_answer roll ≡ value (pos (total_of members))
  -- and so is what each further call says, or it is refused as their numbers, the year and the engine say
  pub says : (call : Call) → total_said (roll_by roll call) ≡ and_then (members_by year members call) (λ after. value (pos (total_of after)))
  -- the host finds them in the list in the order of joining
  pub valuation_year : year_in roll ≡ year
  pub numbers : numbers_in roll ≡ numbers_of members
  pub ages : ages_in roll ≡ map (λ m. m.age) members
  pub pensions : pensions_in roll ≡ map (λ m. m.pension) members
  pub liabilities : liabilities_in roll ≡ map (λ m. m.liability) members
  -- "a place left is usable by the next to join": after a leave there are fewer than 500
  pub freed : (number : ℕ) (after : List Member) → members_by year members (leaves number) ≡ value after → length after < 500
  -- at most 500, each with at most 10,000,000 pence × 131 payments of at most 4: all of it fits in 64 bits
  pub count : length members ≤ 500
  pub fits : total_of members ≤ length members * 5_240_000_000

-- for every year, every list that is lent, whatever stands in it, and every list of calls once it is opened, so after each of them
pub record RunningTotal : Type 0 where
  pub stands : (year : ℕ) (lent : List ℕ) (calls : List Call) → year < 2 ^ 32 → 2002 ≤ length lent →
      Stands year (roll_after (after_call lent (opened_roll year lent)) calls) (members_after year [] calls)

-- what the host keeps behind a roll is left alone, whatever stands in the list and however short it is
pub record FurtherKept : Type 0 where
  pub by_opening : (year : ℕ) (lent : List ℕ) → drop 2002 (after_call lent (opened_roll year lent)) ≡ drop 2002 lent
  pub by_calls : (roll : List ℕ) (calls : List Call) → drop 2002 (roll_after roll calls) ≡ drop 2002 roll
