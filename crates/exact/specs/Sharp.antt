-- What keeps demand 3 as sharp as it reads: a quarter of a unit is a quarter, K is one of the k, and the distances by r are change 3's. (WorseRun.antt has the premise.)
use Rattle.std.specs.Prelude.{◌≡◌, ℕ, ◌+◌, ◌*◌, ◌<◌, pos}
use Rattle.arithmetic.specs.Fraction.{whole}
use Rattle.arithmetic.specs.Rounding.{HalvesAreHalves}
use Rattle.basis.specs.Basis.{Basis}
use Rattle.exact.specs.Distance.{largest, rate_distance, survivors_distance, expectation_distance, annuity_distance, WithinQuarters}

-- ---- 1 is four quarters from 0, and not three
pub record QuartersAreQuarters : Type 0 where
  pub four : WithinQuarters (pos 1) (whole (pos 0)) 4
  pub not_three : WithinQuarters (pos 1) (whole (pos 0)) 3 → ⊥

-- ---- K is the largest k among the rates used, 0 if none
pub record LargestIsReached (k : ℕ → ℕ) : Type 0 where
  pub none : largest k 0 ≡ 0
  pub reached : (n : ℕ) → 0 < n → (j : ℕ) × (j < n) × (largest k n ≡ k j)

-- ---- the distances of change 3 (02), where r is 2K + 1
pub record DistancesByYears (b : Basis) : Type 0 where
  pub rate : (k : ℕ) → rate_distance b k ≡ 2 * k + 1
  pub survivorship : (n K : ℕ) → survivors_distance n (rate_distance b K) ≡ 2 * n * (K + 1)
  pub expectation : (N K : ℕ) → expectation_distance N (rate_distance b K) ≡ 2 * N * (N + 1) * (K + 1)
  pub annuity : (N K : ℕ) → annuity_distance N (rate_distance b K) ≡ (N + 1) * (N * (2 * K + 3) + 2)

-- ---- all of it, with halves that are halves
pub record DistancesAreSharp (b : Basis) : Type 0 where
  pub halves : HalvesAreHalves
  pub quarters : QuartersAreQuarters
  pub largest_years : (k : ℕ → ℕ) → LargestIsReached k
  pub by_years : DistancesByYears b
