-- Demand 3 is as sharp as it reads, by computation and by induction over the k. Assumes nothing.
use mathlib.Core.Path.{◌≡◌, refl}
use mathlib.Core.Bool.{cond}
use Prim.Native.Nat.{ℕ, zero, suc, ◌≤◌, ◌<◌}
use native.Mathlib.Nat.{not-suc-le-zero}
use native.Mathlib.Decide.{dec_lt}
use native.Mathlib.Omega.{arith}
use lib.Dec.{ltb}
use borrow.Author.Tests.{lt-ltb, le-ltb}
use Rattle.arithmetic.proofs.Distance.{halves-are-halves}
use Rattle.basis.specs.Basis.{Basis}
use Rattle.exact.specs.Distance.{largest}
use Rattle.exact.specs.Sharp.{QuartersAreQuarters, LargestIsReached, DistancesByYears, DistancesAreSharp}

pub quarters-are-quarters : QuartersAreQuarters
quarters-are-quarters =
    record {
      four = record { proper = omega arith; near = omega arith };
      not_three = λ w. let h : 4 ≤ 3 = w.near in omega arith;
    }

-- ---- K
reached-next : (k : ℕ → ℕ) (n : ℕ) → ((j : ℕ) × (j < n) × (largest k n ≡ k j)) → (j : ℕ) × (j < suc n) × (largest k (suc n) ≡ k j)
unfolding largest
reached-next k n p = by (dec_lt (largest k n) (k n))
  where
    by : Dec (largest k n < k n) → (j : ℕ) × (j < suc n) × (cond (ltb (largest k n) (k n)) (k n) (largest k n) ≡ k j)
    by (yes l) = (n, omega arith, rw (lt-ltb (largest k n) (k n) l) refl)
    by (no l) = (p.0, omega (arith, p.1), rw (le-ltb (largest k n) (k n) (omega arith)) p.2)

reached-first : (k : ℕ → ℕ) → largest k 0 ≡ 0 → largest k 1 ≡ k 0
unfolding largest
reached-first k e = by (dec_lt (largest k 0) (k 0))
  where
    by : Dec (largest k 0 < k 0) → cond (ltb (largest k 0) (k 0)) (k 0) (largest k 0) ≡ k 0
    by (yes l) = rw (lt-ltb (largest k 0) (k 0) l)
    by (no l) = rw (le-ltb (largest k 0) (k 0) (omega arith)) (omega (arith, e))

reached-all : (k : ℕ → ℕ) → largest k 0 ≡ 0 → (n : ℕ) → (j : ℕ) × (j < suc n) × (largest k (suc n) ≡ k j)
reached-all k e zero = (0, omega arith, reached-first k e)
reached-all k e (suc n) = reached-next k (suc n) (reached-all k e n)

pub largest-is-reached : (k : ℕ → ℕ) → LargestIsReached k
unfolding largest
largest-is-reached k = record { none = refl; reached = reached }
  where
    reached : (n : ℕ) → 0 < n → (j : ℕ) × (j < n) × (largest k n ≡ k j)
    reached zero h = absurd (not-suc-le-zero h)
    reached (suc n) h = reached-all k refl n

-- ---- the distances
pub distances-by-years : (b : Basis) → DistancesByYears b
distances-by-years b =
    record {
      rate = λ k. refl;
      survivorship = λ n K. omega arith;
      expectation = λ N K. omega arith;
      annuity = λ N K. omega arith;
    }

pub distances-are-sharp : (b : Basis) → DistancesAreSharp b
distances-are-sharp b =
    record { halves = halves-are-halves; quarters = quarters-are-quarters; largest_years = largest-is-reached; by_years = distances-by-years b }
