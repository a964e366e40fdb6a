-- The largest of the first n is no less than each of them. Assumes nothing.
use mathlib.Core.Path.{◌≡◌}
use mathlib.Core.Bool.{cond}
use Prim.Native.Nat.{ℕ, zero, suc, ◌≤◌, ◌<◌}
use native.Mathlib.Nat.{not-suc-le-zero}
use native.Mathlib.Decide.{dec_lt}
use native.Mathlib.Omega.{arith}
use lib.Dec.{ltb}
use borrow.Author.Tests.{lt-ltb, le-ltb}
use Rattle.exact.specs.Distance.{largest}

grows : (f : ℕ → ℕ) (n : ℕ) → (f n ≤ largest f (suc n)) × (largest f n ≤ largest f (suc n))
unfolding largest
grows f n = by (dec_lt (largest f n) (f n))
  where
    by : Dec (largest f n < f n) → (f n ≤ cond (ltb (largest f n) (f n)) (f n) (largest f n)) × (largest f n ≤ cond (ltb (largest f n) (f n)) (f n) (largest f n))
    by (yes l) = rw (lt-ltb (largest f n) (f n) l) (omega arith)
    by (no l) = rw (le-ltb (largest f n) (f n) (omega arith)) (omega arith)

pub largest-most : (f : ℕ → ℕ) (n j : ℕ) → j < n → f j ≤ largest f n
largest-most f zero j l = absurd (not-suc-le-zero l)
largest-most f (suc n) j l = by (dec_lt j n) (λ m. largest-most f n j m)
  where
    by : Dec (j < n) → (j < n → f j ≤ largest f n) → f j ≤ largest f (suc n)
    by (yes m) h = omega (arith, h m, (grows f n).1)
    by (no m) h = let e : j ≡ n = omega arith in rw e (grows f n).0
