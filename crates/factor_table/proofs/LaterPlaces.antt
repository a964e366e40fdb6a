-- Where the years from 2130 on stand: each begins where the one before it ends, and the last ends with the 4,356th number. Assumes nothing.
use mathlib.Core.Path.{◌≡◌}
use Prim.Native.Nat.{ℕ, zero, suc, ◌+◌, ◌*◌, ◌-◌, ◌≤◌, ◌<◌}
use native.Mathlib.Decide.{dec_lt}
use native.Mathlib.Nat.{mul-le-mul_right}
use native.Mathlib.Omega.{arith}
use Rattle.factor_table.specs.FactorTable.{later_ages, later_at}

-- m² is below 132m
pub square-below : (m : ℕ) → m ≤ 132 → m * m ≤ 132 * m
square-below m h = mul-le-mul_right m h

pub later-next : (m : ℕ) → m < 66 → later_at (suc m) ≡ later_at m + later_ages m
later-next m h = omega (arith, square-below m (omega arith))

-- a year ends before any later one begins
pub ends-before : (m d : ℕ) → m + suc d ≤ 66 → later_at m + later_ages m ≤ later_at (m + suc d)
ends-before m zero h = let e : m + 1 ≡ suc m = omega arith in rw e (omega (arith, later-next m (omega arith)))
ends-before m (suc d) h =
    let e : m + suc (suc d) ≡ suc (m + suc d) = omega arith in
    rw e (omega (arith, later-next (m + suc d) (omega arith), ends-before m d (omega arith)))

pub before-later : (m n : ℕ) → m < n → n ≤ 66 → later_at m + later_ages m ≤ later_at n
before-later m n h k = let e : m + suc (n - suc m) ≡ n = omega arith in rw e at (ends-before m (n - suc m) (omega arith))

-- and all end by the 4,356th number
pub ends-in-time : (m : ℕ) → m < 66 → later_at m + later_ages m ≤ 4356
ends-in-time m h = before-later m 66 h (omega arith)

-- every place before the n-th year is one of an earlier year
pub place_found : (n p : ℕ) → n ≤ 66 → p < later_at n → (m : ℕ) × (i : ℕ) × (m < n) × (i < later_ages m) × (later_at m + i ≡ p)
place_found zero p h l = absurd (omega arith)
place_found (suc n) p h l = by (dec_lt p (later_at n)) (place_found n p (omega arith))
  where
    by : Dec (p < later_at n) → (p < later_at n → (m : ℕ) × (i : ℕ) × (m < n) × (i < later_ages m) × (later_at m + i ≡ p)) →
        (m : ℕ) × (i : ℕ) × (m < suc n) × (i < later_ages m) × (later_at m + i ≡ p)
    by (yes q) earlier = let f = earlier q in (f.0, f.1, omega (arith, f.2), f.3, f.4)
    by (no q) earlier = (n, p - later_at n, omega arith, omega (arith, later-next n (omega arith)), omega arith)
