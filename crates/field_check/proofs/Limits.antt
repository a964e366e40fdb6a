-- A number is between its limits exactly if the test says so. Assumes nothing.
use mathlib.Core.Path.{◌≡◌, refl}
use mathlib.Core.Bool.{Bool, true, false, ◌&&◌}
use Prim.Native.Nat.{ℕ, suc, ◌≤◌}
use native.Mathlib.Omega.{arith}
use lib.Dec.{T}
use lib.IntN.{ℤ, pos, negsuc, nat_abs}
use lib.Signed.{◌≤ℤ◌, le_z}
use Rattle.arithmetic.proofs.Difference.{≤-parts, parts-≤}
use Rattle.field_check.specs.Field.{between}

pub record Between (low n high : ℤ) : Type 0 where
  pub least : low ≤ℤ n
  pub most : n ≤ℤ high

is_true : (b : Bool) → T b → b ≡ true
is_true true t = refl
is_true false t = absurd t

pub opened : (low high n : ℤ) → between low high n ≡ true → Between low n high
opened low high n h = by (le_z low n) refl (le_z n high) refl h
  where
    by : (s : Bool) → le_z low n ≡ s → (t : Bool) → le_z n high ≡ t → (s && t) ≡ true → Between low n high
    by true p true q k = record { least = record { le = rw p tt }; most = record { le = rw q tt } }
    by true p false q k = let z : ◌≡◌ {A = ℕ} 0 1 = cc in absurd (omega arith)
    by false p t q k = let z : ◌≡◌ {A = ℕ} 0 1 = cc in absurd (omega arith)

pub closed : (low high n : ℤ) → Between low n high → between low high n ≡ true
closed low high n b = rw (is_true (le_z low n) b.least.le, is_true (le_z n high) b.most.le) refl

-- limits that are natural numbers, and limits of a size, each way
pub least : {l n h : ℕ} → Between (pos l) (pos n) (pos h) → l ≤ n
least b = omega (arith, ≤-parts b.least)

pub most : {l n h : ℕ} → Between (pos l) (pos n) (pos h) → n ≤ h
most b = omega (arith, ≤-parts b.most)

pub natural : {l n h : ℕ} → l ≤ n → n ≤ h → Between (pos l) (pos n) (pos h)
natural {l} {n} {h} a b = record { least = parts-≤ (pos l) (pos n) (omega arith); most = parts-≤ (pos n) (pos h) (omega arith) }

pub size : (m : ℕ) (z : ℤ) → Between (negsuc m) z (pos (suc m)) → nat_abs z ≤ suc m
size m (pos n) b = omega (arith, ≤-parts b.most)
size m (negsuc n) b = omega (arith, ≤-parts b.least)

pub sized : (m : ℕ) (z : ℤ) → nat_abs z ≤ suc m → Between (negsuc m) z (pos (suc m))
sized m (pos n) h = record { least = parts-≤ (negsuc m) (pos n) (omega arith); most = parts-≤ (pos n) (pos (suc m)) (omega arith) }
sized m (negsuc n) h = record { least = parts-≤ (negsuc m) (negsuc n) (omega arith); most = parts-≤ (negsuc n) (pos (suc m)) (omega arith) }
