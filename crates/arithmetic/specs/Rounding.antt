-- What rounding does (01, "Products and units": "so ties go up"), for any dividend and any divisor above 0; and that `Within` counts in
-- halves of a unit.
use Rattle.std.specs.Prelude.{◌≡◌, ℕ, ◌*◌, ◌≤◌, ◌<◌, ℤ, pos, nat_abs, ◌+ℤ◌, ◌-ℤ◌, ◌*ℤ◌}
use Rattle.arithmetic.specs.Round.{round_div}
use Rattle.arithmetic.specs.Fraction.{whole, Within}

pub record TiesGoUp : Type 0 where
  -- the error of rounding: at most one half, 2 |b r − a| ≤ b
  pub near : (a : ℤ) (b : ℕ) → 0 < b → 2 * nat_abs (pos b *ℤ round_div a b -ℤ a) ≤ b
  -- half way between k and k + 1 it is k + 1
  pub tie : (a k : ℤ) (b : ℕ) → 0 < b → pos 2 *ℤ a ≡ pos b *ℤ (pos 2 *ℤ k +ℤ pos 1) → round_div a b ≡ k +ℤ pos 1

-- 1 is two halves from 0, and not one
pub record HalvesAreHalves : Type 0 where
  pub two : Within (pos 1) (whole (pos 0)) 2
  pub not_one : Within (pos 1) (whole (pos 0)) 1 → ⊥
