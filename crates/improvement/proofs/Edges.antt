-- Where 9 begins: a number is at most 500,000,000 when it is rounded exactly if it is below 500,000,000.5, and at least −500,000,000 exactly
-- if it is not below −500,000,000.5. Assumes nothing.
use Prim.Native.Nat.{ℕ, suc, ◌*◌, ◌≤◌, ◌<◌}
use native.Mathlib.Decide.{dec_lt}
use native.Mathlib.Nat.{mul-le-mul_left}
use native.Mathlib.Omega.{arith}
use lib.IntN.{ℤ, pos, negsuc, nat_abs, ◌+ℤ◌, ◌*ℤ◌}
use lib.Signed.{◌≤ℤ◌, ◌<ℤ◌}
use borrow.Author.Tests.{le-leb}
use Rattle.arithmetic.specs.Fraction.{round}
use Rattle.arithmetic.proofs.Difference.{parts, ring, ⊖-≤, ≤-⊖, ⊖-<, <-⊖}
use Rattle.arithmetic.proofs.Rounding.{round-low, round-high}
use Rattle.improvement.specs.Improvement.{improvement_limit}
use Rattle.improvement.specs.Answered.{Edges}
use Rattle.improvement.proofs.Cases.{usable-abs}

-- a whole number r of which 2b r ≤ 2a + b < 2b r + 2b, as the rounded one is
module _ (a : ℤ) (b : ℕ) where
  abbrev Low : ℤ → Type 0
  Low r = (pos (2 * b) *ℤ r) ≤ℤ (pos 2 *ℤ a +ℤ pos b)

  abbrev High : ℤ → Type 0
  High r = (pos 2 *ℤ a +ℤ pos b) <ℤ (pos (2 * b) *ℤ r +ℤ pos (2 * b))

  abbrev Least : Type 0
  Least = (negsuc 1_000_000_000 *ℤ pos b) ≤ℤ (pos 2 *ℤ a)

  abbrev Below : Type 0
  Below = (pos 2 *ℤ a) <ℤ (pos 1_000_000_001 *ℤ pos b)

  inside : Least → Below → (r : ℤ) → Low r → High r → nat_abs r ≤ 500_000_000
  inside least below (pos n) low high = by (dec_lt 500_000_000 n)
    where
      by : Dec (500_000_000 < n) → n ≤ 500_000_000
      by (no l) = omega arith
      by (yes l) =
          let g = <-⊖ _ _ _ _ (simp ring at (rw (parts a) at below)) in
          let k = ≤-⊖ _ _ _ _ (simp ring at (rw (parts a) at low)) in
          let m : b * 500_000_001 ≤ b * n = mul-le-mul_left b l in
          absurd (omega arith)
  inside least below (negsuc n) low high = by (dec_lt 500_000_000 (suc n))
    where
      by : Dec (500_000_000 < suc n) → suc n ≤ 500_000_000
      by (no l) = omega arith
      by (yes l) =
          let g = ≤-⊖ _ _ _ _ (simp ring at (rw (parts a) at least)) in
          let k = <-⊖ _ _ _ _ (simp ring at (rw (parts a) at high)) in
          let m : b * 500_000_001 ≤ b * suc n = mul-le-mul_left b l in
          absurd (omega arith)

  least-of : (r : ℤ) → nat_abs r ≤ 500_000_000 → Low r → Least
  least-of (pos n) small low =
      let k = ≤-⊖ _ _ _ _ (simp ring at (rw (parts a) at low)) in
      rw (parts a) (simp ring (⊖-≤ _ _ _ _ (omega arith)))
  least-of (negsuc n) small low =
      let k = ≤-⊖ _ _ _ _ (simp ring at (rw (parts a) at low)) in
      let m : b * suc n ≤ b * 500_000_000 = mul-le-mul_left b small in
      rw (parts a) (simp ring (⊖-≤ _ _ _ _ (omega arith)))

  below_of : (r : ℤ) → nat_abs r ≤ 500_000_000 → High r → Below
  below_of (pos n) small high =
      let k = <-⊖ _ _ _ _ (simp ring at (rw (parts a) at high)) in
      let m : b * n ≤ b * 500_000_000 = mul-le-mul_left b small in
      rw (parts a) (simp ring (⊖-< _ _ _ _ (omega arith)))
  below_of (negsuc n) small high =
      let k = <-⊖ _ _ _ _ (simp ring at (rw (parts a) at high)) in
      rw (parts a) (simp ring (⊖-< _ _ _ _ (omega arith)))

pub edges : Edges
edges =
    record {
      stands = λ q h w.
          le-leb (nat_abs (round q)) improvement_limit
          (inside q.num q.den w.least w.below (round q) (round-low q.num q.den h) (round-high q.num q.den h));
      no_other = λ q h u.
          let small = usable-abs (round q) u in
          record {
            least = least-of q.num q.den (round q) small (round-low q.num q.den h);
            below = below_of q.num q.den (round q) small (round-high q.num q.den h);
          };
    }
