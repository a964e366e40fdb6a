-- What the remainders carry over is at most 2, so that the sum fits and is the integers' own.
use Rattle.std.proofs.Common.{◌≡◌, ◌∙◌, ap, sym, ℕ, ◌≤◌, ◌^◌, arith, ℤ, pos, nat_abs, ◌+ℤ◌, w64, FitsSigned, to_z, of_z}
use mir.Facts.{to_z-of_z, to_z_pos}
use Rattle.arithmetic.proofs.Difference.{nat_abs-add}
use Rattle.arithmetic.proofs.Machine.{sfits-abs}
use Rattle.arithmetic.proofs.Remainders.{round-parts}
use Rattle.arithmetic.proofs.round_sum.Goals as goal

-- two whole parts and what is carried over
module _ (w v : ℤ) (n : ℕ) (h : nat_abs w ≤ 2 ^ 61) (k : nat_abs v ≤ 2 ^ 61) (l : n ≤ 2) where
  w-is : to_z w64 (of_z w64 w) ≡ w
  w-is = to_z-of_z {w = w64} (sfits-abs (omega arith))

  v-is : to_z w64 (of_z w64 v) ≡ v
  v-is = to_z-of_z {w = w64} (sfits-abs (omega arith))

  n-is : to_z w64 n ≡ pos n
  n-is = to_z_pos w64 (omega arith)

  two-fit : FitsSigned w64 (w +ℤ v)
  two-fit = sfits-abs (omega (arith, nat_abs-add w v))

  all_fit : FitsSigned w64 (w +ℤ v +ℤ pos n)
  all_fit = sfits-abs (omega (arith, nat_abs-add (w +ℤ v) (pos n), nat_abs-add w v))

  sum_is : to_z w64 (of_z w64 (to_z w64 (of_z w64 (to_z w64 (of_z w64 w) +ℤ to_z w64 (of_z w64 v))) +ℤ to_z w64 n)) ≡ w +ℤ v +ℤ pos n
  sum_is = rw (w-is, v-is, to_z-of_z two-fit, n-is) (to_z-of_z all_fit)

pub returns : goal.returns
returns c =
    let w = c.args.first.whole in
    let v = c.args.second.whole in
    sum_is w v _ (omega arith) (omega arith) c.round_remainders-carried.ensures.upper_bound
    ∙ ap (λ (z : ℤ). w +ℤ v +ℤ z) c.round_remainders-carried.ensures.value
    ∙ sym (round-parts c.args.first c.args.second (omega arith) (omega arith))
