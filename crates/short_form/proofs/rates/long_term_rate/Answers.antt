-- The product of S and a share, and the rounded quotient, fit the machine's numbers.
use mathlib.Core.Path.{◌≡◌}
use Prim.Native.Nat.{ℕ, ◌≤◌}
use native.Mathlib.Omega.{arith}
use lib.IntN.{ℤ, pos, nat_abs, ◌*ℤ◌}
use mir.Syntax.{w32, w64}
use mir.Val.{to_z, of_z, SFits}
use mir.Facts.{to_z-of_z, to_z_pos, sfits_widen}
use Rattle.arithmetic.proofs.Machine.{sfits-abs, got}
use Rattle.short_form.specs.ShortForm.{long_term_limit, share_of, long_term_of}
use Rattle.short_form.proofs.LongTerm.{share-most, product-size, long-term-size}
use Rattle.short_form.proofs.rates.long_term_rate.Goals as goal

rate-is : (rate : ℤ) → SFits w32 rate → to_z w64 (of_z w64 (to_z w32 (of_z w32 rate))) ≡ rate
rate-is rate f = rw (to_z-of_z f) (to_z-of_z (sfits_widen {w = w32} {w' = w64} tt f))

share-is : (n age : ℕ) → n ≡ share_of age → to_z w64 n ≡ pos (share_of age)
share-is n age e = rw e (to_z_pos w64 (omega (arith, share-most age)))

product-fits : (rate : ℤ) (age : ℕ) → nat_abs rate ≤ long_term_limit → SFits w64 (rate *ℤ pos (share_of age))
product-fits rate age h = sfits-abs (omega (arith, product-size rate age long_term_limit h))

result_fits : (rate : ℤ) (age : ℕ) → nat_abs rate ≤ long_term_limit → SFits w32 (long_term_of rate age)
result_fits rate age h = sfits-abs (omega (arith, long-term-size rate age long_term_limit h))

pub overflow_mul-rate : goal.overflow_mul-rate
overflow_mul-rate c =
    rw (rate-is c.args.rate c.ranges.rate, share-is _ c.args.age c.share.ensures) (product-fits c.args.rate c.args.age (omega arith))

pub round_div-requires : goal.round_div-requires
round_div-requires c =
    let fits = product-fits c.args.rate c.args.age (omega arith) in
    rw (rate-is c.args.rate c.ranges.rate, share-is _ c.args.age c.share.ensures, to_z-of_z fits)
    (omega arith, omega (arith, product-size c.args.rate c.args.age long_term_limit (omega arith)))

pub overflow_cast-result : goal.overflow_cast-result
overflow_cast-result c =
    let fits = product-fits c.args.rate c.args.age (omega arith) in
    let e = rw (rate-is c.args.rate c.ranges.rate, share-is _ c.args.age c.share.ensures, to_z-of_z fits) at c.round_div.ensures in
    rw (got w64 c.round_div.type_inv e) (result_fits c.args.rate c.args.age (omega arith))

pub returns : goal.returns
returns c =
    let fits = product-fits c.args.rate c.args.age (omega arith) in
    let e = rw (rate-is c.args.rate c.ranges.rate, share-is _ c.args.age c.share.ensures, to_z-of_z fits) at c.round_div.ensures in
    rw (got w64 c.round_div.type_inv e) (to_z-of_z (result_fits c.args.rate c.args.age (omega arith)))
