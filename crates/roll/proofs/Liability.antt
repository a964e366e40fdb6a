-- A liability is a natural number of pence, and at most 5,240,000,000 of them: an annuity is at most 131 payments of 4 each. Assumes nothing.
use Rattle.std.proofs.Common.{◌≡◌, ℕ, ◌*◌, ◌≤◌, List, ℤ, pos, nat_abs, refl, mul-le-mul, arith}
use Rattle.arithmetic.specs.Fraction.{U}
use Rattle.arithmetic.proofs.Rounding.{round-abs-le}
use Rattle.outcome.specs.Outcome.{Outcome, value, refused, and_then}
use Rattle.survivorship.specs.declared.Kind.TheVariants.{Cohort}
use Rattle.enquiry.specs.Enquiry.{annuity_enquiry}
use Rattle.enquiry.proofs.Bounded.{annuity-bounded}
use Rattle.roll.specs.Roll.{liability_of, liability_on, liability_joining}
use Rattle.roll.proofs.Cases.{MayJoin, own_value}

-- the annuity that is answered is small enough for the product
pub annuity_small : (run history : List ℕ) (age year a : ℕ) → annuity_enquiry run history Cohort age 0 year ≡ value (pos a) → a ≤ 524_000_000_000
annuity_small run history age year a h =
    let n = annuity-bounded run history Cohort age 0 year (pos a) h in
    let e : a ≡ n.0 = cc in
    omega (arith, e, n.2)

-- the largest liability
abbrev pub largest : ℕ
largest = 5_240_000_000

liability-small : (pension n : ℕ) → pension ≤ 10_000_000 → n ≤ 524_000_000_000 → nat_abs (liability_of pension (pos n)) ≤ largest
liability-small pension n h k =
    round-abs-le (pos (pension * n)) U largest (omega arith) (omega (arith, mul-le-mul {n₂ = 10_000_000} {m₂ = 524_000_000_000} h k))

pub liability-value : (run history : List ℕ) (year age pension : ℕ) (l : ℤ) → pension ≤ 10_000_000
    → liability_on run history age year pension ≡ value l → (l ≡ pos (nat_abs l)) × (nat_abs l ≤ largest)
unfolding liability_on
liability-value run history year age pension l small h = by (annuity_enquiry run history Cohort age 0 year) refl h
  where
    by : (o : Outcome ℤ) → annuity_enquiry run history Cohort age 0 year ≡ o → and_then o (λ a. value (liability_of pension a)) ≡ value l
        → (l ≡ pos (nat_abs l)) × (nat_abs l ≤ largest)
    by (value a) e k =
        let b = annuity-bounded run history Cohort age 0 year a e in
        let r : liability_of pension a ≡ l = cc in
        let s = rw b.1 at r in
        (rw (← s) refl, rw (← s) (liability-small pension b.0 small b.2))
    by (refused r) e k = let z : ◌≡◌ {A = ℕ} 0 1 = cc in absurd (omega arith)

-- what a join that has a value says
pub join-value : (numbers : List ℕ) (year : ℕ) (run history : List ℕ) (number age pension : ℕ) (l : ℤ)
    → liability_joining numbers year run history number age pension ≡ value l
    → MayJoin numbers number pension × (l ≡ pos (nat_abs l)) × (nat_abs l ≤ largest)
join-value numbers year run history number age pension l h =
    let p = own_value numbers year run history number age pension l h in
    let v = liability-value run history year age pension l p.0.limited p.1 in
    (p.0, v.0, v.1)
