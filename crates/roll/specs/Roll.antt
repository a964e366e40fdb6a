-- A roll of pensions in payment (02, change 6): who is on it and what their pensions come to, worked out from the list of calls. Nothing
-- here knows how a roll is kept.
use Rattle.std.specs.Prelude.{ℕ, ◌+◌, cond, not, List, [], ◌∷◌, ◌++◌, map, length, ℤ, pos, ◌*ℤ◌, ◌==◌, nat_le, nat_lt, unsigned_abs}
use Rattle.arithmetic.specs.Fraction.{whole, ◌/ᶠ◌, round, U}
use Rattle.outcome.specs.Outcome.{Finding, Outcome, value, refused, refusal, unless, first_of, checked, and_then}
use Rattle.outcome.specs.Refusals.{is_listed}
use Rattle.survivorship.specs.declared.Kind.TheVariants.{Cohort}
use Rattle.enquiry.specs.Enquiry.{annuity_enquiry}

-- ---- "A roll holds up to 500 members: a 4-byte number, an age and a yearly pension of 0 to 10,000,000 pence"
pub record Member : Type 0 where
  pub number : ℕ
  pub age : ℕ
  -- yearly, in pence
  pub pension : ℕ
  -- in whole pence, as it was set at the join
  pub liability : ℕ

abbrev pub numbers_of : List Member → List ℕ
numbers_of members = map (λ m. m.number) members

-- ---- "A member's liability is pension × cohort annuity (deferment 0) / U rounded to whole pence, set at the join from the basis and history
-- lent there"
abbrev pub liability_of : ℕ → ℤ → ℤ
liability_of pension annuity = round (whole (pos pension *ℤ annuity) /ᶠ U)

-- in the valuation year
unfoldable pub liability_on : List ℕ → List ℕ → ℕ → ℕ → ℕ → Outcome ℤ
liability_on run history age year pension = and_then (annuity_enquiry run history Cohort age 0 year) (λ a. value (liability_of pension a))

-- ---- "It refuses a join with the roll full (14), a leave by a number not on it (15) and a join by a number already on it (16), the last
-- tested before 14 and all before any engine refusal, places member number and 0. A pension above the limit is number 5 with the same places,
-- directly after 14." The numbers are those of the members who are on the roll; `is_listed` says whether a number is among them
unfoldable pub join_check : List ℕ → ℕ → ℕ → Finding
join_check numbers number pension =
    first_of (unless (not (is_listed numbers number)) (refusal 16 number 0))
    (first_of (unless (nat_lt (length numbers) 500) (refusal 14 number 0))
    (unless (nat_le pension 10_000_000) (refusal 5 number 0)))

unfoldable pub leave_check : List ℕ → ℕ → Finding
leave_check numbers number = unless (is_listed numbers number) (refusal 15 number 0)

-- what a join comes to: the member's liability, or a refusal
unfoldable pub liability_joining : List ℕ → ℕ → List ℕ → List ℕ → ℕ → ℕ → ℕ → Outcome ℤ
liability_joining numbers year run history number age pension =
    checked (join_check numbers number pension) (liability_on run history age year pension)

-- ---- "Members join and leave in any order, and a place left is usable by the next to join."
-- a join: basis and history lent to it, member number, age, pension; or a leave by a member number
pub data Call : Type 0 where
  joins : List ℕ → List ℕ → ℕ → ℕ → ℕ → Call
  leaves : ℕ → Call

-- no liability is below zero, so its size is the liability itself
abbrev pub member_of : ℕ → ℕ → ℕ → ℤ → Member
member_of number age pension liability = record { number = number; age = age; pension = pension; liability = unsigned_abs liability }

-- the members of another number
abbrev pub others : ℕ → List Member → List Member
others number [] = []
others number (m ∷ ms) = cond (m.number == number) (others number ms) (m ∷ others number ms)

-- the members after a call, or its refusal
unfoldable pub members_by : ℕ → List Member → Call → Outcome (List Member)
members_by year members (joins run history number age pension) =
    and_then (liability_joining (numbers_of members) year run history number age pension) (λ l. value (members ++ member_of number age pension l ∷ []))
members_by year members (leaves number) = checked (leave_check (numbers_of members) number) (value (others number members))

-- "A refused call leaves the roll unchanged."
abbrev pub after_call : {A : Type 0} → A → Outcome A → A
after_call old (value new) = new
after_call old (refused r) = old

-- ---- "the sum for those who joined and have not left, worked out from the list of calls", the first call first
unfoldable pub members_after : ℕ → List Member → List Call → List Member
members_after year members [] = members
members_after year members (call ∷ calls) = members_after year (after_call members (members_by year members call)) calls

abbrev pub added : List ℕ → ℕ
added [] = 0
added (n ∷ ns) = n + added ns

abbrev pub total_of : List Member → ℕ
total_of members = added (map (λ m. m.liability) members)
