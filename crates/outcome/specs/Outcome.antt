-- Checks, and work that can be refused (01, "Who can cause a refusal"): the first refusal in the order decides.
use Rattle.std.specs.Prelude.{ℕ, zero, suc, Bool, true, false, cond, ℤ, pos, ◌+ℤ◌, Result, Ok, Err}
use Rattle.outcome.specs.declared.Refusal.{Refusal}

-- a refusal is a number and two places
abbrev pub refusal : ℕ → ℕ → ℕ → Refusal
refusal number first second = record { number = number; first = first; second = second }

-- number 0 with places 0 stands for none, in records and for C
abbrev pub no_refusal : Refusal
no_refusal = refusal 0 0 0

-- ---- checks
-- what a check finds: nothing to refuse, or a refusal
pub data Finding : Type 0 where
  passed : Finding
  refused_by : Refusal → Finding

-- what has to hold, and the refusal where it does not
abbrev pub unless : Bool → Refusal → Finding
unless ok r = cond ok passed (refused_by r)

-- whether a check refuses nothing
abbrev pub passes : Finding → Bool
passes passed = true
passes (refused_by r) = false

-- the first refusal of two checks
abbrev pub first_of : Finding → Finding → Finding
first_of passed next = next
first_of (refused_by r) next = refused_by r

-- ---- work
pub data Outcome (A : Type 0) : Type 0 where
  value : A → Outcome A
  refused : Refusal → Outcome A

-- work that follows a check
abbrev pub checked : {A : Type 0} → Finding → Outcome A → Outcome A
checked passed work = work
checked (refused_by r) work = refused r

-- work that takes what the work before it gave
abbrev pub and_then : {A B : Type 0} → Outcome A → (A → Outcome B) → Outcome B
and_then (value a) next = next a
and_then (refused r) next = refused r

-- k steps from a start; each takes what the steps before it gave
unfoldable pub steps : {A : Type 0} → (ℕ → A → Outcome A) → A → ℕ → Outcome A
steps step start zero = value start
steps step start (suc k) = and_then (steps step start k) (step k)

-- the sum of the first n terms, each worked out in its turn
abbrev pub add_to : (ℕ → Outcome ℤ) → ℕ → ℤ → Outcome ℤ
add_to term k total = and_then (term k) (λ t. value (total +ℤ t))

unfoldable pub sum_of : (ℕ → Outcome ℤ) → ℕ → Outcome ℤ
sum_of term n = steps (add_to term) (pos 0) n

-- ---- what an answer of the engine stands for, in each of its cases
abbrev pub finding : Result (Unit {0}) Refusal → Finding
finding (Ok _) = passed
finding (Err r) = refused_by r

abbrev pub meaning : Result ℕ Refusal → Outcome ℤ
meaning (Ok n) = value (pos n)
meaning (Err r) = refused r

abbrev pub signed_meaning : Result ℤ Refusal → Outcome ℤ
signed_meaning (Ok i) = value i
signed_meaning (Err r) = refused r
