-- What refuses by numbers of a list, part by part, does so as a whole: one law for each way of putting checks and work together, whatever
-- the list. Assumes nothing.
use mathlib.Core.Path.{◌≡◌, refl}
use mathlib.Core.Bool.{Bool, true, false, cond, ◌&&◌, ◌||◌, false≢true}
use mathlib.Core.Logic.{◌⊎◌, inl, inr}
use mathlib.Core.List.{List, [], ◌∷◌}
use Prim.Native.Nat.{ℕ, zero, suc, ◌<◌}
use native.Mathlib.Omega.{arith}
use native.Mathlib.Decide.{dec_lt}
use lib.Dec.{eqb}
use borrow.Author.Tests.{eqb-true}
use lib.IntN.{ℤ, pos, ◌+ℤ◌}
use Rattle.outcome.specs.declared.Refusal.{Refusal}
use Rattle.outcome.specs.Outcome.{Finding, passed, refused_by, Outcome, value, refused, unless, first_of, checked, and_then, steps, sum_of}
use Rattle.outcome.specs.Refusals.{numbers, record_numbers, is_listed, Listed, RefusesBy, RefusedBy}

module _ {ns : List ℕ} where
  -- ---- checks
  pub passed-by : RefusesBy ns passed
  passed-by = record { listed = λ r h. let z : ◌≡◌ {A = ℕ} 0 1 = cc in absurd (omega arith) }

  pub refused-by : (q : Refusal) → Listed ns q.number → RefusesBy ns (refused_by q)
  refused-by q l = record { listed = λ r h. let e : q ≡ r = cc in rw (← e) l }

  pub unless-by : (ok : Bool) (q : Refusal) → Listed ns q.number → RefusesBy ns (unless ok q)
  unless-by true q l = passed-by
  unless-by false q l = refused-by q l

  pub cond-by : (t : Bool) {check other : Finding} → RefusesBy ns check → RefusesBy ns other → RefusesBy ns (cond t check other)
  cond-by true p q = p
  cond-by false p q = q

  pub first_by : {first next : Finding} → RefusesBy ns first → RefusesBy ns next → RefusesBy ns (first_of first next)
  first_by {first} {next} p q = by first p
    where
      by : (c : Finding) → RefusesBy ns c → RefusesBy ns (first_of c next)
      by passed p = q
      by (refused_by r) p = p

  -- ---- work
  pub value-by : {A : Type 0} (a : A) → RefusedBy ns (value a)
  value-by a = record { listed = λ r h. let z : ◌≡◌ {A = ℕ} 0 1 = cc in absurd (omega arith) }

  pub work-by : {A : Type 0} (q : Refusal) → Listed ns q.number → RefusedBy {A = A} ns (refused q)
  work-by q l = record { listed = λ r h. let e : q ≡ r = cc in rw (← e) l }

  pub work-cond-by : {A : Type 0} (t : Bool) {work other : Outcome A} → RefusedBy ns work → RefusedBy ns other → RefusedBy ns (cond t work other)
  work-cond-by true p q = p
  work-cond-by false p q = q

  pub checked-by : {A : Type 0} {check : Finding} {work : Outcome A} → RefusesBy ns check → RefusedBy ns work → RefusedBy ns (checked check work)
  checked-by {A} {check} {work} p q = by check p
    where
      by : (c : Finding) → RefusesBy ns c → RefusedBy ns (checked c work)
      by passed p = q
      by (refused_by r) p = work-by r (p.listed r refl)

  pub then_by : {A B : Type 0} {work : Outcome A} {next : A → Outcome B} → RefusedBy ns work → ((a : A) → RefusedBy ns (next a)) → RefusedBy ns (and_then work next)
  then_by {A} {B} {work} {next} p q = by work p
    where
      by : (o : Outcome A) → RefusedBy ns o → RefusedBy ns (and_then o next)
      by (value a) p = q a
      by (refused r) p = work-by r (p.listed r refl)

  pub steps-by : {A : Type 0} {step : ℕ → A → Outcome A} (start : A) (n : ℕ) → ((k : ℕ) (a : A) → RefusedBy ns (step k a)) → RefusedBy ns (steps step start n)
  unfolding steps
  steps-by start zero p = value-by start
  steps-by start (suc n) p = then_by (steps-by start n p) (p n)

  pub sum_by : {term : ℕ → Outcome ℤ} (n : ℕ) → ((k : ℕ) → RefusedBy ns (term k)) → RefusedBy ns (sum_of term n)
  unfolding sum_of
  sum_by n p = steps-by (pos 0) n (λ k total. then_by (p k) (λ t. value-by (total +ℤ t)))

-- ---- from a list to a longer one
abbrev pub Among : List ℕ → List ℕ → Type 0
Among ns ms = (n : ℕ) → Listed ns n → Listed ms n

module _ {ns ms : List ℕ} (among : Among ns ms) where
  pub check-among : {check : Finding} → RefusesBy ns check → RefusesBy ms check
  check-among p = record { listed = λ r h. among r.number (p.listed r h) }

  pub work-among : {A : Type 0} {work : Outcome A} → RefusedBy ns work → RefusedBy ms work
  work-among p = record { listed = λ r h. among r.number (p.listed r h) }

or_cases : (a b : Bool) → (a || b) ≡ true → (a ≡ true) ⊎ (b ≡ true)
or_cases true b h = inl refl
or_cases false b h = inr h

and_parts : (a b : Bool) → (a && b) ≡ true → (a ≡ true) × (b ≡ true)
and_parts true b h = (refl, h)
and_parts false b h = absurd (false≢true h)

-- each of a list is in another: looked at one by one
unfoldable is_included : List ℕ → List ℕ → Bool
is_included [] ms = true
is_included (m ∷ ns) ms = is_listed ms m && is_included ns ms

all_listed : (ns ms : List ℕ) → is_included ns ms ≡ true → Among ns ms
unfolding is_listed is_included
all_listed [] ms h n l = absurd (false≢true l)
all_listed (m ∷ ns) ms h n l = by (or_cases (eqb n m) (is_listed ns n) l) (all_listed ns ms (and_parts (is_listed ms m) (is_included ns ms) h).1 n)
  where
    by : (eqb n m ≡ true) ⊎ (is_listed ns n ≡ true) → (is_listed ns n ≡ true → is_listed ms n ≡ true) → is_listed ms n ≡ true
    by (inl e) rest = let q = eqb-true n m e in rw q (and_parts (is_listed ms m) (is_included ns ms) h).0
    by (inr e) rest = rest e

-- the numbers of a record are numbers of the list
pub record-numbers : Among record_numbers numbers
unfolding numbers record_numbers is_listed is_included
record-numbers = all_listed record_numbers numbers refl

-- no refusal has number 0: it stands for none
pub never-zero : (n : ℕ) → Listed numbers n → 0 < n
unfolding numbers is_listed
never-zero n l = by (dec_lt 0 n)
  where
    by : Dec (0 < n) → 0 < n
    by (yes p) = p
    by (no p) = let e : n ≡ 0 = omega arith in absurd (false≢true (rw e at l))
