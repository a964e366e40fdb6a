-- The numbers of the refusals (01, "Who can cause a refusal"), and what gives no others.
use Rattle.std.specs.Prelude.{◌≡◌, Bool, true, false, ◌||◌, List, [], ◌∷◌, ℕ, eqb}
use Rattle.outcome.specs.declared.Refusal.{Refusal}
use Rattle.outcome.specs.Outcome.{Finding, refused_by, Outcome, refused}

-- ---- the numbers
-- 1 to 12 are 01's, 13 is that of 02, change 2, 14 to 16 are those of its change 6, and 17 that of its change 7; a later change adds its
-- number here, and its reason in Reasons
unfoldable pub numbers : List ℕ
numbers = 1 ∷ 2 ∷ 3 ∷ 4 ∷ 5 ∷ 6 ∷ 7 ∷ 8 ∷ 9 ∷ 10 ∷ 11 ∷ 12 ∷ 13 ∷ 14 ∷ 15 ∷ 16 ∷ 17 ∷ []

-- those that a question can be answered on an accepted basis, and so those of a record of the grid and of a point of the small set
unfoldable pub record_numbers : List ℕ
record_numbers = 6 ∷ 7 ∷ 8 ∷ 9 ∷ 10 ∷ []

unfoldable pub is_listed : List ℕ → ℕ → Bool
is_listed [] n = false
is_listed (m ∷ ms) n = eqb n m || is_listed ms n

abbrev pub Listed : List ℕ → ℕ → Type 0
Listed ns n = is_listed ns n ≡ true

-- ---- what refuses by numbers of a list, and by no others
pub record RefusesBy (ns : List ℕ) (check : Finding) : Type 0 where
  pub listed : (r : Refusal) → check ≡ refused_by r → Listed ns r.number

pub record RefusedBy {A : Type 0} (ns : List ℕ) (work : Outcome A) : Type 0 where
  pub listed : (r : Refusal) → work ≡ refused r → Listed ns r.number
