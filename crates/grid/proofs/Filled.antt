-- The list of the grid record by record, and what its checks say once they have passed. Nothing here is about the machine.
use mathlib.Core.Path.{◌≡◌, refl, ap, sym}
use mathlib.Core.List.{List, [], ◌∷◌, ◌++◌}
use Prim.Native.Nat.{ℕ, zero, suc, ◌+◌, ◌≤◌, ◌<◌, zero-le}
use native.Mathlib.Numerals.{add-one}
use native.Mathlib.Nat.{not-suc-le-zero, le_of_suc-le-suc}
use lib.Dec.{leb}
use lib.ListN.{length, get_or, set, take, drop}
use borrow.Author.Tests.{leb-true}
use Rattle.basis.specs.Basis.{Basis}
use Rattle.history.specs.History.{basis_with, run_and_history_check, Workable}
use Rattle.history.proofs.Acceptance.{accepted-workable}
use Rattle.outcome.proofs.Outcome.{both-passed, unless-passed}
use Rattle.outcome.specs.declared.Refusal.{Refusal}
use Rattle.outcome.specs.Outcome.{Finding, passed, refused_by}
use Rattle.grid_record.specs.declared.Point.{Point}
use Rattle.grid_record.specs.Record.{answered_of}
use Rattle.lent.specs.Lent.{count_check}
use Rattle.grid.specs.Grid.{grid_check, records_of, answers, grid_of}

-- ---- the list with some records answered
module _ (b : Basis) where
  pub answers-none : (points : List Point) → answers b 0 points ≡ points
  unfolding answers
  answers-none points = refl

  -- one more record is answered
  answers_set : (i : ℕ) (points : List Point) (past : Point) → i < length points
      → set (answers b i points) i (answered_of b (get_or (answers b i points) i past)) ≡ answers b (suc i) points
  unfolding answers
  answers_set i [] past h = absurd (not-suc-le-zero h)
  answers_set zero (p ∷ points) past h = refl
  answers_set (suc i) (p ∷ points) past h = ap (λ (rest : List Point). answered_of b p ∷ rest) (answers_set i points past (le_of_suc-le-suc h))

  pub answers_turn : (points : List Point) (past : Point) {i : ℕ} {records : List Point} {p : Point} → records ≡ answers b i points → i < length points
      → p ≡ answered_of b (get_or records i past) → set records i p ≡ answers b (i + 1) points
  answers_turn points past {i} h l e = rw (e, h, add-one) (answers_set i points past l)

  -- the records behind those that are answered are kept
  pub answers_front : (n : ℕ) (points : List Point) → answers b n (take n points) ++ drop n points ≡ answers b n points
  unfolding answers
  answers_front zero points = refl
  answers_front (suc n) [] = refl
  answers_front (suc n) (p ∷ points) = ap (λ (rest : List Point). answered_of b p ∷ rest) (answers_front n points)

-- ---- the list after the grid is that with as many records answered as its checks say
module _ (run history : List ℕ) (points : List Point) where
  pub grid-filled : passed ≡ grid_check run history (length points) → answers (basis_with run history) 119 points ≡ grid_of run history points
  unfolding grid_of
  grid-filled h = rw (← h) refl

  pub grid-kept : {r : Refusal} → refused_by r ≡ grid_check run history (length points) → points ≡ grid_of run history points
  unfolding grid_of answers
  grid-kept h = rw (← h) refl

-- ---- what the checks have let pass: there are as many records as are answered, and the run is accepted with its history
module _ (run history : List ℕ) (count : ℕ) where
  parts : grid_check run history count ≡ passed → (count_check 119 count ≡ passed) × (run_and_history_check run history ≡ passed)
  unfolding grid_check
  parts h = both-passed (count_check 119 count) (run_and_history_check run history) h

  pub enough_records : passed ≡ grid_check run history count → 119 ≤ count
  unfolding count_check
  enough_records h = leb-true 119 count (unless-passed (leb 119 count) _ (parts (sym h)).0)

  pub grid_workable : passed ≡ grid_check run history count → Workable run history
  grid_workable h = accepted-workable run history (parts (sym h)).1

  -- no more records are answered than there are
  pub records-fit : records_of (grid_check run history count) ≤ count
  records-fit = by (grid_check run history count) refl
    where
      by : (check : Finding) → grid_check run history count ≡ check → records_of check ≤ count
      by passed h = enough_records (sym h)
      by (refused_by r) h = zero-le
