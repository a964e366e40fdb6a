-- A point's own checks decide first: what they let pass asks about a life. Assumes nothing.
use mathlib.Core.Path.{◌≡◌, sym}
use mathlib.Core.List.{List}
use Prim.Native.Nat.{ℕ}
use Rattle.basis.specs.Basis.{basis_of, rated_from}
use Rattle.history.specs.Checked.{Life}
use Rattle.history.specs.History.{Workable}
use Rattle.outcome.specs.Outcome.{passed}
use Rattle.question.proofs.Passed.{question-passed}
use Rattle.question.specs.Question.{question_check}

pub asks_life : (run history : List ℕ) (age deferment year : ℕ) → Workable run history
    → passed ≡ question_check (rated_from (basis_of run)) age deferment year → Life run history age deferment year
unfolding rated_from
asks_life run history age deferment year usable h = question-passed run history age deferment year usable (sym h)
