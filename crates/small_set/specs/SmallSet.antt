-- The small set (01, "The small set is six model points"): six answers, or a refusal of the whole.
use Rattle.std.specs.Prelude.{ℕ, List, map, replicate}
use Rattle.outcome.specs.Outcome.{Finding, passed, refused_by, no_refusal}
use Rattle.history.specs.History.{basis_with, run_and_history_check}
use Rattle.model_points.specs.declared.PointAnswer.{PointAnswer}
use Rattle.model_points.specs.Point.{no_results, point_of}
use Rattle.small_set.specs.declared.Questions.{Questions}
use Rattle.small_set.specs.declared.SmallSet.{SmallSet}

-- a refused basis, and a refused history as well, refuses the set as a whole: its points then carry 0 in every result, refusal and place
abbrev pub set_of : Finding → List PointAnswer → SmallSet
set_of passed points = record { refusal = no_refusal; points = points }
set_of (refused_by r) points = record { refusal = r; points = replicate 6 (record { results = no_results; refusal = no_refusal }) }

unfoldable pub small_set_of : List ℕ → List ℕ → Questions → SmallSet
small_set_of run history questions = set_of (run_and_history_check run history) (map (point_of (basis_with run history)) questions.points)
