-- That a state of the sweep is encoded in one way: at an age no two numbers stand for the same outcome, so that what `start` and `step` promise
-- leaves no number of their list free (01, "Reviewer's checklist": one possible state of the output).
use Rattle.std.specs.Prelude.{◌≡◌, List, ℕ}
use Rattle.sweep.specs.Sweep.{State}
use Rattle.sweep.specs.Encoding.{decoded, Encodes}

pub record EncodingIsFixed : Type 0 where
  -- at an age, two numbers that stand for the same outcome are the same number, whatever their size
  pub number : (age m n : ℕ) → decoded age m ≡ decoded age n → m ≡ n
  -- so there is one list that encodes a state
  pub list : (state : State) (numbers others : List ℕ) → Encodes numbers state → Encodes others state → numbers ≡ others
