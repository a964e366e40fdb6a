-- The lifeline reader (01, "holds the lent data run with an age"): the start and the step by their numbers, over one lent run that is
-- held throughout. The history is not held: it is lent to each call (02, change 2).
use Rattle.std.specs.Prelude.{ℕ, List}
use Rattle.std.specs.Borrow.{Bor}
use Rattle.lifeline.specs.declared.Position.{Position}
use Rattle.lifeline_reader.specs.declared.Lifeline.{Lifeline}
use Rattle.lifeline.specs.Said.{Step}
use Rattle.lifeline.specs.Lifeline.{position_at, start_at, step_at}

-- a line over the run lent, and its position
abbrev pub line_at : Bor (List ℕ) → Position → Lifeline
line_at run p = record { run = run; age = p.age; year = p.year; survivors = p.survivors }

abbrev pub position_of : Lifeline → Position
position_of l = position_at l.age l.year l.survivors

-- a line at its start
abbrev pub line_started : Bor (List ℕ) → List ℕ → ℕ → ℕ → Lifeline
line_started run history age year = line_at run (start_at run.now history age year).position

-- a step of a line, from its position
abbrev pub step_of : Lifeline → List ℕ → Step
step_of l history = step_at l.run.now history (position_of l)

-- a line after a step, over the same run
abbrev pub line_stepped : Lifeline → List ℕ → Lifeline
line_stepped l history = line_at l.run (step_of l history).position
