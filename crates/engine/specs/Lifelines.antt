-- What C is handed of a lifeline: its position, the refusal, and whether it has ended (1).
use Rattle.std.specs.Prelude.{ℕ}
use Rattle.outcome.specs.Outcome.{Outcome, value, refused, no_refusal}
use Rattle.outcome.specs.declared.Refusal.{Refusal}
use Rattle.lifeline.specs.Said.{Start, Said, advanced, ended, Step}
use Rattle.engine.specs.declared.CLifeline.{CLifeline}
use Rattle.engine.specs.Enquiry.{refusal_of}

-- a start has not ended
abbrev pub lifeline_of_start : Start → CLifeline
lifeline_of_start s = record { refusal = refusal_of s.check; survivors = s.position.survivors; age = s.position.age; year = s.position.year; ended = 0 }

-- a step's refusal and its end, by what it says
abbrev pub step_refusal : Outcome Said → Refusal
step_refusal (value s) = no_refusal
step_refusal (refused r) = r

abbrev pub step_ended : Outcome Said → ℕ
step_ended (value advanced) = 0
step_ended (value ended) = 1
step_ended (refused r) = 0

abbrev pub lifeline_of_step : Step → CLifeline
lifeline_of_step s =
    record { refusal = step_refusal s.says; survivors = s.position.survivors; age = s.position.age; year = s.position.year; ended = step_ended s.says }
