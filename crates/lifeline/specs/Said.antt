-- A lifeline's start and its step, and what these say, in the paper's words and numbers (01, "Each step applies one year of cohort
-- survivorship"); and what the engine's answers stand for, in every one of their cases.
use Rattle.outcome.specs.Outcome.{Finding, Outcome, value, refused, finding}
use Rattle.lifeline.specs.declared.Position.{Position}
use Rattle.lifeline.specs.declared.Status.{Status}
use Rattle.lifeline.specs.declared.Status.TheVariants as status
use Rattle.lifeline.specs.declared.LifelineStart.{LifelineStart}
use Rattle.lifeline.specs.declared.LifelineStep.{LifelineStep}

-- a start, and what its checks came to
pub record Start : Type 0 where
  pub position : Position
  pub check : Finding

-- a step that is not refused has advanced by a year, or says ended
pub data Said : Type 0 where
  advanced : Said
  ended : Said

pub record Step : Type 0 where
  pub position : Position
  pub says : Outcome Said

-- ---- what an answer of the engine stands for
abbrev pub start_meaning : LifelineStart → Start
start_meaning s = record { position = s.position; check = finding s.check }

abbrev pub status_meaning : Status → Outcome Said
status_meaning status.Advanced = value advanced
status_meaning status.Ended = value ended
status_meaning (status.Refused r) = refused r

abbrev pub step_meaning : LifelineStep → Step
step_meaning s = record { position = s.position; says = status_meaning s.status }
