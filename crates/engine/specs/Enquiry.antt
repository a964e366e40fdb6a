-- What C is handed (01, "Who can cause a refusal"): a refusal of number 0 with places 0 where nothing is refused, and value 0 beside a refusal.
use Rattle.std.specs.Prelude.{ℤ, pos, nat_abs}
use Rattle.outcome.specs.declared.Refusal.{Refusal}
use Rattle.outcome.specs.Outcome.{Finding, passed, refused_by, Outcome, value, refused, no_refusal}
use Rattle.engine.specs.declared.CAnswer.{CAnswer}
use Rattle.engine.specs.declared.CSignedAnswer.{CSignedAnswer}

-- ---- answers
-- what a check says
abbrev pub refusal_of : Finding → Refusal
refusal_of passed = no_refusal
refusal_of (refused_by r) = r

-- the answer of an enquiry whose values are never below zero, so that a value's size is the value itself
abbrev pub answer_of : Outcome ℤ → CAnswer
answer_of (value n) = record { refusal = no_refusal; value = nat_abs n }
answer_of (refused r) = record { refusal = r; value = 0 }

-- the same where the value may be below zero
abbrev pub signed_answer_of : Outcome ℤ → CSignedAnswer
signed_answer_of (value n) = record { refusal = no_refusal; value = n }
signed_answer_of (refused r) = record { refusal = r; value = pos 0 }
