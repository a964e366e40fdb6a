-- The number in an answer beside refusal number 0 is the value of the work, since no refusal has that number and the work's values are not
-- below zero. Assumes nothing.
use mathlib.Core.Path.{◌≡◌, ap, refl}
use Prim.Native.Nat.{ℕ}
use native.Mathlib.Omega.{arith}
use lib.IntN.{ℤ, pos}
use Rattle.outcome.specs.Outcome.{Outcome, value, refused}
use Rattle.outcome.specs.Refusals.{numbers, RefusedBy}
use Rattle.outcome.proofs.Refusals.{never-zero}
use Rattle.engine.specs.Enquiry.{answer_of, signed_answer_of}

pub value-handed : (work : Outcome ℤ) → RefusedBy numbers work → ((v : ℤ) → work ≡ value v → (m : ℕ) × (v ≡ pos m)) → (answer_of work).refusal.number ≡ 0
    → work ≡ value (pos (answer_of work).value)
value-handed (value v) numbered natural none = let n = natural v refl in ap value (rw n.1 refl)
value-handed (refused r) numbered natural none = absurd (omega (arith, none, never-zero r.number (numbered.listed r refl)))

pub signed-value-handed : (work : Outcome ℤ) → RefusedBy numbers work → (signed_answer_of work).refusal.number ≡ 0 → work ≡ value (signed_answer_of work).value
signed-value-handed (value v) numbered none = refl
signed-value-handed (refused r) numbered none = absurd (omega (arith, none, never-zero r.number (numbered.listed r refl)))
