-- The reasons for a refusal are the papers' list: each has a number of `numbers`, each number of the list has its reason, and no two have one.
use Rattle.std.specs.Prelude.{◌≡◌, ℕ}
use Rattle.outcome.specs.declared.Reason.{Reason}
use Rattle.outcome.specs.Reasons.{number_of}
use Rattle.outcome.specs.Refusals.{numbers, Listed}

pub record ReasonsAreNumbers : Type 0 where
  pub listed : (reason : Reason) → Listed numbers (number_of reason)
  pub each_has_one : (n : ℕ) → Listed numbers n → (reason : Reason) × (number_of reason ≡ n)
  pub apart : (a b : Reason) → number_of a ≡ number_of b → a ≡ b
