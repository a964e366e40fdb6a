-- What is known of an outcome that was worked out elsewhere: its number, if it has one, is at most a bound.
use Rattle.std.specs.Prelude.{◌≡◌, ℕ, ◌≤◌, ℤ, pos}
use Rattle.outcome.specs.Outcome.{Outcome, value}

abbrev pub AtMost : ℕ → Outcome ℤ → Type 0
AtMost bound outcome = (n : ℕ) → outcome ≡ value (pos n) → n ≤ bound
