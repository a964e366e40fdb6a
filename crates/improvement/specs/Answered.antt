-- Which improvements 9 refuses (01: "beyond ±500,000,000"): the edges, by the exact number before it is rounded; and never an actual one.
use Rattle.std.specs.Prelude.{◌≡◌, true, List, ℕ, ◌<◌, ◌≤◌, pos, negsuc, ◌*ℤ◌, ◌≤ℤ◌, ◌<ℤ◌}
use Rattle.arithmetic.specs.Fraction.{Fraction, round}
use Rattle.basis.specs.Basis.{basis_of}
use Rattle.outcome.specs.Outcome.{passed, value}
use Rattle.history.specs.History.{actual_of, basis_with, run_and_history_check}
use Rattle.improvement.specs.Improvement.{usable, improvement_of, improvement_needed}

-- an exact number from −500,000,000.5 on and below 500,000,000.5
pub record WithinEdges (q : Fraction) : Type 0 where
  pub least : (negsuc 1_000_000_000 *ℤ pos q.den) ≤ℤ (pos 2 *ℤ q.num)
  pub below : (pos 2 *ℤ q.num) <ℤ (pos 1_000_000_001 *ℤ pos q.den)

-- 9 lets exactly these stand when they are rounded: 500,000,000.4 and −500,000,000.5, but not 500,000,000.5, which goes up and beyond
pub record Edges : Type 0 where
  pub stands : (q : Fraction) → 0 < q.den → WithinEdges q → usable (round q) ≡ true
  pub no_other : (q : Fraction) → 0 < q.den → usable (round q) ≡ true → WithinEdges q

-- an improvement from B + 1 to F is answered from the history (02, change 2)
pub record ActualAnswered (run history : List ℕ) : Type 0 where
  pub answered : (age year : ℕ) → run_and_history_check run history ≡ passed → 20 ≤ age → age ≤ 150 → (basis_of run).base < year → year ≤ (basis_of run).foundation
      → improvement_needed age year (improvement_of (basis_with run history) age year) ≡ value (actual_of (basis_of run) history age year)
