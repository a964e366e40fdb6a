-- The ages before the turn have advanced, and the others are as they were.
use Rattle.std.proofs.Common.{◌≡◌, ℕ, ◌+◌, ◌≤◌, ◌<◌, get_or}
use Rattle.history.specs.History.{basis_with}
use Rattle.sweep.specs.Sweep.{advanced_factor}
use Rattle.sweep.specs.Encoding.{decoded}
use Rattle.sweep.proofs.step.Given as goal

abbrev pub invariant-loop-i : goal.invariant-loop-i
invariant-loop-i l =
    record {
      done : (k : ℕ) → k < l.i
          → decoded (20 + k) (get_or l.state k 0) ≡ advanced_factor (basis_with l.b.run.now l.b.history.now) (20 + k) l.year (decoded (20 + k) (get_or l.initial.state k 0));
      left : (k : ℕ) → l.i ≤ k → get_or l.state k 0 ≡ get_or l.initial.state k 0;
    }
