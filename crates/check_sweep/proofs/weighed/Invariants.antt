-- Numbers of a bounded weight each: 150 × (2³² - 1).
use Prim.Native.Nat.{◌*◌, ◌≤◌}
use Rattle.check_sweep.proofs.weighed.Given as goal

abbrev pub invariant-loop-i : goal.invariant-loop-i
invariant-loop-i l = l.sum ≤ 644245094250 * l.i
