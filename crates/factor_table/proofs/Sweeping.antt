-- The sweep stored year by year: what the loop knows after some years. Assumes nothing.
use mathlib.Core.Path.{◌≡◌, ◌∙◌, ap}
use mathlib.Core.List.{List}
use Prim.Native.Nat.{ℕ, suc, ◌+◌, ◌*◌, ◌-◌, ◌≤◌, ◌<◌}
use native.Mathlib.Omega.{arith}
use native.Mathlib.Decide.{dec_lt}
use native.Mathlib.Nat.{zero-add}
use lib.ListN.{length, get_or}
use Rattle.basis.specs.Basis.{Basis}
use Rattle.sweep.specs.Sweep.{sweep_start, sweep_step, sweep_after}
use Rattle.sweep.specs.Encoding.{decoded, state_in, Encodes}
use Rattle.sweep.proofs.Direct.{start-after, step_after}
use Rattle.factor_table.specs.Inner.Storing.{StandsAt, KeptBefore}
use Rattle.factor_table.specs.FactorTable.{table_length, YearsStored}

-- the first k years are stored, and the state is that of the year after them
pub record Sweeping (b : Basis) (numbers state : List ℕ) (k : ℕ) : Type 0 where
  pub size : length numbers ≡ table_length
  pub years : YearsStored b numbers k
  pub holds : Encodes state (sweep_after b k)

module _ {b : Basis} where
  pub sweeping-none : {numbers state : List ℕ} (k : ℕ) → k ≡ 0 → length numbers ≡ table_length → Encodes state sweep_start → Sweeping b numbers state k
  sweeping-none {state = state} k e h s = rw e (record { size = h; years = λ k i l. absurd (omega arith); holds = start-after b state s })

  -- a year more
  pub sweeping-next : {numbers state after next : List ℕ} {at year : ℕ} → Sweeping b numbers state (year - b.base) → b.base ≤ year
      → at ≡ 131 * (year - b.base) → StandsAt at 0 state after → KeptBefore at numbers after → length after ≡ length numbers
      → Encodes next (sweep_step b year (state_in state)) → Sweeping b after next (year + 1 - b.base)
  sweeping-next {numbers} {state} {after} {next} {at} {year} s low ea stands kept same g =
      let k = year - b.base in
      let e : year + 1 - b.base ≡ suc k = omega arith in
      let ey : year ≡ b.base + k = omega arith in
      rw e
      (record { size = same ∙ s.size; years = λ j i l m. by j i l m (dec_lt j k); holds = step_after b state next k s.holds (rw ey at g) })
    where
      by : (j i : ℕ) → j < suc (year - b.base) → i < 131 → Dec (j < year - b.base) → decoded (20 + i) (get_or after (131 * j + i) 0) ≡ sweep_after b j (20 + i)
      by j i l m (yes q) = ap (decoded (20 + i)) (kept (131 * j + i) (omega (arith, ea))) ∙ s.years j i q m
      by j i l m (no q) =
          let e : j ≡ year - b.base = omega arith in
          rw (e, ← ea) (ap (decoded (20 + i)) (rw zero-add at (stands i (omega arith))) ∙ s.holds.each i m)
