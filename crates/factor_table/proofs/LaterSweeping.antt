-- The years from 2130 on stored two at a time: what the loop knows after some of them. Assumes nothing.
use mathlib.Core.Path.{◌≡◌, ◌∙◌, ap, refl}
use mathlib.Core.List.{List}
use Prim.Native.Nat.{ℕ, suc, ◌+◌, ◌*◌, ◌-◌, ◌≤◌, ◌<◌}
use native.Mathlib.Omega.{arith}
use native.Mathlib.Decide.{dec_lt}
use native.Mathlib.Numerals.{add-one}
use lib.ListN.{length, get_or}
use Rattle.basis.specs.Basis.{Basis}
use Rattle.sweep.specs.Sweep.{sweep_step, sweep_after}
use Rattle.sweep.specs.Encoding.{decoded, state_in, Encodes}
use Rattle.sweep.proofs.Direct.{step_after}
use Rattle.factor_table.specs.Inner.Storing.{StandsAt, KeptBefore}
use Rattle.factor_table.specs.FactorTable.{early_years, early_length, later_year, later_ages, later_at, LaterYearsStored}
use Rattle.factor_table.proofs.LaterPlaces.{later-next, before-later}

-- the first m of these years are stored, and the state is that of the next one
pub record LaterSweeping (b : Basis) (start numbers state : List ℕ) (m at : ℕ) : Type 0 where
  pub same : length numbers ≡ length start
  pub later : LaterYearsStored b numbers m
  pub kept : KeptBefore early_length start numbers
  pub holds : Encodes state (sweep_after b (later_year m - b.base))
  pub place : at ≡ early_length + later_at m

module _ {b : Basis} {start : List ℕ} where
  pub later-none : {state : List ℕ} → Encodes state (sweep_after b (early_years b)) → LaterSweeping b start start state 0 early_length
  later-none s = record { same = refl; later = λ m i l. absurd (omega arith); kept = λ i l. refl; holds = s; place = refl }

  pub later_more : {numbers state after between next : List ℕ} {m at : ℕ} → LaterSweeping b start numbers state m at → b.base ≤ 2130 → m < 66
      → StandsAt at (2 * m) state after → KeptBefore at numbers after → length after ≡ length numbers
      → Encodes between (sweep_step b (2130 + 2 * m) (state_in state)) → Encodes next (sweep_step b (2131 + 2 * m) (state_in between))
      → LaterSweeping b start after next (m + 1) (at + (131 - 2 * m))
  later_more {numbers} {state} {after} {between} {next} {m} {at} s early less stands kept same g h =
      let k = later_year m - b.base in
      let y : b.base + k ≡ 2130 + 2 * m = omega arith in
      let z : b.base + suc k ≡ 2131 + 2 * m = omega arith in
      let e : suc (suc k) ≡ later_year (suc m) - b.base = omega arith in
      let one = step_after b state between k s.holds (rw (← y) at g) in
      let two = step_after b between next (suc k) one (rw (← z) at h) in
      rw add-one
      (record {
        same = same ∙ s.same;
        later = λ n i l q. by n i l q (dec_lt n m);
        kept = λ i l. kept i (omega (arith, s.place)) ∙ s.kept i l;
        holds = rw e at two;
        place = omega (arith, s.place, later-next m less);
      })
    where
      by : (n i : ℕ) → n < suc m → i < later_ages n → Dec (n < m) →
          decoded (20 + (2 * n + i)) (get_or after (early_length + later_at n + i) 0) ≡ sweep_after b (later_year n - b.base) (20 + (2 * n + i))
      by n i l q (yes p) =
          ap (decoded (20 + (2 * n + i))) (kept (early_length + later_at n + i) (omega (arith, s.place, before-later n m p (omega arith)))) ∙ s.later n i p q
      by n i l q (no p) =
          let e : n ≡ m = omega arith in
          let a : early_length + later_at m + i ≡ at + i = omega (arith, s.place) in
          let short : i < 131 - 2 * m = rw e at q in
          rw (e, a) (ap (decoded (20 + (2 * m + i))) (stands i short) ∙ s.holds.each (2 * m + i) (omega arith))
