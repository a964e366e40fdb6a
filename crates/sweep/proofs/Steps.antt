-- Every number of steps: the lists that they go through hold the states of the sweep, and these are the direct engine's. By induction over
-- the steps. Assumes nothing.
use mathlib.Core.Path.{◌≡◌, ◌∙◌, sym, subst}
use mathlib.Core.List.{List}
use Prim.Native.Nat.{ℕ, zero, suc, ◌+◌, ◌-◌, ◌≤◌}
use native.Mathlib.Nat.{suc-add, zero-add}
use native.Mathlib.Omega.{arith}
use lib.ListN.{get_or}
use Rattle.outcome.specs.declared.Refusal.{Refusal}
use Rattle.basis.specs.Basis.{Basis}
use Rattle.outcome.specs.Outcome.{Outcome, refused}
use Rattle.history.specs.History.{basis_with}
use Rattle.history.proofs.Acceptance.{accepted-workable}
use Rattle.history.proofs.With.{limits-with}
use Rattle.sweep.specs.Sweep.{sweep_after}
use Rattle.sweep.specs.Encoding.{decoded, state_in, Encodes}
use Rattle.sweep.specs.EachStep.{Swept, EachStep}
use Rattle.sweep.proofs.OneAge.{advanced-refused}
use Rattle.sweep.proofs.Direct.{swept-until, swept-after, start-after, step_after, sweep-direct}

-- a refusal stands
stands : (b : Basis) (age j d : ℕ) (r : Refusal) → sweep_after b j age ≡ refused r → sweep_after b (d + j) age ≡ refused r
unfolding sweep_after
stands b age j zero r h = rw zero-add h
stands b age j (suc d) r h =
    let before = stands b age j d r h in
    rw suc-add (advanced-refused b age (b.base + (d + j)) (sweep_after b (d + j) age) r before ∙ before)

-- what a list holds at an age, by the age
encoded-at : {numbers : List ℕ} {state : ℕ → Outcome _} → Encodes numbers state → (age : ℕ) → 20 ≤ age → age ≤ 150 → state_in numbers age ≡ state age
encoded-at {numbers} {state} h age low high =
    let e : 20 + (age - 20) ≡ age = omega arith in
    subst (λ (a : ℕ). decoded a (get_or numbers (age - 20) 0) ≡ state a) e (h.each (age - 20) (omega arith))

module _ (run history : List ℕ) (lists : ℕ → List ℕ) (n : ℕ) (s : Swept run history lists n) where
  holds : (k : ℕ) → k ≤ n → Encodes (lists k) (sweep_after (basis_with run history) k)
  holds zero l = start-after (basis_with run history) (lists 0) s.started
  holds (suc k) l = step_after (basis_with run history) (lists k) (lists (suc k)) k (holds k (omega arith)) (s.stepped k (omega arith))

pub each_step : (run history : List ℕ) → EachStep run history
each_step run history =
    record {
      factor = λ passed lists n s k l age low high.
          encoded-at (holds run history lists n s k l) age low high
          ∙ sweep-direct (basis_with run history) age (omega (arith, (limits-with (accepted-workable run history passed)).base_high)) k;
      up_to = swept-until;
      last = swept-after;
      first = λ lists n s j k l m age low high r h.
          let e : k - j + j ≡ k = omega arith in
          let before = sym (encoded-at (holds run history lists n s j (omega arith)) age low high) ∙ h in
          encoded-at (holds run history lists n s k m) age low high
          ∙ (rw e at (stands (basis_with run history) age j (k - j) r before));
      size = λ lists n s k l. (holds run history lists n s k l).size;
    }
