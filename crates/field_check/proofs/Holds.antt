-- A field passes exactly if every number of it is between its limits. Assumes nothing.
use mathlib.Core.Path.{◌≡◌, refl}
use mathlib.Core.Bool.{Bool, true, false, cond}
use mathlib.Core.List.{List}
use Prim.Native.Nat.{ℕ, zero, suc, ◌+◌, ◌*◌, ◌<◌}
use native.Mathlib.Nat.{not-suc-le-zero, le_of_suc-le-suc}
use native.Mathlib.Omega.{arith}
use lib.IntN.{ℤ}
use Rattle.outcome.specs.Outcome.{passed, refused_by, refusal}
use Rattle.layout.specs.declared.Number.{Number}
use Rattle.field_check.specs.declared.Field.{Field}
use Rattle.layout.specs.Layout.{width_of, value_at}
use Rattle.field_check.specs.Field.{between, entries_check, field_check}
use Rattle.field_check.proofs.Limits.{Between, opened, closed}

-- every number that stands there is between its limits
pub record Holds (run : List ℕ) (f : Field) : Type 0 where
  pub within : (i : ℕ) → i < f.count → Between f.low (value_at f.kind run (f.offset + width_of f.kind * i)) f.high

-- a field of one number
pub single : {run : List ℕ} {f : Field} → f.count ≡ 1 → Between f.low (value_at f.kind run f.offset) f.high → Holds run f
single {run} {f} e b = record { within = λ i l. let z : f.offset + width_of f.kind * i ≡ f.offset = by i (rw e at l) in rw z b }
  where
    by : (i : ℕ) → i < 1 → f.offset + width_of f.kind * i ≡ f.offset
    by zero l = omega arith
    by (suc i) l = absurd (omega arith)

module _ (run : List ℕ) (number : ℕ) (kind : Number) (low high : ℤ) where
  abbrev Entries : ℕ → ℕ → Type 0
  Entries at n = (i : ℕ) → i < n → Between low (value_at kind run (at + width_of kind * i)) high

  entries-hold : (at n : ℕ) → entries_check run number kind low high at n ≡ passed → Entries at n
  unfolding entries_check
  entries-hold at zero h i l = absurd (not-suc-le-zero l)
  entries-hold at (suc n) h i l = by (λ k i l. entries-hold (at + width_of kind) n k i l) (between low high (value_at kind run at)) refl h i l
    where
      by : (entries_check run number kind low high (at + width_of kind) n ≡ passed → Entries (at + width_of kind) n)
          → (t : Bool) → between low high (value_at kind run at) ≡ t
          → cond t (entries_check run number kind low high (at + width_of kind) n) (refused_by (refusal number at 0)) ≡ passed → Entries at (suc n)
      by rest true p k zero l = let e : at + width_of kind * 0 ≡ at = omega arith in rw e (opened low high (value_at kind run at) p)
      by rest true p k (suc i) l =
          let e : at + width_of kind * suc i ≡ at + width_of kind + width_of kind * i = omega arith in
          rw e (rest k i (le_of_suc-le-suc l))
      by rest false p k i l = let z : ◌≡◌ {A = ℕ} 0 1 = cc in absurd (omega arith)

  entries-pass : (at n : ℕ) → Entries at n → entries_check run number kind low high at n ≡ passed
  unfolding entries_check
  entries-pass at zero b = refl
  entries-pass at (suc n) b =
      let here : at + width_of kind * 0 ≡ at = omega arith in
      let next : (i : ℕ) → at + width_of kind * suc i ≡ at + width_of kind + width_of kind * i = λ i. omega arith in
      rw (closed low high (value_at kind run at) (rw here at (b 0 (omega arith))))
      (entries-pass (at + width_of kind) n (λ i l. rw (next i) at (b (suc i) (omega arith))))

module _ (run : List ℕ) where
  pub field-holds : (f : Field) → field_check run f ≡ passed → Holds run f
  unfolding field_check
  field-holds f h = record { within = entries-hold run f.number f.kind f.low f.high f.offset f.count h }

  pub field-passes : (f : Field) → Holds run f → field_check run f ≡ passed
  unfolding field_check
  field-passes f h = entries-pass run f.number f.kind f.low f.high f.offset f.count h.within
