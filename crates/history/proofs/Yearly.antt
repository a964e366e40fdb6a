-- Two fields a year: one year more, and what their passing says of each year. Assumes nothing.
use mathlib.Core.Path.{◌≡◌, refl, sym, ◌∙◌}
use mathlib.Core.List.{List}
use Prim.Native.Nat.{ℕ, zero, suc, ◌+◌, ◌*◌, ◌-◌, ◌<◌, ◌≤◌}
use native.Mathlib.Omega.{arith}
use lib.ListN.{length}
use Rattle.outcome.specs.Outcome.{Finding, passed, first_of}
use Rattle.outcome.proofs.Outcome.{both-passed, first-together}
use Rattle.field_check.specs.declared.Field.{Field}
use Rattle.layout.specs.Layout.{width_of}
use Rattle.field_check.specs.Field.{field_check, fields_check}
use Rattle.block.specs.Blocks.{parts_of}
use Rattle.history.specs.History.{shifted_by, yearly_fields}
use Rattle.history.specs.Inner.Part.{part_check}
use Rattle.history.proofs.Window.{part_field}

module _ (s : List ℕ) (first second : Field) where
  abbrev Yearly : ℕ → ℕ → Finding
  Yearly at n = fields_check s (yearly_fields first second at n)

  pub no-years : (at : ℕ) → passed ≡ Yearly at 0
  unfolding fields_check yearly_fields
  no-years at = refl

  a-year : (at n : ℕ) → Yearly at (suc n) ≡ first_of (field_check s (shifted_by at first)) (first_of (field_check s (shifted_by (at + 506) second)) (Yearly (at + 1012) n))
  unfolding fields_check yearly_fields
  a-year at n = refl

  -- a year before those that are looked at already
  year-before : (n k : ℕ) → k < n
      → first_of (first_of (field_check s (shifted_by (506 * (2 * k)) first)) (field_check s (shifted_by (506 * (2 * k + 1)) second))) (Yearly (1012 * (k + 1)) (n - (k + 1)))
      ≡ Yearly (1012 * k) (n - k)
  year-before n k l =
      let left : n - k ≡ suc (n - (k + 1)) = omega arith in
      let young : 506 * (2 * k) ≡ 1012 * k = omega arith in
      let old : 506 * (2 * k + 1) ≡ 1012 * k + 506 = omega arith in
      let more : 1012 * (k + 1) ≡ 1012 * k + 1012 = omega arith in
      let A = field_check s (shifted_by (1012 * k) first) in
      let B = field_check s (shifted_by (1012 * k + 506) second) in
      let C = Yearly (1012 * k + 1012) (n - (k + 1)) in
      rw (left, young, old, more) (first-together A B C ∙ sym (a-year (1012 * k) (n - (k + 1))))

  first-year : (at n : ℕ) → Yearly at (suc n) ≡ passed
      → (field_check s (shifted_by at first) ≡ passed) × (field_check s (shifted_by (at + 506) second) ≡ passed) × (Yearly (at + 1012) n ≡ passed)
  first-year at n h =
      let A = field_check s (shifted_by at first) in
      let B = field_check s (shifted_by (at + 506) second) in
      let C = Yearly (at + 1012) n in
      let p = both-passed A (first_of B C) (sym (a-year at n) ∙ h) in
      let q = both-passed B C p.1 in
      (p.0, q.0, q.1)

  -- what passes, passes in each year
  pub each-year : (n k at : ℕ) → k < n → Yearly at n ≡ passed
      → (field_check s (shifted_by (at + 1012 * k) first) ≡ passed) × (field_check s (shifted_by (at + 1012 * k + 506) second) ≡ passed)
  each-year zero k at l h = absurd (omega arith)
  each-year (suc n) zero at l h =
      let p = first-year at n h in
      let e : at + 1012 * 0 ≡ at = omega arith in
      rw e (p.0, p.1)
  each-year (suc n) (suc k) at l h =
      let p = first-year at n h in
      let e : at + 1012 * suc k ≡ at + 1012 + 1012 * k = omega arith in
      rw e (each-year n k (at + 1012) (omega arith) p.2)

  -- and what passes in each year, passes
  pub years-pass : (n at : ℕ) → ((k : ℕ) → k < n
      → (field_check s (shifted_by (at + 1012 * k) first) ≡ passed) × (field_check s (shifted_by (at + 1012 * k + 506) second) ≡ passed)) → Yearly at n ≡ passed
  years-pass zero at h = sym (no-years at)
  years-pass (suc n) at h =
      let e : at + 1012 * 0 ≡ at = omega arith in
      let here = rw e at (h 0 (omega arith)) in
      let next : (k : ℕ) → k < n
      → (field_check s (shifted_by (at + 1012 + 1012 * k) first) ≡ passed) × (field_check s (shifted_by (at + 1012 + 1012 * k + 506) second) ≡ passed) =
      λ k l.
      let f : at + 1012 * suc k ≡ at + 1012 + 1012 * k = omega arith in
      rw f at (h (suc k) (omega arith)) in
      a-year at n ∙ rw (here.0, here.1) (years-pass n (at + 1012) next)

-- the same with the year's two blocks as they lie in the file; the years that are looked at begin at `after`
pub year-turn : (history : List ℕ) (first second : Field) (n k after : ℕ) {younger older r rest next : Finding}
    → length history ≡ 1024 * n → k < n → after ≡ k + 1
    → first.offset + first.count * width_of first.kind ≤ 506 → second.offset + second.count * width_of second.kind ≤ 506
    → younger ≡ part_check history (2 * k) first → older ≡ part_check history (2 * k + 1) second → r ≡ first_of younger older
    → rest ≡ fields_check (parts_of (2 * n) history) (yearly_fields first second (1012 * after) (n - after)) → next ≡ first_of r rest
    → next ≡ fields_check (parts_of (2 * n) history) (yearly_fields first second (1012 * k) (n - k))
year-turn history first second n k after l h e fits room ey eo er es en =
    let young = ey ∙ part_field (2 * n) (2 * k) history first (omega arith) (omega arith) fits in
    let old = eo ∙ part_field (2 * n) (2 * k + 1) history second (omega arith) (omega arith) room in
    en ∙ rw (er, es, e, young, old) (year-before (parts_of (2 * n) history) first second n k h)
