-- What a number of the state stands for, case by case. Assumes nothing.
use mathlib.Core.Path.{◌≡◌, ◌∙◌, ap, sym, refl}
use Prim.Native.Nat.{ℕ, ◌+◌, ◌*◌, ◌-◌, ◌/◌, ◌%◌, ◌≤◌, ◌<◌}
use native.Mathlib.Omega.{arith}
use lib.IntN.{pos}
use borrow.Author.Tests.{le-leb, lt-leb}
use Rattle.outcome.specs.declared.Refusal.{Refusal}
use Rattle.outcome.specs.Outcome.{value, refused, refusal}
use Rattle.sweep.specs.Encoding.{refused_number, decoded}

module _ (age : ℕ) where
  pub decoded-factor : (n : ℕ) → n ≤ 4_000_000_000 → decoded age n ≡ value (pos n)
  unfolding decoded
  decoded-factor n h = rw (le-leb n 4_000_000_000 h) refl

  pub decoded-above : (n : ℕ) → 4_000_000_000 < n → decoded age n ≡ refused (refusal ((n - 4_000_000_000) / 10_000) age ((n - 4_000_000_000) % 10_000))
  unfolding decoded
  decoded-above n h = rw (lt-leb n 4_000_000_000 h) refl

  -- a refusal is read back
  pub decoded-refused : (number year : ℕ) → 0 < number → year < 10_000 → decoded age (refused_number number year) ≡ refused (refusal number age year)
  decoded-refused number year h k =
      let n = refused_number number year in
      let e : n - 4_000_000_000 ≡ 10_000 * number + year = omega arith in
      let d : (10_000 * number + year) / 10_000 ≡ number = omega arith in
      let m : (10_000 * number + year) % 10_000 ≡ year = omega arith in
      decoded-above n (omega arith) ∙ rw (e, d, m) refl

  -- and so is one that is given as it is
  pub decoded-again : (number year : ℕ) (r : Refusal) → (n : ℕ) × (r ≡ refusal n age year) × (0 < n) × (n ≤ 10) → year < 10_000 → number ≡ r.number →
      decoded age (refused_number number year) ≡ refused r
  decoded-again number year r w k e =
      let f : number ≡ w.0 = e ∙ ap (λ (x : Refusal). x.number) w.1 in
      rw f (decoded-refused w.0 year w.2 k) ∙ sym (ap refused w.1)
