-- A turn of the walk over the numbers of a field. Assumes nothing.
use mathlib.Core.Path.{◌≡◌, refl, ap, ◌∙◌}
use mathlib.Core.Bool.{Bool, true, false, cond, ◌&&◌}
use mathlib.Core.List.{List}
use Prim.Native.Nat.{ℕ, zero, suc, ◌+◌, ◌*◌, ◌<◌, ◌≤◌}
use native.Mathlib.Numerals.{add-one}
use native.Mathlib.Decide.{dec_lt}
use native.Mathlib.Nat.{suc-mul, mul-le-mul_right}
use native.Mathlib.Omega.{arith}
use lib.IntN.{ℤ}
use Rattle.outcome.specs.declared.Refusal.{Refusal}
use Rattle.outcome.specs.Outcome.{Finding, passed, refused_by, refusal, unless, first_of, passes}
use Rattle.layout.specs.declared.Number.{Number}
use Rattle.layout.specs.Layout.{width_of, value_at}
use Rattle.field_check.specs.Field.{between, entries_check}

-- each number of a field stands inside it
pub entry_inside : (at w i n : ℕ) → i < n → at + w * i + w ≤ at + n * w
entry_inside at w i n l = omega (arith, mul-le-mul_right w l, suc-mul i w)

module _ (run : List ℕ) (number : ℕ) (kind : Number) (low high : ℤ) where
  abbrev Entries : ℕ → ℕ → Finding
  Entries at n = entries_check run number kind low high at n

  -- what is found among one number more
  one-more : (at i : ℕ) → Entries at (suc i)
      ≡ first_of (Entries at i) (unless (between low high (value_at kind run (at + width_of kind * i))) (refusal number (at + width_of kind * i) 0))
  unfolding entries_check
  one-more at zero = let z : at + width_of kind * 0 ≡ at = omega arith in rw z refl
  one-more at (suc i) =
      let next : at + width_of kind * suc i ≡ at + width_of kind + width_of kind * i = omega arith in
      let here = between low high (value_at kind run at) in
      rw next
      (ap (λ (c : Finding). cond here c (refused_by (refusal number at 0))) (one-more (at + width_of kind) i)
      ∙ by here (Entries (at + width_of kind) i) _ (refusal number at 0))
    where
      by : (t : Bool) (a b : Finding) (r : Refusal) → cond t (first_of a b) (refused_by r) ≡ first_of (cond t a (refused_by r)) b
      by true a b r = refl
      by false a b r = refl

  -- one number more is within its limits, or is not looked for
  pub also : (at i : ℕ) {all ok : Bool} → all ≡ passes (Entries at i) → ok ≡ between low high (value_at kind run (at + width_of kind * i))
      → (all && ok) ≡ passes (Entries at (i + 1))
  also at i {all} {ok} e o = rw (add-one, one-more at i, e, o) (by (Entries at i) (between low high (value_at kind run (at + width_of kind * i))) _)
    where
      by : (c : Finding) (t : Bool) (r : Refusal) → (passes c && t) ≡ passes (first_of c (unless t r))
      by passed true r = refl
      by passed false r = refl
      by (refused_by q) t r = refl

  pub inside : (at i : ℕ) → Entries at i ≡ passed → between low high (value_at kind run (at + width_of kind * i)) ≡ true → Entries at (i + 1) ≡ passed
  inside at i e o = rw (add-one, one-more at i, e, o) refl

  -- the first that is not decides
  pub outside : (at i n : ℕ) → i < n → Entries at i ≡ passed → between low high (value_at kind run (at + width_of kind * i)) ≡ false
      → refused_by (refusal number (at + width_of kind * i) 0) ≡ Entries at n
  outside at i zero l e o = absurd (omega arith)
  outside at i (suc n) l e o = by (λ m. outside at i n m e o) (dec_lt i n)
    where
      by : (i < n → refused_by (refusal number (at + width_of kind * i) 0) ≡ Entries at n) → Dec (i < n)
          → refused_by (refusal number (at + width_of kind * i) 0) ≡ Entries at (suc n)
      by before (yes m) = rw (one-more at n, ← before m) refl
      by before (no m) = let z : n ≡ i = omega arith in rw (z, one-more at i, e, o) refl
