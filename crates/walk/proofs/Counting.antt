-- The variant of a loop that counts i up to n: it ends, since n - i falls.
use Prim.Native.Nat.{ℕ, ◌+◌, ◌-◌, ◌≤◌, ◌<◌}
use native.Mathlib.Numerals.{add-one-le, add-one-dec}
use mathlib.Core.WellFounded.InvImage
use mathlib.Core.WellFounded.{WellFounded}
use lib.WfN.{lt-wf_rel}
use lib.Dec.{T, ltb, ltb→lt}

module _ (n : ℕ) where
  abbrev pub Upto : Type 0
  Upto = (i : ℕ) × (i ≤ n)

  abbrev pub Nearer : Upto → Upto → Type 0
  Nearer j i = n - j.0 < n - i.0

  pub nearer-wf : WellFounded Nearer
  nearer-wf = InvImage.wf (λ (i : Upto). n - i.0) lt-wf_rel.wf

  -- one more, where the test of the loop holds
  abbrev pub next : (i : Upto) → T (ltb i.0 n) → Upto
  next i less = (i.0 + 1, add-one-le (ltb→lt i.0 n less))

  pub next-nearer : (i : Upto) (less : T (ltb i.0 n)) → Nearer (next i less) i
  next-nearer i less = add-one-dec n i.0 (ltb→lt i.0 n less)
