-- Numbers whose bytes are the same, and a P that is written and read back. Assumes nothing.
use mathlib.Core.Path.{◌≡◌, refl, ap, ◌∙◌}
use mathlib.Core.List.{List}
use Prim.Native.Nat.{ℕ, ◌+◌, ◌*◌, ◌/◌, ◌%◌, ◌<◌, ◌≤◌}
use native.Mathlib.Nat.{add-zero, zero-add, div-one, one-mul}
use native.Mathlib.Omega.{arith}
use lib.ListN.{length}
use lib.IntN.{pos, nat_abs}
use Rattle.little_endian.specs.Bytes.{byte_at, signed32}
use Rattle.little_endian.proofs.Bytes.{u16-back, same_word}
use Rattle.layout.specs.declared.Number.{Number}
use Rattle.layout.specs.declared.Number.TheVariants.{Byte, Half, Word, SignedWord}
use Rattle.layout.specs.Layout.{Form, mpb1, mpb2, width_of, value_at, proportion_of, proportion_at, proportion_bytes, hundredths_of, greatest_proportion}
use Rattle.old_form.proofs.Parts.{Part}

abbrev SameBytes : ℕ → List ℕ → ℕ → List ℕ → ℕ → Type 0
SameBytes width s at t from = (j : ℕ) → j < width → byte_at s (at + j) ≡ byte_at t (from + j)

pub same-value : (kind : Number) (s t : List ℕ) (at from : ℕ) → SameBytes (width_of kind) s at t from → value_at kind s at ≡ value_at kind t from
same-value Byte s t at from h = ap pos (simp add-zero at (h 0 (omega arith)))
same-value Half s t at from h =
    let e : byte_at s at ≡ byte_at t from = simp add-zero at (h 0 (omega arith)) in
    rw (e, h 1 (omega arith)) refl
same-value Word s t at from h = ap pos (same_word s t at from h)
same-value SignedWord s t at from h = ap signed32 (same_word s t at from h)

-- ---- a P in a form
-- what a form's counting loses nothing of
abbrev pub Counted : Form → ℕ → Type 0
Counted form p = hundredths_of form * (p / hundredths_of form) ≡ p

pub fine : (p : ℕ) → Counted mpb2 p
fine p = simp (div-one, one-mul)

pub whole-per-cents : (p : ℕ) → p % 100 ≡ 0 → Counted mpb1 p
whole-per-cents p h = omega arith

pub bytes-length : (form : Form) (p : ℕ) → length (proportion_bytes form p) ≡ width_of (proportion_of form)
bytes-length mpb1 p = refl
bytes-length mpb2 p = refl

written-value : (form : Form) (p : ℕ) → p ≤ greatest_proportion
    → hundredths_of form * nat_abs (value_at (proportion_of form) (proportion_bytes form p) 0) ≡ hundredths_of form * (p / hundredths_of form)
written-value mpb1 p h = refl
written-value mpb2 p h = rw div-one (ap (λ (n : ℕ). 1 * n) (u16-back p (omega arith)))

pub read_back : (form : Form) (s : List ℕ) (offset place p : ℕ) → p ≤ greatest_proportion → Counted form p
    → Part s (offset + width_of (proportion_of form) * place) (proportion_bytes form p) → proportion_at form s offset place ≡ p
read_back form s offset place p h c part =
    let n = bytes-length form p in
    ap (λ z. hundredths_of form * nat_abs z)
    (same-value (proportion_of form) s (proportion_bytes form p) (offset + width_of (proportion_of form) * place) 0 (λ j l. rw zero-add (part.there j (omega arith))))
    ∙ written-value form p h ∙ c
