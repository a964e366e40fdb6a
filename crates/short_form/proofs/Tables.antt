-- The tables that the short form writes entry by entry, the long-term rates by age, the periods by age and the P: what an entry is, how
-- wide, and a P read again. Assumes nothing.
use mathlib.Core.Path.{◌≡◌, refl}
use mathlib.Core.List.{List, [], ◌∷◌}
use Prim.Native.Nat.{ℕ, ◌+◌, ◌*◌, ◌<◌}
use native.Mathlib.Nat.{add-zero}
use native.Mathlib.Omega.{arith}
use lib.ListN.{length}
use lib.IntN.{ℤ, nat_abs}
use Rattle.little_endian.specs.Bytes.{byte_at, i32_bytes}
use Rattle.layout.specs.Layout.{Form, mpb1, mpb2, width_of, value_at, proportion_of, hundredths_of, proportion_bytes}
use Rattle.short_form.specs.ShortForm.{long_term_of, age_period_of, every_proportion}

abbrev pub rate-entry : ℤ → ℕ → List ℕ
rate-entry rate age = i32_bytes (long_term_of rate age)

pub rate-width : (rate : ℤ) (age : ℕ) → length (rate-entry rate age) ≡ 4
rate-width rate age = refl

abbrev pub period-entry : ℕ → List ℕ
period-entry age = age_period_of age ∷ []

pub period-width : (age : ℕ) → length (period-entry age) ≡ 1
period-width age = refl

abbrev pub proportion-entry : Form → ℕ → List ℕ
proportion-entry form place = proportion_bytes form every_proportion

pub proportion-width : (form : Form) (place : ℕ) → length (proportion-entry form place) ≡ width_of (proportion_of form)
proportion-width mpb1 place = refl
proportion-width mpb2 place = refl

-- what stands where the bytes of a P do
pub proportion-is : (form : Form) (s : List ℕ) (at : ℕ)
    → ((j : ℕ) → j < width_of (proportion_of form) → byte_at s (at + j) ≡ byte_at (proportion_bytes form every_proportion) j)
    → hundredths_of form * nat_abs (value_at (proportion_of form) s at) ≡ every_proportion
proportion-is mpb1 s at h = let e : byte_at s at ≡ byte_at (proportion_bytes mpb1 every_proportion) 0 = simp add-zero at (h 0 (omega arith)) in rw e refl
proportion-is mpb2 s at h =
    let e : byte_at s at ≡ byte_at (proportion_bytes mpb2 every_proportion) 0 = simp add-zero at (h 0 (omega arith)) in
    rw (e, h 1 (omega arith)) refl
