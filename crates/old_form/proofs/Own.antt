-- An accepted run in its own form is itself: each part of it is the stretch of the run where it stands. Assumes nothing.
use mathlib.Core.Path.{◌≡◌, refl, sym, ap, ◌∙◌}
use mathlib.Core.List.{List, [], ◌∷◌, ◌++◌}
use Prim.Native.Nat.{ℕ, zero, suc, ◌+◌, ◌*◌, ◌-◌, ◌<◌, ◌≤◌}
use native.Mathlib.Nat.{mul-zero, mul-suc, one-mul, div-one}
use native.Mathlib.Numerals.{add-one}
use native.Mathlib.Omega.{arith}
use lib.ListN.{length, take, drop, length-replicate, length-drop, get_or-replicate, take-append-drop}
use lib.Seq.{drop-cons, drop-drop, take-add, get_or-drop, ext_get_or}
use Rattle.little_endian.specs.Bytes.{byte_at}
use Rattle.little_endian.proofs.Bytes.{bytes-of-u16}
use Rattle.layout.specs.Layout.{Form, mpb1, mpb2}
use Rattle.layout.specs.Layout.{width_of, proportion_of, proportion_at, proportion_bytes, form_of_run, run_length, fields_end, ages, birth_years}
use Rattle.layout.specs.Layout.{foundation_at, age_proportions_at, birth_year_initial_rates_at, birth_year_proportions_at}
use Rattle.basis.specs.Basis.{Accepted}
use Rattle.basis.proofs.Lengths.{fields_within}
use Rattle.old_form.specs.OldForm.{proportions_in, bytes_between, last_bytes, in_form}
use Rattle.old_form.proofs.Laying.{in-six}

-- six stretches of a list, one after another
glued : (run a b c d e f : List ℕ) (n₁ n₂ n₃ n₄ n₅ : ℕ) → n₁ ≤ n₂ → n₂ ≤ n₃ → n₃ ≤ n₄ → n₄ ≤ n₅
    → a ≡ take n₁ run → b ≡ bytes_between run n₁ n₂ → c ≡ bytes_between run n₂ n₃ → d ≡ bytes_between run n₃ n₄ → e ≡ bytes_between run n₄ n₅ → f ≡ drop n₅ run
    → a ++ b ++ c ++ d ++ e ++ f ≡ run
glued run a b c d e f n₁ n₂ n₃ n₄ n₅ h₂ h₃ h₄ h₅ ea eb ec ed ee ef =
    rw (ea, eb, ec, ed, ee, ef, more n₁ n₂ h₂, more n₂ n₃ h₃, more n₃ n₄ h₄, more n₄ n₅ h₅) (take-append-drop n₅ run)
  where
    more : (n m : ℕ) → n ≤ m → take n run ++ bytes_between run n m ≡ take m run
    more n m h = let e : n + (m - n) ≡ m = omega arith in sym (take-add n (m - n) run) ∙ ap (λ (k : ℕ). take k run) e

module _ (run : List ℕ) (byte : (i : ℕ) → byte_at run i < 256) where
  -- ---- a P, and the P of a table
  one : (form : Form) (offset place : ℕ) → offset + width_of (proportion_of form) * place + width_of (proportion_of form) ≤ length run
      → proportion_bytes form (proportion_at form run offset place) ≡ take (width_of (proportion_of form)) (drop (offset + width_of (proportion_of form) * place) run)
  one mpb1 offset place h = rw (drop-cons run (offset + 1 * place) 0 (omega arith)) (ap (λ (n : ℕ). n ∷ []) (omega arith))
  one mpb2 offset place h =
      let at = offset + 2 * place in
      rw (one-mul, div-one, drop-cons run at 0 (omega arith), drop-cons run (suc at) 0 (omega arith))
      (sym (bytes-of-u16 (byte_at run at) (byte_at run (at + 1)) (byte at) (byte (at + 1))) ∙ ap (λ (n : ℕ). byte_at run at ∷ byte_at run n ∷ []) (add-one at))

  module _ (form : Form) (own : form_of_run (length run) ≡ form) where
    abbrev width : ℕ
    width = width_of (proportion_of form)

    table : (offset place n : ℕ) → offset + width * place + width * n ≤ length run
        → proportions_in form run offset place n ≡ take (width * n) (drop (offset + width * place) run)
    unfolding proportions_in
    table offset place zero h = rw mul-zero refl
    table offset place (suc n) h =
        let o = offset + width * place in
        let first = one form offset place (omega (arith, mul-suc width n)) in
        let next : offset + width * (place + 1) ≡ o + width = omega arith in
        let long : width + width * n ≡ width * suc n = omega arith in
        let rest = table offset (place + 1) n (omega arith) in
        rw own (rw (first, rest, next, ← drop-drop width o run) (sym (take-add width (width * n) (drop o run)) ∙ ap (λ (k : ℕ). take k (drop o run)) long))

    stretch : (offset n to : ℕ) → to ≡ offset + width * n → to ≤ length run → proportions_in form run offset 0 n ≡ bytes_between run offset to
    stretch offset n to e h =
        let start : offset + width * 0 ≡ offset = omega (arith, mul-zero width) in
        let size : width * n ≡ to - offset = omega arith in
        table offset 0 n (omega arith) ∙ ap (λ (o : ℕ). take (width * n) (drop o run)) start ∙ ap (λ (k : ℕ). take k (drop offset run)) size

-- ---- the whole
module _ (run : List ℕ) (a : Accepted run) (byte : (i : ℕ) → byte_at run i < 256) where
  abbrev own : Form
  own = form_of_run (length run)

  last-own : last_bytes own ≡ drop (fields_end own) run
  last-own =
      let n = run_length own - fields_end own in
      let l : length (last_bytes own) ≡ n = length-replicate n _ in
      ext_get_or 0 (last_bytes own) (drop (fields_end own) run) (l ∙ rw length-drop (ap (λ (k : ℕ). k - fields_end own) (sym a.size)))
      (λ i h. get_or-replicate n i 0 0 (omega arith)
      ∙ sym (get_or-drop (fields_end own) run i 0 ∙ a.last_zeros (fields_end own + i) (omega arith) (omega (arith, a.size))))

  pub own-form : in_form own run ≡ run
  own-form =
      let w = fields_within run a in
      in-six own run a
      ∙ glued run _ _ _ _ _ _ foundation_at age_proportions_at (birth_year_initial_rates_at own) (birth_year_proportions_at own) (fields_end own)
      (omega arith) (omega arith) (omega arith) (omega arith) (sym a.mark) refl
      (stretch run byte own refl age_proportions_at ages (birth_year_initial_rates_at own) refl (omega arith)) refl
      (stretch run byte own refl (birth_year_proportions_at own) birth_years (fields_end own) refl w) last-own
