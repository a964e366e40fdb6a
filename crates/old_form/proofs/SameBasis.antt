-- An accepted run in a form whose counting loses nothing of its P stands for the same basis, and is accepted. Assumes nothing.
use mathlib.Core.Path.{◌≡◌, refl, ap, ◌∙◌, fun_ext}
use mathlib.Core.List.{List}
use Prim.Native.Nat.{ℕ, ◌+◌, ◌*◌, ◌-◌, ◌<◌, ◌≤◌}
use native.Mathlib.Omega.{arith}
use lib.ListN.{length}
use lib.IntN.{nat_abs}
use Rattle.little_endian.specs.Bytes.{byte_at}
use Rattle.layout.specs.declared.Number.{Number}
use Rattle.layout.specs.declared.Number.TheVariants.{Byte, Half, Word, SignedWord}
use Rattle.layout.specs.Layout.{Form, width_of, value_at, proportion_at, form_of_run, ages, birth_years}
use Rattle.layout.specs.Layout.{foundation_at, base_at, addition_at, discount_at, base_rates_at}
use Rattle.layout.specs.Layout.{age_initial_rates_at, age_long_term_rates_at, age_periods_at, age_proportions_at}
use Rattle.layout.specs.Layout.{birth_year_initial_rates_at, birth_year_long_term_rates_at, birth_year_periods_at, birth_year_proportions_at}
use Rattle.basis.specs.Basis.{basis_of, age_terms_at, birth_year_terms_at, age_place, birth_year_place, Accepted}
use Rattle.basis.proofs.Lengths.{long-enough, fields_within}
use Rattle.basis.proofs.Places.{age-place, birth-year-place, age-place-inside, birth-year-place-inside}
use Rattle.old_form.specs.OldForm.{in_form, ProportionsWithin}
use Rattle.old_form.proofs.Parts.{kept}
use Rattle.old_form.proofs.Numbers.{Counted, same-value}
use Rattle.old_form.proofs.Proportions.{table-back}
use Rattle.old_form.proofs.Laying.{laid-length, laid-form, mark-laid, front-laid, age-ps-laid, births-laid, birth-year-ps-laid, zero-laid}

-- ---- the limits of P
module _ (run : List ℕ) (a : Accepted run) where
  pub age-limits : ProportionsWithin run age_proportions_at ages
  unfolding basis_of
  age-limits i l =
      let p : age_place (20 + i) ≡ i = age-place (20 + i) (omega arith) ∙ omega arith in
      rw p at (a.limits.by_age (20 + i) (omega arith) (omega arith)).remaining

  pub birth-year-limits : ProportionsWithin run (birth_year_proportions_at (form_of_run (length run))) birth_years
  unfolding basis_of
  birth-year-limits i l =
      let p : birth_year_place (1842 + i) ≡ i = birth-year-place (1842 + i) (omega arith) ∙ omega arith in
      rw p at (a.limits.by_birth_year (1842 + i) (omega arith) (omega arith)).remaining

-- every P of a run is a number of a form's own counting
pub record Counts (form : Form) (run : List ℕ) : Type 0 where
  pub by_age : (i : ℕ) → i < ages → Counted form (proportion_at (form_of_run (length run)) run age_proportions_at i)
  pub by_birth_year : (i : ℕ) → i < birth_years
      → Counted form (proportion_at (form_of_run (length run)) run (birth_year_proportions_at (form_of_run (length run))) i)

module _ (form : Form) (run : List ℕ) (a : Accepted run) where
  abbrev own : Form
  own = form_of_run (length run)

  abbrev laid : List ℕ
  laid = in_form form run

  -- ---- the fields before the age P stand where they stood
  front-byte : (at : ℕ) → foundation_at ≤ at → at < age_proportions_at → byte_at laid at ≡ byte_at run at
  front-byte at l h =
      kept laid run foundation_at foundation_at age_proportions_at (omega (arith, long-enough run a)) (front-laid form run a)
      (at - foundation_at) at at (omega arith) (omega arith) (omega arith)

  front-value : (kind : Number) (at : ℕ) → foundation_at ≤ at → at + width_of kind ≤ age_proportions_at → value_at kind laid at ≡ value_at kind run at
  front-value kind at l h = same-value kind laid run at at (λ j m. front-byte (at + j) (omega arith) (omega arith))

  -- those by birth year before P, from the first of them on
  births-value : (kind : Number) (k x y : ℕ) → k + width_of kind ≤ birth_year_proportions_at form - birth_year_initial_rates_at form
      → x ≡ birth_year_initial_rates_at form + k → y ≡ birth_year_initial_rates_at own + k → value_at kind laid x ≡ value_at kind run y
  births-value kind k x y h e f =
      same-value kind laid run x y
      (λ j m. kept laid run (birth_year_initial_rates_at form) (birth_year_initial_rates_at own) (birth_year_proportions_at own) (omega (arith, fields_within run a))
      (births-laid form run a) (k + j) (x + j) (y + j) (omega arith) (omega arith) (omega arith))

  module _ (c : Counts form run) where
    age-terms : (i : ℕ) → i < ages → age_terms_at form laid i ≡ age_terms_at own run i
    age-terms i l =
        rw (
          front-value SignedWord (age_initial_rates_at + 4 * i) (omega arith) (omega arith),
          front-value SignedWord (age_long_term_rates_at + 4 * i) (omega arith) (omega arith),
          ap nat_abs (front-value Byte (age_periods_at + 1 * i) (omega arith) (omega arith)),
          table-back form run age_proportions_at laid age_proportions_at ages (age-ps-laid form run a) (age-limits run a) c.by_age i l,
        ) refl

    birth-year-terms : (i : ℕ) → i < birth_years → birth_year_terms_at form laid i ≡ birth_year_terms_at own run i
    birth-year-terms i l =
        rw (
          births-value SignedWord (4 * i) (birth_year_initial_rates_at form + 4 * i) (birth_year_initial_rates_at own + 4 * i) (omega arith) (omega arith) (omega arith),
          births-value SignedWord (4 * birth_years + 4 * i) (birth_year_long_term_rates_at form + 4 * i) (birth_year_long_term_rates_at own + 4 * i)
              (omega arith) (omega arith) (omega arith),
          ap nat_abs (births-value Byte (8 * birth_years + i) (birth_year_periods_at form + 1 * i) (birth_year_periods_at own + 1 * i) (omega arith) (omega arith) (omega arith)),
          table-back form run (birth_year_proportions_at own) laid (birth_year_proportions_at form) birth_years (birth-year-ps-laid form run a) (birth-year-limits run a)
              c.by_birth_year i l,
        ) refl

    pub same-basis : basis_of laid ≡ basis_of run
    unfolding basis_of
    same-basis =
        let rates = fun_ext (λ age. ap nat_abs (front-value Word (base_rates_at + 4 * age_place age) (omega arith) (omega (arith, age-place-inside age)))) in
        let by-age = fun_ext (λ age. age-terms (age_place age) (age-place-inside age)) in
        let by-birth-year = fun_ext (λ year. birth-year-terms (birth_year_place year) (birth-year-place-inside year)) in
        rw (laid-form form run a)
        (rw (
          ap nat_abs (front-value Half foundation_at (omega arith) (omega arith)),
          ap nat_abs (front-value Half base_at (omega arith) (omega arith)),
          front-value SignedWord addition_at (omega arith) (omega arith),
          front-value SignedWord discount_at (omega arith) (omega arith),
          rates,
          by-age,
          by-birth-year,
        ) refl)

    pub laid-accepted : Accepted laid
    laid-accepted =
        record {
          size = rw (laid-form form run a) (laid-length form run a);
          mark = rw (laid-form form run a) (mark-laid form run a);
          zeros = λ at l h. front-byte at (omega arith) (omega arith) ∙ a.zeros at l h;
          last_zeros = λ at l h. zero-laid form run a at (rw (laid-form form run a) at l) (omega (arith, laid-length form run a));
          limits = rw same-basis a.limits;
        }
