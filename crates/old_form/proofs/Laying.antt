-- An accepted run in a form: its length, and what stands in it. Assumes nothing.
use mathlib.Core.Path.{◌≡◌, refl, ap, ◌∙◌}
use mathlib.Core.List.{List, ◌++◌}
use Prim.Native.Nat.{ℕ, ◌+◌, ◌-◌, ◌<◌, ◌≤◌}
use native.Mathlib.Omega.{arith}
use lib.ListN.{length, take, length-replicate, get_or-replicate}
use Rattle.little_endian.specs.Bytes.{byte_at}
use Rattle.layout.specs.Layout.{Form, form_of_run, run_length, mark_of, fields_end, ages, birth_years}
use Rattle.layout.specs.Layout.{foundation_at, age_proportions_at, birth_year_initial_rates_at, birth_year_proportions_at}
use Rattle.layout.proofs.EachForm.{fields-inside, of-run}
use Rattle.basis.specs.Basis.{Accepted}
use Rattle.basis.proofs.Lengths.{long-enough, fields_within}
use Rattle.old_form.specs.OldForm.{proportions_in, bytes_between, last_bytes, ages_in, birth_years_in, in_form}
use Rattle.old_form.proofs.Parts.{Part, between-length, six, all-length, second, third, fourth, fifth, sixth}
use Rattle.old_form.proofs.Proportions.{proportions-length}

-- the parts of a run in a form, and where each begins
module _ (form : Form) (run : List ℕ) where
  abbrev own : Form
  own = form_of_run (length run)

  abbrev pub front : List ℕ
  front = bytes_between run foundation_at age_proportions_at

  abbrev pub age_ps : List ℕ
  age_ps = proportions_in form run age_proportions_at 0 ages

  abbrev pub births : List ℕ
  births = bytes_between run (birth_year_initial_rates_at own) (birth_year_proportions_at own)

  abbrev pub birth_ps : List ℕ
  birth_ps = proportions_in form run (birth_year_proportions_at own) 0 birth_years

  module _ (a : Accepted run) where
    pub front_length : length front ≡ age_proportions_at - foundation_at
    front_length = between-length run foundation_at age_proportions_at (omega (arith, long-enough run a))

    pub births-length : length births ≡ birth_year_proportions_at form - birth_year_initial_rates_at form
    births-length = between-length run (birth_year_initial_rates_at own) (birth_year_proportions_at own) (omega (arith, fields_within run a)) ∙ omega arith

    last-length : length (last_bytes form) ≡ run_length form - fields_end form
    last-length = length-replicate (run_length form - fields_end form) _

    front_ends : age_proportions_at ≡ foundation_at + length front
    front_ends = omega (arith, front_length)

    ages-end : birth_year_initial_rates_at form ≡ age_proportions_at + length age_ps
    ages-end = omega (arith, proportions-length form run age_proportions_at 0 ages)

    births-end : birth_year_proportions_at form ≡ birth_year_initial_rates_at form + length births
    births-end = omega (arith, births-length)

    fields-end : fields_end form ≡ birth_year_proportions_at form + length birth_ps
    fields-end = omega (arith, proportions-length form run (birth_year_proportions_at own) 0 birth_years)

    abbrev all : List ℕ
    all = mark_of form ++ front ++ age_ps ++ births ++ birth_ps ++ last_bytes form

    pub in-six : in_form form run ≡ all
    unfolding in_form ages_in birth_years_in
    in-six = six (mark_of form) front age_ps births birth_ps (last_bytes form)

    pub laid-length : length (in_form form run) ≡ run_length form
    laid-length =
        ap length in-six ∙ all-length (mark_of form) front age_ps births birth_ps (last_bytes form) _ _ _ _ _ refl front_ends ages-end births-end fields-end
        ∙ omega (arith, last-length, fields-inside form)

    pub laid-form : form_of_run (length (in_form form run)) ≡ form
    laid-form = of-run form (length (in_form form run)) laid-length

    pub mark-laid : take 4 (in_form form run) ≡ mark_of form
    unfolding in_form ages_in
    mark-laid = refl

    pub front-laid : Part (in_form form run) foundation_at front
    front-laid = rw in-six (second (mark_of form) front age_ps births birth_ps (last_bytes form) _ _ _ _ _ refl front_ends ages-end births-end fields-end)

    pub age-ps-laid : Part (in_form form run) age_proportions_at age_ps
    age-ps-laid = rw in-six (third (mark_of form) front age_ps births birth_ps (last_bytes form) _ _ _ _ _ refl front_ends ages-end births-end fields-end)

    pub births-laid : Part (in_form form run) (birth_year_initial_rates_at form) births
    births-laid = rw in-six (fourth (mark_of form) front age_ps births birth_ps (last_bytes form) _ _ _ _ _ refl front_ends ages-end births-end fields-end)

    pub birth-year-ps-laid : Part (in_form form run) (birth_year_proportions_at form) birth_ps
    birth-year-ps-laid = rw in-six (fifth (mark_of form) front age_ps births birth_ps (last_bytes form) _ _ _ _ _ refl front_ends ages-end births-end fields-end)

    last-laid : Part (in_form form run) (fields_end form) (last_bytes form)
    last-laid = rw in-six (sixth (mark_of form) front age_ps births birth_ps (last_bytes form) _ _ _ _ _ refl front_ends ages-end births-end fields-end)

    pub zero-laid : (at : ℕ) → fields_end form ≤ at → at < run_length form → byte_at (in_form form run) at ≡ 0
    zero-laid at l h =
        let k = at - fields_end form in
        let e : at ≡ fields_end form + k = omega arith in
        ap (byte_at (in_form form run)) e ∙ last-laid.there k (omega (arith, last-length))
        ∙ get_or-replicate (run_length form - fields_end form) k 0 0 (omega arith)
