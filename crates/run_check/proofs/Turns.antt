-- The table of fields in its parts. Assumes nothing.
use mathlib.Core.Path.{◌≡◌, ap, ◌∙◌}
use mathlib.Core.List.{List, ◌∷◌, ◌++◌}
use Prim.Native.Nat.{ℕ}
use lib.ListN.{length}
use borrow.Author.Tests.{eq-eqb}
use Rattle.outcome.specs.Outcome.{Finding, first_of}
use Rattle.layout.specs.Layout.{Form, form_of_run, run_length}
use Rattle.field_check.specs.Field.{field_check, fields_check}
use Rattle.field_check.proofs.Fields.{rows_join}
use Rattle.run_check.specs.Run.{mark_fields, zero_fields, single_fields, base_rates, age_fields, birth_year_fields, fields_of, run_check}

-- the parts of the table are the table
module _ (run : List ℕ) (form : Form) where
  abbrev pub Parts : Finding
  Parts =
      first_of (fields_check run (mark_fields form)) (first_of (fields_check run (zero_fields form)) (first_of (fields_check run single_fields)
      (first_of (field_check run base_rates) (first_of (fields_check run (age_fields form)) (fields_check run (birth_year_fields form))))))

  pub parts : fields_check run (fields_of form) ≡ Parts
  unfolding fields_of fields_check
  parts =
      let terms = age_fields form ++ birth_year_fields form in
      let single = single_fields ++ base_rates ∷ terms in
      rows_join run (mark_fields form) (zero_fields form ++ single)
      ∙ ap (λ (c : Finding). first_of (fields_check run (mark_fields form)) c)
      (rows_join run (zero_fields form) single
      ∙ ap (λ (c : Finding). first_of (fields_check run (zero_fields form)) c)
      (rows_join run single_fields (base_rates ∷ terms)
      ∙ ap (λ (c : Finding). first_of (fields_check run single_fields) (first_of (field_check run base_rates) c))
      (rows_join run (age_fields form) (birth_year_fields form))))

-- a run of its form's length is checked by the form's table
pub whole : (run : List ℕ) → length run ≡ run_length (form_of_run (length run)) → run_check run ≡ fields_check run (fields_of (form_of_run (length run)))
unfolding run_check
whole run l = simp (eq-eqb (length run) (run_length (form_of_run (length run))) l)
