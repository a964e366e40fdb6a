-- A table of fields row by row; it passes exactly if every number of every row is between its limits. Assumes nothing.
use mathlib.Core.Path.{◌≡◌, refl, sym, ap, ◌∙◌}
use mathlib.Core.List.{List, [], ◌∷◌, ◌++◌}
use Prim.Native.Nat.{ℕ}
use Rattle.outcome.specs.Outcome.{Finding, passed, first_of}
use Rattle.outcome.proofs.Outcome.{both-passed, first-together}
use Rattle.field_check.specs.declared.Field.{Field}
use Rattle.field_check.specs.Field.{field_check, fields_check}
use Rattle.field_check.proofs.Holds.{Holds, field-holds, field-passes}

module _ (run : List ℕ) where
  infixr 4 ◌and◌
  pub data AllHold : List Field → Type 0 where
    none : AllHold []
    ◌and◌ : {f : Field} {fs : List Field} → Holds run f → AllHold fs → AllHold (f ∷ fs)

  pub all_hold : (fs : List Field) → fields_check run fs ≡ passed → AllHold fs
  unfolding fields_check
  all_hold [] h = none
  all_hold (f ∷ fs) h =
      let p = both-passed (field_check run f) (fields_check run fs) h in
      field-holds run f p.0 and all_hold fs p.1

  pub all_pass : {fs : List Field} → AllHold fs → fields_check run fs ≡ passed
  unfolding fields_check
  all_pass none = refl
  all_pass (◌and◌ {f} {fs} h hs) = rw (field-passes run f h) (all_pass hs)

-- two tables, one after the other
pub rows_join : (run : List ℕ) (fs gs : List Field) → fields_check run (fs ++ gs) ≡ first_of (fields_check run fs) (fields_check run gs)
unfolding fields_check
rows_join run [] gs = refl
rows_join run (f ∷ fs) gs = ap (λ (c : Finding). first_of (field_check run f) c) (rows_join run fs gs) ∙ sym (first-together (field_check run f) _ _)
