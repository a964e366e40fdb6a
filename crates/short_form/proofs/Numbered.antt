-- No number but those of the papers' list: by the laws of what refuses by numbers of a list. Assumes nothing.
use mathlib.Core.Path.{refl}
use mathlib.Core.List.{List}
use Prim.Native.Nat.{ℕ}
use lib.IntN.{ℤ, pos, neg_ℤ}
use Rattle.outcome.specs.Refusals.{numbers, is_listed, RefusesBy}
use Rattle.outcome.proofs.Refusals.{unless-by, first_by}
use Rattle.field_check.specs.Field.{between}
use Rattle.run_check.proofs.Numbered.{run-numbered}
use Rattle.short_form.specs.ShortForm.{long_term_limit, short_form_check}

pub short-form-numbered : (run : List ℕ) (rate : ℤ) → RefusesBy numbers (short_form_check run rate)
unfolding short_form_check numbers is_listed
short-form-numbered run rate = first_by (run-numbered run) (unless-by (between (neg_ℤ (pos long_term_limit)) (pos long_term_limit) rate) _ refl)
