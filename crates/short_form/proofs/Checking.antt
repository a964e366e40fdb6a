-- The short form's check behind the run's own, and what it lets through, where there is room.
-- Assumes nothing.
use mathlib.Core.Path.{◌≡◌, refl, sym, ◌∙◌}
use mathlib.Core.List.{List}
use Prim.Native.Nat.{ℕ, ◌-◌, ◌≤◌}
use lib.ListN.{length}
use lib.IntN.{ℤ, pos, neg_ℤ, nat_abs}
use Rattle.layout.specs.Layout.{Form, form_of_run, run_length, birth_year_initial_rates_at}
use Rattle.basis.specs.Basis.{Accepted}
use Rattle.outcome.specs.Outcome.{passed}
use Rattle.run_check.specs.Run.{run_check}
use Rattle.outcome.proofs.Outcome.{unless-passed, both-passed}
use Rattle.field_check.proofs.Limits.{opened, size}
use Rattle.run_check.proofs.Acceptance.{accepted}
use Rattle.lent.proofs.Lent.{enough, put-in-front}
use Rattle.lent.specs.Lent.{count_check, placed, written}
use Rattle.short_form.specs.ShortForm.{long_term_limit, short_form_check, ages_of, birth_years_of, short_form_of}
use Rattle.short_form.proofs.Placing.{short-form-placed}

module _ (run : List ℕ) (rate : ℤ) where
  pub within-limits : short_form_check run rate ≡ passed → Accepted run × (nat_abs rate ≤ long_term_limit)
  unfolding short_form_check
  within-limits h =
      let e = both-passed (run_check run) _ h in
      (accepted run e.0, size (long_term_limit - 1) rate (opened (neg_ℤ (pos long_term_limit)) (pos long_term_limit) rate (unless-passed _ _ e.1)))

  pub right_size : short_form_check run rate ≡ passed → length run ≡ run_length (form_of_run (length run))
  right_size h = (within-limits h).0.size

  pub within : short_form_check run rate ≡ passed → nat_abs rate ≤ long_term_limit
  within h = (within-limits h).1

  pub written_in_front : (form : Form) (out a b : List ℕ) → form ≡ form_of_run (length run) → short_form_check run rate ≡ passed
      → count_check (run_length form) (length out) ≡ passed → a ≡ placed out 0 (ages_of form run rate)
      → b ≡ placed a (birth_year_initial_rates_at form) (birth_years_of form run) → b ≡ written passed (short_form_of run rate) out
  written_in_front form out a b e h r f g =
      let long : length run ≡ run_length form = rw e (right_size h) in
      short-form-placed form run long rate out a b (sym e) (enough (run_length form) (length out) r) f g
      ∙ put-in-front passed (short_form_of run rate) out refl

pub ruleset let_through = (enough, right_size, within, written_in_front)
