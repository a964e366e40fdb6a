-- The two forms answer alike: the run in the other form passes its check and stands for the same basis. Assumes nothing.
use mathlib.Core.Path.{◌≡◌, refl, sym, ap, ◌∙◌}
use mathlib.Core.List.{List}
use Prim.Native.Nat.{ℕ}
use lib.IntN.{ℤ, pos}
use Rattle.outcome.specs.Outcome.{passed}
use Rattle.outcome.proofs.Outcome.{both-passed}
use Rattle.layout.specs.Layout.{mpb1, mpb2}
use Rattle.basis.specs.Basis.{Basis, basis_of}
use Rattle.run_check.specs.Run.{run_check}
use Rattle.old_form.specs.OldForm.{in_form, old_form_check}
use Rattle.old_form.proofs.Forms.{forms}
use Rattle.short_form.specs.ShortForm.{short_form_check, short_form_of, short_terms, long_term_of, age_period_of, Shortened}
use Rattle.short_form.proofs.Accepted.{short-form-stands}
use Rattle.both_forms.specs.SameAnswers.{SameAnswers, BothForms}
use Rattle.both_forms.proofs.Alike as same
use Rattle.both_forms.proofs.Within.{same-within}

-- ---- the short forms of two runs that stand for the same basis
module _ (run other : List ℕ) (rate : ℤ) (stands : basis_of run ≡ basis_of other)
    (s : Shortened (basis_of run) rate (basis_of (short_form_of run rate))) (o : Shortened (basis_of other) rate (basis_of (short_form_of other rate))) where
  same-short : basis_of (short_form_of run rate) ≡ basis_of (short_form_of other rate)
  same-short =
      same-within (short_form_of run rate) (short_form_of other rate)
      (s.foundation ∙ ap (λ (b : Basis). b.foundation) stands ∙ sym o.foundation)
      (s.base ∙ ap (λ (b : Basis). b.base) stands ∙ sym o.base)
      (s.addition ∙ ap (λ (b : Basis). b.addition) stands ∙ sym o.addition)
      (s.discount ∙ ap (λ (b : Basis). b.discount) stands ∙ sym o.discount)
      (λ age l h. s.base_rate age l h ∙ ap (λ (b : Basis). b.base_rate age) stands ∙ sym (o.base_rate age l h))
      (λ age l h.
      s.by_age age l h ∙ ap (λ (b : Basis). short_terms (b.by_age age).initial (long_term_of rate age) (age_period_of age)) stands ∙ sym (o.by_age age l h))
      (λ year l h.
      s.by_birth_year year l h ∙ ap (λ (b : Basis). short_terms (b.by_birth_year year).initial (pos 0) 20) stands ∙ sym (o.by_birth_year year l h))

module _ (run other : List ℕ) (checked : run_check run ≡ run_check other) (stands : basis_of run ≡ basis_of other) where
  same-short-check : (rate : ℤ) → short_form_check run rate ≡ short_form_check other rate
  unfolding short_form_check
  same-short-check rate = rw checked refl

  alike : SameAnswers run other
  alike =
      record {
        check = same.same_check run other checked stands;
        basis = same.same-basis run other checked stands;
        improvement = same.same-improvement run other checked stands;
        factor = same.same-factor run other checked stands;
        rate = same.same-rate run other checked stands;
        survivorship = same.same-survivorship run other checked stands;
        expectation = same.same-expectation run other checked stands;
        annuity = same.same-annuity run other checked stands;
        exact_rates = same.same-exact-rates run other checked stands;
        exact_values = same.same-exact-values run other checked stands;
        distances = same.same-distances run other checked stands;
        small_set = same.same-small-set run other checked stands;
        grid_checked = same.same-grid-check run other checked stands;
        grid = same.same-grid run other checked stands;
        start = same.same_start run other checked stands;
        step = same.same_step run other checked stands;
        join = same.same-join run other checked stands;
        short_form = same-short-check;
        shortened = λ rate h.
            same-short run other rate stands ((short-form-stands run rate).differs h) ((short-form-stands other rate).differs (sym (same-short-check rate) ∙ h));
      }

-- ---- the theorem
run-passed : (run : List ℕ) → old_form_check run ≡ passed → run_check run ≡ passed
unfolding old_form_check
run-passed run h = (both-passed _ _ h).0

pub both-forms : BothForms
both-forms =
    record {
      finer = λ run h. let f = forms.finer run h in alike run (in_form mpb2 run) (h ∙ sym f.0) (sym f.1);
      older = λ run h. let f = forms.older run h in alike run (in_form mpb1 run) (run-passed run h ∙ sym f.2) (sym f.3);
      short_forms = λ run other rate s h.
          let k = sym (s.short_form rate) ∙ h in
          alike (short_form_of run rate) (short_form_of other rate) ((short-form-stands run rate).accepted h ∙ sym ((short-form-stands other rate).accepted k))
          (s.shortened rate h);
    }
