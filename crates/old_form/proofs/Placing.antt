-- One part of a run of MPB1 after another, put into an output. Assumes nothing.
use mathlib.Core.Path.{◌≡◌, refl, sym, ap, ◌∙◌}
use mathlib.Core.List.{List, ◌++◌, append-nil}
use Prim.Native.Nat.{ℕ, ◌+◌, ◌≤◌}
use native.Mathlib.Omega.{arith}
use lib.ListN.{length, length-append}
use Rattle.layout.specs.Layout.{mpb1, form_of_run, run_length, mark_of, ages, birth_years}
use Rattle.layout.specs.Layout.{foundation_at, age_proportions_at, birth_year_initial_rates_at, birth_year_proportions_at}
use Rattle.lent.specs.Lent.{placed}
use Rattle.lent.proofs.Lent.{then, placed-whole}
use Rattle.basis.specs.Basis.{Accepted}
use Rattle.old_form.specs.OldForm.{ages_in, birth_years_in, in_form}
use Rattle.old_form.proofs.Proportions.{proportions-length}
use Rattle.old_form.proofs.Laying.{front, age_ps, births, birth_ps, front_length, births-length, laid-length}

-- two parts, and three
pub two-parts : (out x y p q : List ℕ) (at at₁ : ℕ) → at₁ ≡ at + length p → at₁ + length q ≤ length out
    → x ≡ placed out at p → y ≡ placed x at₁ q → y ≡ placed out at (p ++ q)
two-parts out x y p q at at₁ e h i j = j ∙ then out at p (omega arith) x i at₁ q e

pub three-parts : (out x y z p q r : List ℕ) (at at₁ at₂ : ℕ) → at₁ ≡ at + length p → at₂ ≡ at₁ + length q → at₂ + length r ≤ length out
    → x ≡ placed out at p → y ≡ placed x at₁ q → z ≡ placed y at₂ r → z ≡ placed out at (p ++ q ++ r)
three-parts out x y z p q r at at₁ at₂ e f h i j k =
    let n : length (p ++ q) ≡ length p + length q = length-append p q in
    two-parts out y z (p ++ q) r at at₂ (omega arith) h (two-parts out x y p q at at₁ e (omega arith) i j) k

module _ (run : List ℕ) (a : Accepted run) where
  ages-length : length (ages_in mpb1 run) ≡ birth_year_initial_rates_at mpb1
  unfolding ages_in
  ages-length =
      length-append (mark_of mpb1 ++ front mpb1 run) (age_ps mpb1 run)
      ∙ omega (arith, length-append (mark_of mpb1) (front mpb1 run), front_length mpb1 run a, proportions-length mpb1 run age_proportions_at 0 ages)

  parts-length : length (in_form mpb1 run) ≡ length (ages_in mpb1 run) + length (birth_years_in mpb1 run)
  unfolding in_form
  parts-length = length-append (ages_in mpb1 run) (birth_years_in mpb1 run)

  together : ages_in mpb1 run ++ birth_years_in mpb1 run ≡ in_form mpb1 run
  unfolding in_form
  together = refl

  module _ (out : List ℕ) where
    pub ages-placed : (x y z : List ℕ) → run_length mpb1 ≤ length out → x ≡ placed out 0 (mark_of mpb1) → y ≡ placed x foundation_at (front mpb1 run)
        → z ≡ placed y age_proportions_at (age_ps mpb1 run) → z ≡ placed out 0 (ages_in mpb1 run)
    unfolding ages_in
    ages-placed x y z room =
        let n = front_length mpb1 run a in
        let m = proportions-length mpb1 run age_proportions_at 0 ages in
        three-parts out x y z (mark_of mpb1) (front mpb1 run) (age_ps mpb1 run) 0 foundation_at age_proportions_at (omega arith) (omega arith) (omega arith)

    pub birth-years-placed : (x y : List ℕ) → run_length mpb1 ≤ length out → x ≡ placed out (birth_year_initial_rates_at mpb1) (births mpb1 run)
        → y ≡ placed x (birth_year_proportions_at mpb1) (birth_ps mpb1 run) → y ≡ placed out (birth_year_initial_rates_at mpb1) (birth_years_in mpb1 run)
    unfolding birth_years_in
    birth-years-placed x y room i j =
        let n = births-length mpb1 run a in
        let m = proportions-length mpb1 run (birth_year_proportions_at (form_of_run (length run))) 0 birth_years in
        two-parts out x y (births mpb1 run) (birth_ps mpb1 run) (birth_year_initial_rates_at mpb1) (birth_year_proportions_at mpb1) (omega arith) (omega arith) i j
        ∙ ap (placed out (birth_year_initial_rates_at mpb1)) (sym (append-nil (births mpb1 run ++ birth_ps mpb1 run)))

    pub all_placed : (x y : List ℕ) → length out ≡ run_length mpb1 → x ≡ placed out 0 (ages_in mpb1 run)
        → y ≡ placed x (birth_year_initial_rates_at mpb1) (birth_years_in mpb1 run) → y ≡ in_form mpb1 run
    all_placed x y room i j =
        let n = ages-length in
        let m = laid-length mpb1 run a in
        let k = parts-length in
        two-parts out x y (ages_in mpb1 run) (birth_years_in mpb1 run) 0 (birth_year_initial_rates_at mpb1) (omega arith) (omega arith) i j
        ∙ ap (placed out 0) together ∙ placed-whole out (in_form mpb1 run) (omega arith)
