-- The next year's factor, or the refusal that is given there. What is stored is read back.
use mathlib.Core.Path.{◌∙◌, ap, sym, refl}
use native.Mathlib.Omega.{arith}
use borrow.Author.Rules.{rules}
use Rattle.history.specs.History.{basis_with}
use Rattle.improvement.proofs.Cases.{first-early}
use Rattle.projection.proofs.Cases.{year-refused}
use Rattle.projection.proofs.Years.{year-small}
use Rattle.sweep.specs.Encoding.{decoded}
use Rattle.sweep.proofs.Numbers.{decoded-factor, decoded-again}
use Rattle.sweep.proofs.next_factor.Goals as goal

pub factor_in-requires : goal.factor_in-requires
factor_in-requires c =
    let a = c.args in
    let early = first-early (basis_with a.b.run.now a.b.history.now) in (
      record { usable = search rules; age_low = search rules; age_high = search rules; year_low = omega arith; birth_high = omega arith },
      search rules,
      search rules,
    )

pub overflow_cast-result : goal.overflow_cast-result
overflow_cast-result c =
    let told = sym c.in-Ok.ensures in
    record { fits = omega (arith, year-small _ _ _ _ _ told) }

pub refused_number-requires : goal.refused_number-requires
refused_number-requires c =
    let w = year-refused _ _ _ _ _ (sym c.in-Err.ensures) in
    (omega (arith, ap (λ x. x.number) w.1, w.3), omega arith)

pub returns-in-Ok : goal.returns-in-Ok
returns-in-Ok c =
    let told = sym c.in-Ok.ensures in
    decoded-factor _ _ (year-small _ _ _ _ _ told) ∙ sym told

pub returns-in-Err : goal.returns-in-Err
returns-in-Err c =
    let r = c in
    let told = sym r.in-Err.ensures in
    ap (decoded _) c.refused_number.ensures ∙ decoded-again _ _ _ _ (year-refused _ _ _ _ _ told) (omega arith) refl ∙ sym told
