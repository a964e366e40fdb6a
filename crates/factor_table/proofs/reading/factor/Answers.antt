-- What is stored is the factor of its year; where that is the year before, the direct engine's step is left.
use mathlib.Core.Path.{◌≡◌, ◌∙◌, sym, refl}
use native.Mathlib.Omega.{arith}
use borrow.Author.Rules.{rules}
use Rattle.outcome.specs.Outcome.{refused}
use Rattle.projection.specs.Projection.{factor_of}
use Rattle.history.specs.History.{basis_with}
use Rattle.improvement.proofs.Cases.{first-early}
use Rattle.projection.proofs.Years.{factor-bounded}
use Rattle.factor_table.proofs.StoredFactors.{year-before, stored-factor, factor-itself, factor-between, factor-refused}
use Rattle.factor_table.proofs.reading.factor.Goals as goal

pub returns-in_err-last : goal.returns-in_err-last
returns-in_err-last c =
    let a = c.args in
    let e : refused c.in_err-last.field-0.0 ≡ factor_of (basis_with a.t.basis.run.now a.t.basis.history.now) a.age a.year =
    factor-refused a.t.basis.run.now a.t.basis.history.now a.t.numbers.now a.age a.year c.requires a.t.filled _ (sym c.in_err-last.ensures) in
    search rules

pub returns-then-is_stored : goal.returns-then-is_stored
returns-then-is_stored c =
    let a = c.args in
    c.in_ok-last.ensures
    ∙ factor-itself a.t.basis.run.now a.t.basis.history.now a.t.numbers.now a.age a.year (search rules) (search rules) (sym c.is_stored.ensures ∙ c.if-is_stored.true)

pub factor_in-requires : goal.factor_in-requires
factor_in-requires c =
    let a = c.args in
    let early = first-early (basis_with a.t.basis.run.now a.t.basis.history.now) in
    let late = year-before a.year (sym c.is_stored.ensures ∙ c.if-is_stored.false) in
    let table = stored-factor a.t.basis.run.now a.t.basis.history.now a.t.numbers.now a.age a.year c.requires a.t.filled in (
      record {
        usable = c.requires.usable;
        age_low = c.requires.age_low;
        age_high = c.requires.age_high;
        year_low = omega (arith, early, late.0, c.requires.usable.basis.limits.base_high);
        birth_high = c.requires.birth_high;
      },
      search rules,
      factor-bounded _ _ _ (c.in_ok-last.ensures ∙ table) _ refl,
    )

pub returns : goal.returns
returns c =
    let a = c.args in
    c.factor_in.ensures
    ∙ factor-between a.t.basis.run.now a.t.basis.history.now a.t.numbers.now a.age a.year c.requires a.t.filled (sym c.is_stored.ensures ∙ c.if-is_stored.false) _
    (sym c.in_ok-last.ensures)
