-- After k years the factor so far is the definition's after k steps; a refusal stands in every later year.
use mathlib.Core.Path.{◌≡◌, sym}
use Prim.Native.Nat.{◌-◌}
use native.Mathlib.Numerals.{add-one}
use native.Mathlib.Omega.{arith}
use borrow.Author.Rules.{rules}
use Rattle.history.specs.History.{basis_with}
use Rattle.outcome.specs.Outcome.{refused, steps}
use Rattle.outcome.proofs.Outcome.{persists}
use Rattle.improvement.proofs.Cases.{first-early}
use Rattle.projection.specs.Projection.{factor_of}
use Rattle.projection.proofs.Years.{turn, ended, year-small}
use Rattle.projection.proofs.factor.factor_at.Goals as goal

pub loop-k-init : goal.loop-k-init
unfolding steps
loop-k-init c = search rules

-- stands behind what the year's factor is, so that a year that is not the definition's fails there first
pub factor_in-requires : goal.factor_in-requires
factor_in-requires c =
    let base = c.base_year-base.ensures in (
      record {
        usable = c.requires.usable;
        age_low = c.requires.age_low;
        age_high = c.requires.age_high;
        year_low = omega (arith, base, first-early (basis_with c.args.b.run.now c.args.b.history.now));
        birth_high = omega (arith, base, c.requires.birth_high);
      },
      c.age_terms-terms.ensures,
      omega (arith, c.loop-k.invariant.0),
    )

pub returns-in_err-factor : goal.returns-in_err-factor
returns-in_err-factor c =
    let a = c.args in
    let n = a.year - c.base_year-base.result in
    let here = turn _ _ _ _ c.base_year-base.ensures c.loop-k.invariant.1 c.in_err-factor.ensures in
    let e : refused c.in_err-factor.field-0.0 ≡ factor_of (basis_with a.b.run.now a.b.history.now) a.age a.year =
    ended _ _ _ n _ (omega (arith, c.base_year-base.ensures)) (persists _ _ _ _ _ (omega arith) here) in
    search rules

pub loop-k-preserved : goal.loop-k-preserved
loop-k-preserved c =
    let v = c.in_ok-factor.ensures in
    (year-small _ _ _ _ _ (sym v), rw add-one (turn _ _ _ _ c.base_year-base.ensures c.loop-k.invariant.1 v))

pub returns : goal.returns
returns c =
    ended _ _ _ _ _ (omega (arith, c.base_year-base.ensures)) c.loop-k.invariant.1
