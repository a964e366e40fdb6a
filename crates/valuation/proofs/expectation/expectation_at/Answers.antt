-- After j turns of the loop the survivors and the total are those of `Living`; the total of N years and the half are the expectation.
use mathlib.Core.Path.{◌≡◌, refl}
use Prim.Native.Nat.{◌+◌}
use native.Mathlib.Omega.{arith}
use borrow.Author.Rules.{rules}
use Rattle.history.specs.History.{basis_with}
use Rattle.outcome.specs.Outcome.{refused}
use Rattle.survivorship.proofs.Survivors.{survivors-answered}
use Rattle.valuation.specs.Valuation.{expectation_of}
use Rattle.valuation.proofs.Lives.{Living, living-first, living-next, lived-refused, lived-last}
use Rattle.valuation.proofs.expectation.expectation_at.Goals as goal

-- the survivors of the year are counted in
living : (c : goal.In_ok-s) →
    let a = c.args in
    let x = c.in_ok-s.s in
    Living (basis_with a.b.run.now a.b.history.now) a.kind (a.age + a.deferment) (a.year + a.deferment) (c.loop-j.j + 1) x (c.loop-j.total + x)
living c =
    let i = c.loop-j.invariant in
    living-next _ _ _ _ i (survivors-answered _ _ _ _ _ _ c.year_on-year.ensures i.survivors c.in_ok-s.ensures)

pub loop-j-init : goal.loop-j-init
loop-j-init c = living-first _ _ _ _

pub returns-in_err-s : goal.returns-in_err-s
returns-in_err-s c =
    let a = c.args in
    let i = c.loop-j.invariant in
    let h = survivors-answered _ _ _ _ _ _ c.year_on-year.ensures i.survivors c.in_err-s.ensures in
    let e : refused c.in_err-s.field-0.0 ≡ expectation_of (basis_with a.b.run.now a.b.history.now) a.kind a.age a.deferment a.year =
    lived-refused _ _ _ _ _ refl refl i (omega arith) h in
    search rules

pub overflow_add-total : goal.overflow_add-total
overflow_add-total c = omega (arith, (living c).sum)

pub loop-j-preserved : goal.loop-j-preserved
loop-j-preserved c = living c

pub returns : goal.returns
returns c = lived-last _ _ _ _ _ refl refl c.loop-j.invariant (omega arith)
