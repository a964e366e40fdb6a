-- After j turns of the loop the survivors and both sums are those of `SoFar`; at age 150 the sums are whole.
use mathlib.Core.Path.{◌≡◌, ◌∙◌, ap, sym}
use Prim.Native.Nat.{◌+◌}
use native.Mathlib.Omega.{arith}
use lib.IntN.{pos}
use borrow.Author.Rules.{rules}
use Rattle.arithmetic.specs.Fraction.{U}
use Rattle.history.specs.History.{basis_with}
use Rattle.history.proofs.With.{limits-with}
use Rattle.outcome.specs.Outcome.{refused}
use Rattle.survivorship.proofs.Survivors.{survivors-answered}
use Rattle.valuation.specs.Valuation.{expectation_of, annuity_of}
use Rattle.valuation.proofs.Discount.{discount-small}
use Rattle.valuation.proofs.Lives.{living-next}
use Rattle.swept_points.specs.Inner.DeferredPayment.{deferred_payment}
use Rattle.swept_points.proofs.SoFar.{so-far-first, so-far-next, expectation-refused, annuity-refused, expectation-last, annuity-last}
use Rattle.swept_points.proofs.life_values.life_values_from.Goals as goal

pub deferred_payment-annuity-requires : goal.deferred_payment-annuity-requires
deferred_payment-annuity-requires c =
    let worth = ap pos c.discount.ensures ∙ c.args.t.filled.discounts 0 (omega arith) in
    (omega (arith, discount-small _ (limits-with c.requires.start.usable) _ _ (omega arith) (sym worth)), omega arith)

pub loop-j-init : goal.loop-j-init
loop-j-init c =
    let worth = ap pos c.discount.ensures ∙ c.args.t.filled.discounts 0 (omega arith) in
    let paid = c.deferred_payment-annuity.ensures in
    so-far-first (paid.0 ∙ ap (λ v. deferred_payment v c.args.deferment 0 (pos U)) worth, paid.1)

-- no survivors where a rate is refused
pub returns-in_err-s-clause-expectation : goal.returns-in_err-s-clause-expectation
returns-in_err-s-clause-expectation c =
    let a = c.args in
    let i = c.loop-j.invariant in
    let h = survivors-answered _ _ _ _ _ _ c.year_on.ensures i.living.survivors c.in_err-s.ensures in
    let e : refused c.in_err-s.field-0.0 ≡ expectation_of (basis_with a.t.basis.run.now a.t.basis.history.now) a.kind a.age 0 a.year = expectation-refused i (omega arith) h in
    search rules

pub returns-in_err-s-clause-annuity : goal.returns-in_err-s-clause-annuity
returns-in_err-s-clause-annuity c =
    let a = c.args in
    let i = c.loop-j.invariant in
    let h = survivors-answered _ _ _ _ _ _ c.year_on.ensures i.living.survivors c.in_err-s.ensures in
    let e : refused c.in_err-s.field-0.0 ≡ annuity_of (basis_with a.t.basis.run.now a.t.basis.history.now) a.kind a.age a.deferment a.year =
    annuity-refused i (omega arith) h (omega arith) in
    search rules

-- the survivors of the year are counted in
pub overflow_add-lives : goal.overflow_add-lives
overflow_add-lives c =
    let i = c.loop-j.invariant in
    let living = living-next _ _ _ _ i.living (survivors-answered _ _ _ _ _ _ c.year_on.ensures i.living.survivors c.in_ok-s.ensures) in
    omega (arith, living.sum)

-- the discount that stands in the table after the year, and what is paid by it
pub deferred_payment-annuity-requires-in-loop-j : goal.deferred_payment-annuity-requires-in-loop-j
deferred_payment-annuity-requires-in-loop-j c =
    let i = c.loop-j.invariant in
    let living = living-next _ _ _ _ i.living (survivors-answered _ _ _ _ _ _ c.year_on.ensures i.living.survivors c.in_ok-s.ensures) in
    let worth = ap pos c.discount-in-loop-j.ensures ∙ c.args.t.filled.discounts (c.loop-j.j + 1) (omega arith) in
    (omega (arith, discount-small _ (limits-with c.requires.start.usable) _ _ (omega arith) (sym worth)), living.people)

pub loop-j-preserved : goal.loop-j-preserved
loop-j-preserved c =
    let i = c.loop-j.invariant in
    let living = living-next _ _ _ _ i.living (survivors-answered _ _ _ _ _ _ c.year_on.ensures i.living.survivors c.in_ok-s.ensures) in
    let worth = ap pos c.discount-in-loop-j.ensures ∙ c.args.t.filled.discounts (c.loop-j.j + 1) (omega arith) in
    let paid = c.deferred_payment-annuity-in-loop-j.ensures in
    let due = paid.0 ∙ ap (λ v. deferred_payment v c.args.deferment (c.loop-j.j + 1) (pos c.in_ok-s.s)) worth in
    so-far-next i living (due, paid.1)

pub returns-clause-expectation : goal.returns-clause-expectation
returns-clause-expectation c = expectation-last c.loop-j.invariant (omega arith)

pub returns-clause-annuity : goal.returns-clause-annuity
returns-clause-annuity c = annuity-last c.loop-j.invariant (omega arith) (omega arith)
