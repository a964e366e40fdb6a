-- After j turns of the loop survivors, discount and total are those of `Paying`; the payments to 150 − age are the annuity.
use mathlib.Core.Path.{◌≡◌, ◌∙◌, sym}
use native.Mathlib.Omega.{arith}
use borrow.Author.Rules.{rules}
use Rattle.history.specs.History.{basis_with}
use Rattle.history.proofs.With.{accumulation-with, limits-with}
use Rattle.outcome.specs.Outcome.{refused}
use Rattle.survivorship.proofs.Survivors.{survivors-answered, survivors-small}
use Rattle.valuation.specs.Valuation.{annuity_of}
use Rattle.valuation.proofs.Discount.{discount-turn, discount-with, discount-small, discount-ranges}
use Rattle.valuation.proofs.Payments.{paying-first, paying-next, paid-refused, paid-last}
use Rattle.valuation.proofs.annuity.annuity_from.Goals as goal

pub payment-total-requires : goal.payment-total-requires
payment-total-requires c =
    let a = c.args in
    let b = basis_with a.b.run.now a.b.history.now in
    let small = discount-small b (limits-with (search rules)) _ _ (omega arith) (sym (c.discount_after-v.ensures ∙ discount-with _ _ _)) in
    (omega (arith, small), survivors-small b a.kind a.age a.deferment a.year a.first (search rules))

pub loop-j-init : goal.loop-j-init
loop-j-init c = paying-first (omega arith) (search rules) (c.discount_after-v.ensures ∙ discount-with _ _ _) c.payment-total.ensures

pub returns-in_err-s : goal.returns-in_err-s
returns-in_err-s c =
    let a = c.args in
    let i = c.loop-j.invariant in
    let h = survivors-answered _ _ _ _ _ _ c.year_on-year.ensures i.survivors c.in_err-s.ensures in
    let e : refused c.in_err-s.field-0.0 ≡ annuity_of (basis_with a.b.run.now a.b.history.now) a.kind a.age a.deferment a.year =
    paid-refused _ _ _ _ _ _ _ _ i.begun (omega arith) i.paid h in
    search rules

pub discount_next-v-requires : goal.discount_next-v-requires
discount_next-v-requires c =
    discount-ranges _ (limits-with (search rules)) _ _ (omega arith) c.loop-j.invariant.discount
    (c.accumulation-accumulation.ensures ∙ accumulation-with _ _)

pub payment-total-requires-in-loop-j : goal.payment-total-requires-in-loop-j
payment-total-requires-in-loop-j c =
    let i = c.loop-j.invariant in
    let h = survivors-answered _ _ _ _ _ _ c.year_on-year.ensures i.survivors c.in_ok-s.ensures in
    let d = discount-turn _ _ _ (c.accumulation-accumulation.ensures ∙ accumulation-with _ _) i.discount in
    let small = discount-small _ (limits-with (search (rules, c.requires))) _ _ (omega arith) (d ∙ sym c.discount_next-v.ensures) in
    (omega (arith, small), survivors-small _ _ _ _ _ _ h)

pub loop-j-preserved : goal.loop-j-preserved
loop-j-preserved c =
    let i = c.loop-j.invariant in
    let h = survivors-answered _ _ _ _ _ _ c.year_on-year.ensures i.survivors c.in_ok-s.ensures in
    let d = discount-turn _ _ _ (c.accumulation-accumulation.ensures ∙ accumulation-with _ _) i.discount in
    paying-next i (omega arith) h (d ∙ sym c.discount_next-v.ensures) c.payment-total-in-loop-j.ensures

pub returns : goal.returns
returns c = paid-last _ _ _ _ _ _ _ (omega arith) c.loop-j.invariant.paid
