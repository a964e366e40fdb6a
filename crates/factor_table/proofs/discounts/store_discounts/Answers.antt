-- A discount is below 4 × U, and the next one follows from it.
use Rattle.std.proofs.Common.{◌∙◌, sym, ap, ◌<◌, ◌≢◌, arith, refl, add-one, below_more, length, rules, get_or-set_same, get_or-set_other, length-take, length-drop}
use lib.IntN.{pos}
use Rattle.valuation.specs.Valuation.{discount_after}
use Rattle.valuation.proofs.Discount.{discount-ranges, discount-turn}
use Rattle.factor_table.specs.FactorTable.{factors_length}
use Rattle.factor_table.proofs.Written.{written-in, written-before}
use Rattle.factor_table.proofs.discounts.store_discounts.Goals as goal

pub loop-n-init : goal.loop-n-init
unfolding discount_after
loop-n-init c = record { stored = λ j l. absurd (omega arith); next = refl }

pub overflow_cast-n : goal.overflow_cast-n
overflow_cast-n c =
    let ranges = discount-ranges _ (search rules) _ _ (omega arith) c.loop-n.invariant.next c.accumulation-accumulation.ensures in
    record { fits = omega (arith, ranges.0) }

pub discount_next-v-requires : goal.discount_next-v-requires
discount_next-v-requires c =
    discount-ranges _ (search rules) _ _ (omega arith) c.loop-n.invariant.next c.accumulation-accumulation.ensures

pub loop-n-preserved : goal.loop-n-preserved
loop-n-preserved c =
    record {
      stored = below_more _ _
          (λ k h. let ne : k ≢ c.loop-n.n-index = omega arith in rw get_or-set_other (c.loop-n.invariant.stored k h))
          (let lt : c.loop-n.n-index < length c.loop-n.n-items = omega arith in rw get_or-set_same (sym c.loop-n.invariant.next));
      next = rw add-one (discount-turn _ _ _ c.accumulation-accumulation.ensures c.loop-n.invariant.next ∙ sym c.discount_next-v.ensures);
    }

pub returns-clause-discounts_stored : goal.returns-clause-discounts_stored
returns-clause-discounts_stored c = λ j l.
    let size = simp (length-take, length-drop) at c.loop-n.auto.n-items in
    let here : j < length c.loop-n.n-items = omega (arith, size) in
    ap pos (written-in factors_length _ c.args.numbers.now c.loop-n.n-items (omega arith) j here) ∙ c.loop-n.invariant.stored j (omega arith)

pub returns-clause-kept_before : goal.returns-clause-kept_before
returns-clause-kept_before c = λ i l. written-before _ _ c.args.numbers.now c.loop-n.n-items (omega arith) i l
