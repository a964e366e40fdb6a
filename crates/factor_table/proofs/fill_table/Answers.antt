-- The early years are stored, then the rest of their room is cleared, then the later years are stored behind it and the discounts behind these; each
-- keeps what stands before.
use mathlib.Core.Path.{◌∙◌}
use borrow.Author.Rules.{rules}
use Rattle.valuation.proofs.Discount.{discount-with}
use Rattle.factor_table.proofs.Parts.{stored-behind}
use Rattle.factor_table.proofs.fill_table.Goals as goal

pub returns : goal.returns
returns c =
    stored-behind _ c.store_years-from_2130.new.numbers c.clear_rest.new.numbers c.store_later_years.new.numbers _
    (search (rules, c.requires)) (search rules) c.store_years-from_2130.ensures.years_stored c.clear_rest.ensures.rest_is_zero c.clear_rest.ensures.kept_before
    c.store_later_years.ensures.later_years_stored c.store_later_years.ensures.kept_before
    (λ j l. c.store_discounts.ensures.discounts_stored j l ∙ discount-with c.args.b.run.now c.args.b.history.now j) c.store_discounts.ensures.kept_before
