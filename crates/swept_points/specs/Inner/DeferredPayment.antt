-- A year's part of an annuity, also in the years before its payments begin.
use Rattle.std.specs.Prelude.{ℕ, cond, ltb, ℤ, pos}
use Rattle.valuation.specs.Valuation.{payment}

-- by the discount of j years: nothing before the deferment's end, then the payment
unfoldable pub deferred_payment : ℤ → ℕ → ℕ → ℤ → ℤ
deferred_payment discount deferment j s = cond (ltb j deferment) (pos 0) (payment discount s)
