-- Nothing before the deferment's end, then the payment.
use mathlib.Core.Path.{◌∙◌}
use native.Mathlib.Omega.{arith}
use lib.IntN.{pos}
use Rattle.swept_points.proofs.SoFar.{payment-not-yet, payment-made}
use Rattle.swept_points.proofs.life_values.deferred_payment.Goals as goal

pub returns-then-j-deferment : goal.returns-then-j-deferment
returns-then-j-deferment c = let a = c.args in (payment-not-yet (pos a.discount) a.deferment a.j (pos a.s) (omega arith), omega arith)

pub returns : goal.returns
returns c =
    let a = c.args in
    (c.payment.ensures.0 ∙ payment-made (pos a.discount) a.deferment a.j (pos a.s) (omega arith), c.payment.ensures.1)
