-- From the last digit on: the digits still to be put give the same buffer.
use mathlib.Core.Path.{◌≡◌}
use lib.ListN.{length}
use Rattle.lent.specs.Lent.{placed}
use Rattle.reply_text.specs.Decimal.{digits}
use Rattle.reply_text.proofs.Output.last_digits.Given as goal

abbrev pub invariant-loop-i : goal.invariant-loop-i
invariant-loop-i l =
    let o = l.initial.self in
    (l.self.at ≡ o.at) × (l.self.out.ghost_name ≡ o.out.ghost_name) × (length l.self.out.now ≡ length o.out.now)
    × (placed l.self.out.now o.at (digits l.i l.rest) ≡ placed o.out.now o.at (digits l.k l.n))
