-- The logarithm to base 10 of a number counts its places, but for one; 0 has one place.
use Rattle.reply_text.proofs.Numerals.{places-log}
use Rattle.reply_text.proofs.digits.places.Goals as goal

pub returns-clause-value : goal.returns-clause-value
returns-clause-value c =
    let l = c.ilog10.ensures in
    places-log c.args.n _ _ c.max.ensures l.power_le l.next_power_gt l.bound
