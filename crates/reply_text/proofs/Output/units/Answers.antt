-- The whole units with the point, nine digits of the rest, then the byte.
use mathlib.Core.List.{append_assoc}
use Rattle.reply_text.specs.Decimal.{decimal_of}
use Rattle.reply_text.proofs.Puts.{more, written}
use Rattle.reply_text.proofs.Output.units.Goals as goal

pub returns-clause-put : goal.returns-clause-put
unfolding decimal_of
returns-clause-put c = written (simp append_assoc) (more c.number.ensures.put (more c.last_digits.ensures.put c.byte.ensures))
