-- The digits with all their places, then the byte.
use mathlib.Core.Path.{ap}
use mathlib.Core.List.{[], ◌∷◌, ◌++◌}
use Rattle.reply_text.specs.Decimal.{digits, digits_of}
use Rattle.reply_text.proofs.Puts.{more, written}
use Rattle.reply_text.proofs.Output.number.Goals as goal

pub returns-clause-put : goal.returns-clause-put
unfolding digits_of
returns-clause-put c =
    written (ap (λ k. digits k c.args.n ++ c.args.then ∷ []) c.places.ensures.value) (more c.last_digits.ensures.put c.byte.ensures)
