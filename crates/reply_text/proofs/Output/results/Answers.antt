-- Four results one after the other, the last with byte 10.
use mathlib.Core.List.{append_assoc}
use Rattle.reply_text.specs.Reply.{results_text}
use Rattle.reply_text.proofs.Puts.{more, written}
use Rattle.reply_text.proofs.Output.results.Goals as goal

pub returns-clause-put : goal.returns-clause-put
unfolding results_text
returns-clause-put c =
    written (simp append_assoc) (more c.units.ensures.put (more c.units-2.ensures.put (more c.units-3.ensures.put c.units-4.ensures.put)))
