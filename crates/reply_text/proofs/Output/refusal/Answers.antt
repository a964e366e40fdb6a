-- Four texts one after the other.
use mathlib.Core.List.{append_assoc}
use Rattle.reply_text.specs.Reply.{refusal_line}
use Rattle.reply_text.proofs.Puts.{more, written}
use Rattle.reply_text.proofs.Output.refusal.Goals as goal

pub returns-clause-put : goal.returns-clause-put
unfolding refusal_line
returns-clause-put c = written (simp append_assoc) (more c.text.ensures (more c.number.ensures.put (more c.number-2.ensures.put c.number-3.ensures.put)))
