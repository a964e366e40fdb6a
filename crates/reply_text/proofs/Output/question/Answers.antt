-- Three numbers one after the other, each with its space.
use mathlib.Core.List.{append_assoc}
use Rattle.reply_text.specs.Reply.{question_text}
use Rattle.reply_text.proofs.Puts.{more, written}
use Rattle.reply_text.proofs.Output.question.Goals as goal

pub returns-clause-put : goal.returns-clause-put
unfolding question_text
returns-clause-put c = written (simp append_assoc) (more c.number.ensures.put (more c.number-2.ensures.put c.number-3.ensures.put))
