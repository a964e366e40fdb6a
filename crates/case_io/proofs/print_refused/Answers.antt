-- What was put ends within the line, so that much of it is written.
use borrow.Author.Rules.{rules}
use mathlib.Core.Path.{◌∙◌}
use Rattle.reply_text.proofs.Puts.{lent-back, in-zeros}
use Rattle.reply_text.specs.Reply.{by_value}
use Rattle.case_io.proofs.print_refused.Goals as goal

pub returns : goal.returns
unfolding by_value
returns g c = c.print.ensures ∙ in-zeros 192 (lent-back c.refusal.ensures.put (search rules))
