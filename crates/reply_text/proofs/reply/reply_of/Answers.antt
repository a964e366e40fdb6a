-- What is put at the start of zero bytes is their first part, and the rest of them stays.
use borrow.Author.Rules.{rules}
use Rattle.reply_text.specs.Reply.{by_value}
use Rattle.reply_text.proofs.Puts.{lent-back, in-zeros}
use Rattle.reply_text.proofs.reply.reply_of.Goals as goal

pub returns : goal.returns
unfolding by_value
returns c = in-zeros 192 (lent-back c.reply.ensures.put (search rules))
