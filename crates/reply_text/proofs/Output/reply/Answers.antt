-- An answer of refusal number 0 is printed as the question and its results, any other as its refusal.
use mathlib.Core.List.{append_assoc}
use borrow.Author.Tests.{eq-eqb, ne_eqb}
use Rattle.reply_text.specs.Reply.{reply_of}
use Rattle.reply_text.proofs.Puts.{more, written}
use Rattle.reply_text.proofs.Output.reply.Goals as goal

pub returns-then-refusal-eq0-clause-put : goal.returns-then-refusal-eq0-clause-put
unfolding reply_of
returns-then-refusal-eq0-clause-put c = rw (eq-eqb _ 0 c.if-refusal-eq0.true) (written (simp append_assoc) (more c.question.ensures.put c.results.ensures.put))

pub returns-else-refusal-eq0-clause-put : goal.returns-else-refusal-eq0-clause-put
unfolding reply_of
returns-else-refusal-eq0-clause-put c = rw (ne_eqb _ 0 c.if-refusal-eq0.false) c.refusal.ensures.put
