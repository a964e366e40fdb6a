-- What was put ends within the line, so that much of it is written.
use borrow.Author.Rules.{rules}
use mathlib.Core.Path.{◌∙◌}
use mathlib.Core.List.{append_assoc}
use Rattle.reply_text.proofs.Puts.{more, written, lent-back, in-zeros}
use Rattle.reply_text.specs.Reply.{by_value}
use Rattle.case_io.specs.Lines.{named_line}
use Rattle.case_io.proofs.print_named.Goals as goal

pub returns : goal.returns
unfolding by_value named_line
returns g c =
    let line = written (simp append_assoc) (more c.text.ensures c.number.ensures.put) in
    c.print.ensures ∙ in-zeros 192 (lent-back line (search rules))
