-- Nothing kept is no line; anything kept is the last line.
use mathlib.Core.Path.{sym, ◌∙◌}
use native.Mathlib.Omega.{arith}
use borrow.Author.Tests.{eq-eqb, ne_eqb}
use Rattle.reply_text.proofs.Puts.{nothing}
use Rattle.enquiry_lines.proofs.Parting.{no-replies, reply-alone}
use Rattle.enquiry_lines.proofs.State.{kept-length}
use Rattle.enquiry_lines.proofs.lines.finish.Goals as goal

pub returns-then-len-eq0 : goal.returns-then-len-eq0
returns-then-len-eq0 c =
    rw (eq-eqb _ 0 (kept-length _ c.requires.sound ∙ c.if-len-eq0.true), no-replies) (nothing c.args.out.now c.args.from (omega arith))

pub returns : goal.returns
returns c =
    let held = kept-length _ c.requires.sound in
    rw (ne_eqb _ 0 (λ z. c.if-len-eq0.false (sym held ∙ z)), reply-alone) c.put_line.ensures.put
