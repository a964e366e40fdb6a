-- The run of a file that is accepted, with a history that is, is what the input is answered by; it stands in front of the room.
-- What is written is the definition's output.
use mathlib.Core.Path.{ap}
use native.Mathlib.Omega.{arith}
use lib.ListN.{length}
use Rattle.outcome.specs.Outcome.{finding}
use Rattle.enquiry_lines.proofs.Opened.{opened-workable}
use borrow.Author.Rules.{rules}
use mathlib.Core.Path.{◌≡◌}
use mathlib.Core.Bool.{true}
use Rattle.points.proofs.Texts.{at-true, refused-answered, accepted-answered}
use Rattle.points.proofs.answer.Goals as goal

pub invariant_of-basis : goal.invariant_of-basis
invariant_of-basis g c = record { workable = opened-workable c.open_files-o.ensures (ap finding c.in-Ok.is) _ c.length_needed.ensures }

pub returns-in_default : goal.returns-in_default
returns-in_default g c =
    let w = c.write_out-is_written in
    refused-answered c.open_files-o.ensures (g.I.Read.remaining c.args.input.now) (g.W.Write.contents c.args.output.now) (g.W.Write.contents w.new.output) w.result _
    (ap finding c.in_default.is) w.ensures

pub returns : goal.returns
returns g c =
    let w = c.write_out-is_written in
    let is : w.result ≡ true = search rules in
    let a = c.answer_input in
    accepted-answered c.open_files-o.ensures (g.I.Read.remaining c.args.input.now) (g.W.Write.contents c.args.output.now) (g.W.Write.contents w.new.output) a.result
    (g.W.Write.contents a.new.output) (ap finding c.in-Ok.is) _ c.length_needed.ensures (at-true _ is w.ensures) (length c.block_room-part.result) (omega (arith, c.block_room-part.ensures)) a.ensures
