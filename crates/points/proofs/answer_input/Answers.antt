-- The replies to all lines, the last one too, are those to the lines of the text that was read; and it is all that the reader had.
use Rattle.points.proofs.Texts.{front, all-answered}
use Rattle.points.proofs.answer_input.Goals as goal

pub returns : goal.returns
returns g c =
    let t = c.answer_blocks in
    all-answered (g.I.Read.remaining c.args.input.now) (g.I.Read.remaining t.new.input) (g.W.Write.contents c.args.output.now) (g.W.Write.contents t.new.output)
    (g.W.Write.contents c.write_out.new.output) c.write_out.result c.in-Some.ensures.answered c.write_out.ensures (front c.finish-at.ensures)
