-- After some bytes the state and the output are those of the part's front up to there: byte 10 answers the line, any other byte is kept
-- while there is room, and a full line stays as it is.
use Rattle.enquiry_lines.proofs.SoFar.{begins, line-answered, byte-kept, byte-dropped, ends}
use Rattle.enquiry_lines.proofs.lines.feed.Goals as goal
use Rattle.enquiry_lines.proofs.lines.feed.Goals.{then-b-eq10, else-b-eq10+then-len-lt16, else-b-eq10+else-len-lt16}

pub loop-b-init : goal.loop-b-init
loop-b-init c = begins c.requires

-- byte 10, any other, and a byte for which there is no room
pub loop-b-preserved : goal.loop-b-preserved
loop-b-preserved c =
    let so = c.loop-b.invariant in
    let more = c.loop-b-test.true in
    elim c.if-b-eq10.branch [
      | then-b-eq10 w ↦
          rw (w.out-is, w.bytes-is, w.len-is, w.complete-is, w.at-is)
          (line-answered so more w.if-b-eq10.true w.put_line-at.ensures.put w.put_line-at.ensures.upper_bound)
      | else-b-eq10+then-len-lt16 w ↦
          rw (w.out-is, w.bytes-is, w.len-is, w.complete-is, w.at-is) (byte-kept so more w.if-b-eq10.false w.if-len-lt16.true)
      | else-b-eq10+else-len-lt16 w ↦
          rw (w.out-is, w.bytes-is, w.len-is, w.complete-is, w.at-is) (byte-dropped so more w.if-b-eq10.false w.if-len-lt16.false)
    ]

pub returns : goal.returns
returns c = ends c.loop-b.invariant c.loop-b-test.false
