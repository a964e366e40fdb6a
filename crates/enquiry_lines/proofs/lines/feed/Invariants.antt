-- After some bytes the state and the output are those of the part's front up to there: byte 10 answers the line, any other byte is kept
-- while there is room, and a full line stays as it is.
use Rattle.enquiry_lines.proofs.SoFar.{SoFar}
use Rattle.enquiry_lines.proofs.lines.feed.Given as goal

abbrev pub invariant-loop-b : goal.invariant-loop-b
invariant-loop-b l =
    SoFar l.t.basis.run.now l.t.basis.history.now l.t.numbers.now l.part l.initial.out l.from (record { bytes = l.initial.bytes; len = l.initial.len; complete = l.initial.complete }) l.out
    (record { pending = record { bytes = l.bytes; len = l.len; complete = l.complete }; at = l.at }) l.b-index
