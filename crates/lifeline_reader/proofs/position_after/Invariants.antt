-- After some steps the line holds the run that was lent, at the position of as many steps after its start.
use Rattle.std.proofs.Common.{◌≡◌}
use Rattle.lifeline.specs.Lifeline.{position_after}
use Rattle.lifeline_reader.specs.Reader.{position_of}
use Rattle.lifeline_reader.proofs.position_after.Given as goal

abbrev pub invariant-loop : goal.invariant-loop
invariant-loop l = (l.l.run.now ≡ l.run) × (position_of l.l ≡ position_after l.run l.history l.age l.year l.counter)
