-- After i numbers the line starts with the text of the first i. Each takes at most 21 bytes, so all of them fit.
use Prim.Native.Nat.{◌*◌, ◌≤◌}
use Rattle.reply_text.specs.Put.{Puts}
use Rattle.case_io.specs.Lines.{first_numbers}
use Rattle.case_io.proofs.print_numbers.Given as goal

-- ---- the function
abbrev pub invariant-loop-i : goal.invariant-loop-i
invariant-loop-i g l = (l.output.at ≤ 21 * l.i) × Puts l.initial.output (first_numbers l.numbers l.i) l.output
