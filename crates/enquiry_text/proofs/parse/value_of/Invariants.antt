-- The digits passed have the value so far: the rest, read after it, is the whole word.
use Prim.Native.Nat.{◌≤◌}
use mathlib.Core.Path.{◌≡◌}
use lib.ListN.{drop}
use Rattle.enquiry_text.specs.Line.{digits_from}
use Rattle.enquiry_text.proofs.Words.{most}
use Rattle.enquiry_text.proofs.parse.value_of.Given as goal

abbrev pub invariant-loop-d : goal.invariant-loop-d
invariant-loop-d l = (digits_from l.value (drop l.d-index l.word) ≡ digits_from 0 l.word) × (l.value ≤ most l.d-index)
