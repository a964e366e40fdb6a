-- No number but one of the papers' list: a line that is refused is refused by 12. Assumes nothing.
use mathlib.Core.Path.{refl}
use mathlib.Core.List.{List}
use Prim.Native.Nat.{ℕ}
use Rattle.outcome.specs.Refusals.{numbers, is_listed, RefusedBy}
use Rattle.enquiry_text.specs.Line.{line_of}
use Rattle.enquiry_text.proofs.Says.{line-says}

pub line-numbered : (number : ℕ) (text : List ℕ) → RefusedBy numbers (line_of number text)
unfolding numbers is_listed
line-numbered number text = record { listed = λ r h. rw (line-says.otherwise number text r h) refl }
