-- A text answered line by line (01, refusal 12): each line ends in byte 10, the last may lack it, and an empty line is refused.
use Rattle.std.specs.Prelude.{ℕ, suc, cond, List, [], ◌∷◌, ◌++◌, eqb, length}
use Rattle.basis.specs.Basis.{Basis}
use Rattle.outcome.specs.Outcome.{Outcome, value, refused}
use Rattle.question.specs.declared.Question.{Question}
use Rattle.model_points.specs.Point.{point_of}
use Rattle.enquiry_text.specs.Line.{line_of}
use Rattle.reply_text.specs.Reply.{reply_of, refusal_line}

-- ---- the lines of a text that goes on an unfinished line
-- those that byte 10 ends
unfoldable pub ended : List ℕ → List ℕ → List (List ℕ)
ended line [] = []
ended line (b ∷ s) = cond (eqb b 10) (line ∷ ended [] s) (ended (line ++ b ∷ []) s)

-- what stands after the last byte 10
unfoldable pub unfinished : List ℕ → List ℕ → List ℕ
unfinished line [] = line
unfinished line (b ∷ s) = cond (eqb b 10) (unfinished [] s) (unfinished (line ++ b ∷ []) s)

-- a line if it is anything: no input, no line
abbrev pub last_line : List ℕ → List (List ℕ)
last_line line = cond (eqb (length line) 0) [] (line ∷ [])

unfoldable pub lines_of : List ℕ → List (List ℕ)
lines_of text = ended [] text ++ last_line (unfinished [] text)

-- ---- replies
-- to what a line says
abbrev pub reply_to : Basis → Outcome Question → List ℕ
reply_to b (value q) = reply_of q (point_of b q)
reply_to b (refused r) = refusal_line r

-- to lines, the first of which has a number
unfoldable pub replies : Basis → ℕ → List (List ℕ) → List ℕ
replies b number [] = []
replies b number (l ∷ ls) = reply_to b (line_of number l) ++ replies b (suc number) ls
