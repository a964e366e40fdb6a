-- What the code's answers stand for, in the paper's number and values for every case.
use Rattle.std.specs.Prelude.{ℕ, Option, None, Some}
use Rattle.outcome.specs.Outcome.{Outcome, value}
use Rattle.question.specs.declared.Question.{Question}
use Rattle.enquiry_text.specs.Line.{Reading, numeral, other, malformed}

-- a word: the number that it is, or none
abbrev pub word_meaning : Option ℕ → Reading
word_meaning (Some n) = numeral n
word_meaning None = other

-- a line by its number, counted from 1: the question that it asks, or none
abbrev pub line_meaning : ℕ → Option Question → Outcome Question
line_meaning number (Some q) = value q
line_meaning number None = malformed number
