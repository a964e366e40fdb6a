-- What a line says, in the paper's words (01, refusal 12).
use Rattle.std.specs.Prelude.{ℕ, ◌<◌, ◌≡◌, List}
use Rattle.outcome.specs.declared.Refusal.{Refusal}
use Rattle.outcome.specs.Outcome.{value, refused, refusal}
use Rattle.question.specs.declared.Question.{Question}
use Rattle.reply_text.specs.Reply.{question_text}
use Rattle.enquiry_text.specs.Line.{line_of}

-- numbers of 1 to 4 digits
pub record FourDigits (q : Question) : Type 0 where
  pub age : q.age < 10000
  pub deferment : q.deferment < 10000
  pub year : q.year < 10000

-- ---- a line asks a question exactly if it is its three numbers, single spaces between; any other is refused by 12 with the line and 0
pub record LineSays : Type 0 where
  pub asked : (number : ℕ) (q : Question) → FourDigits q → line_of number (question_text q) ≡ value q
  pub text : (number : ℕ) (text : List ℕ) (q : Question) → line_of number text ≡ value q → text ≡ question_text q
  pub digits : (number : ℕ) (text : List ℕ) (q : Question) → line_of number text ≡ value q → FourDigits q
  pub otherwise : (number : ℕ) (text : List ℕ) (r : Refusal) → line_of number text ≡ refused r → r ≡ refusal 12 number 0
