-- What the points program prints (01, "Figures to prove and to run"): the header, and a line for each line.
use Rattle.std.specs.Prelude.{ℕ, ◌-◌, cond, List, ◌++◌, eqb, length, get_or, replicate}
use Rattle.outcome.specs.declared.Refusal.{Refusal}
use Rattle.question.specs.declared.Question.{Question}
use Rattle.model_points.specs.declared.PointAnswer.{PointAnswer}
use Rattle.reply_text.specs.declared.ReplyText.{ReplyText}
use Rattle.reply_text.specs.Ascii.{ascii}
use Rattle.reply_text.specs.Decimal.{digits_of, decimal_of}

abbrev pub header_line : List ℕ
header_line = ascii "age deferment year period_ex cohort_ex period_annuity cohort_annuity\n"

-- ---- what an answered line is made of
-- the three numbers of a question
unfoldable pub question_text : Question → List ℕ
question_text q = digits_of q.age ++ ascii " " ++ digits_of q.deferment ++ ascii " " ++ digits_of q.year

-- four results in the small set's order
unfoldable pub results_text : List ℕ → List ℕ
results_text v = decimal_of (get_or v 0 0) ++ ascii " " ++ decimal_of (get_or v 1 0) ++ ascii " " ++ decimal_of (get_or v 2 0) ++ ascii " " ++ decimal_of (get_or v 3 0)

-- ---- a refused line
unfoldable pub refusal_line : Refusal → List ℕ
refusal_line r = ascii "refused " ++ digits_of r.number ++ ascii " " ++ digits_of r.first ++ ascii " " ++ digits_of r.second ++ ascii "\n"

-- ---- a line
-- an answered line repeats its three numbers, then gives the results; an answer of refusal number 0 is no refusal
unfoldable pub reply_of : Question → PointAnswer → List ℕ
reply_of q a = cond (eqb a.refusal.number 0) (question_text q ++ ascii " " ++ results_text a.results ++ ascii "\n") (refusal_line a.refusal)

-- a line by value: at the start of 192 bytes, 0 in every byte behind it, and its length
unfoldable pub by_value : List ℕ → ReplyText
by_value line = record { bytes = line ++ replicate (192 - length line) 0; len = length line }
