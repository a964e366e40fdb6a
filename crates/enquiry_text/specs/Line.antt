-- A line (01, refusal 12): three decimal numbers of 1 to 4 digits, single spaces between, no needless leading zero.
use Rattle.std.specs.Prelude.{ℕ, ◌+◌, ◌*◌, ◌-◌, Bool, false, cond, List, [], ◌∷◌, ◌++◌, ltb, eqb, length, get_or}
use Rattle.outcome.specs.Outcome.{Outcome, value, refused, refusal}
use Rattle.question.specs.declared.Question.{Question}

-- the words of a text that goes on a first word; two spaces together have an empty word between them
unfoldable pub words_from : List ℕ → List ℕ → List (List ℕ)
words_from word [] = word ∷ []
words_from word (b ∷ s) = cond (eqb b 32) (word ∷ words_from [] s) (words_from (word ++ b ∷ []) s)

-- ---- a word
-- reads as a number, or as something else
pub data Reading : Type 0 where
  numeral : ℕ → Reading
  other : Reading

-- digits that go on those of a number; with any other byte it is none
unfoldable pub digits_from : ℕ → List ℕ → Reading
digits_from n [] = numeral n
digits_from n (d ∷ w) = cond (ltb d 48) other (cond (ltb 57 d) other (digits_from (10 * n + (d - 48)) w))

-- a needless leading zero: "0" alone has none
abbrev pub is_padded : List ℕ → Bool
is_padded w = cond (ltb (length w) 2) false (eqb (get_or w 0 0) 48)

-- 1 to 4 digits, no needless leading zero
unfoldable pub number_of : List ℕ → Reading
number_of w = cond (eqb (length w) 0) other (cond (ltb 4 (length w)) other (cond (is_padded w) other (digits_from 0 w)))

-- ---- a line by its number, counted from 1: its question, or 12 with the line and 0
abbrev pub malformed : ℕ → Outcome Question
malformed number = refused (refusal 12 number 0)

abbrev pub enquiry_of : ℕ → Reading → Reading → Reading → Outcome Question
enquiry_of number (numeral a) (numeral d) (numeral y) = value (record { age = a; deferment = d; year = y })
enquiry_of number (numeral a) (numeral d) other = malformed number
enquiry_of number (numeral a) other y = malformed number
enquiry_of number other d y = malformed number

-- three words, each of them a number
unfoldable pub line_of : ℕ → List ℕ → Outcome Question
line_of number text =
    let w = words_from [] text in
    cond (eqb (length w) 3) (enquiry_of number (number_of (get_or w 0 [])) (number_of (get_or w 1 [])) (number_of (get_or w 2 []))) (malformed number)
