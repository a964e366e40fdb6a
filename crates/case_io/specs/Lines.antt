-- The lines printed by the programs that run the cases of the reference model.
use Rattle.std.specs.Prelude.{ℕ, zero, suc, cond, List, [], ◌++◌, eqb, length, get_or}
use Rattle.reply_text.specs.Ascii.{ascii}
use Rattle.reply_text.specs.Decimal.{digits_of}

-- a number behind a word
unfoldable pub named_line : List ℕ → ℕ → List ℕ
named_line word n = word ++ digits_of n ++ ascii "\n"

-- the first k of the numbers, each with what follows it: a space, or byte 10 after the last of all
unfoldable pub first_numbers : List ℕ → ℕ → List ℕ
first_numbers v zero = []
first_numbers v (suc k) = first_numbers v k ++ digits_of (get_or v k 0) ++ cond (eqb (suc k) (length v)) (ascii "\n") (ascii " ")

-- numbers, a space between two
unfoldable pub numbers_line : List ℕ → List ℕ
numbers_line v = first_numbers v (length v)
