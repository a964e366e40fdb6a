-- Numbers in decimal, and results with nine decimals.
use Rattle.std.specs.Prelude.{ℕ, zero, suc, ◌+◌, ◌/◌, ◌%◌, cond, List, [], ◌∷◌, ◌++◌, ltb}
use Rattle.arithmetic.specs.Fraction.{U}
use Rattle.reply_text.specs.Ascii.{ascii}

-- the last k decimal digits of n, the foremost first
unfoldable pub digits : ℕ → ℕ → List ℕ
digits zero n = []
digits (suc k) n = digits k (n / 10) ++ (48 + n % 10) ∷ []

-- how many digits n has: at least one, and at most `more` besides
unfoldable pub places_from : ℕ → ℕ → ℕ
places_from zero n = 1
places_from (suc more) n = cond (ltb n 10) 1 (suc (places_from more (n / 10)))

-- a number with no needless leading zero; one of 64 bits has at most 20 digits
unfoldable pub digits_of : ℕ → List ℕ
digits_of n = digits (places_from 19 n) n

-- a result / U with nine decimals
unfoldable pub decimal_of : ℕ → List ℕ
decimal_of v = digits_of (v / U) ++ ascii "." ++ digits 9 (v % U)
