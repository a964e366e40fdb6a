-- The layout of a data run (01, "The basis file"): the kinds of number in it, its form, where each field stands, and the limits of each.
use Rattle.std.specs.Prelude.{ℕ, ◌+◌, ◌*◌, ◌/◌, cond, List, [], ◌∷◌, eqb, ℤ, pos, neg_ℤ, nat_abs}
use Rattle.little_endian.specs.Bytes.{byte_at, u16_at, u32_at, i32_at, u16_bytes, u32_bytes, i32_bytes}
use Rattle.layout.specs.declared.Number.{Number}
use Rattle.layout.specs.declared.Number.TheVariants.{Byte, Half, Word, SignedWord}

-- ---- the kinds of number
abbrev pub width_of : Number → ℕ
width_of Byte = 1
width_of Half = 2
width_of Word = 4
width_of SignedWord = 4

-- the number that stands at an offset
abbrev pub value_at : Number → List ℕ → ℕ → ℤ
value_at Byte run at = pos (byte_at run at)
value_at Half run at = pos (u16_at run at)
value_at Word run at = pos (u32_at run at)
value_at SignedWord run at = i32_at run at

-- the number at a place of a table
abbrev pub entry_at : Number → List ℕ → ℕ → ℕ → ℤ
entry_at kind run offset place = value_at kind run (offset + width_of kind * place)

-- the bytes of a number, as they stand there
abbrev pub number_bytes : Number → ℤ → List ℕ
number_bytes Byte n = nat_abs n ∷ []
number_bytes Half n = u16_bytes (nat_abs n)
number_bytes Word n = u32_bytes (nat_abs n)
number_bytes SignedWord n = i32_bytes n

-- ---- the form of a data run and of its file, MPB1 or MPB2 (02, change 7)
pub data Form : Type 0 where
  mpb1 : Form
  mpb2 : Form

-- the last letter of its mark, 1 or 2
abbrev pub letter_of : Form → ℕ
letter_of mpb1 = 49
letter_of mpb2 = 50

-- the kind of number of P
abbrev pub proportion_of : Form → Number
proportion_of mpb1 = Byte
proportion_of mpb2 = Half

-- how many hundredths of a per cent one of its P counts
abbrev pub hundredths_of : Form → ℕ
hundredths_of mpb1 = 100
hundredths_of mpb2 = 1

-- its greatest P, in that counting
abbrev pub greatest_of : Form → ℕ
greatest_of mpb1 = 150
greatest_of mpb2 = 15_000

-- the blocks of its file
abbrev pub blocks_in : Form → ℕ
blocks_in mpb1 = 9
blocks_in mpb2 = 10

-- 506 of the 512 bytes of a block are data
abbrev pub run_length : Form → ℕ
run_length form = 506 * blocks_in form

abbrev pub file_length : Form → ℕ
file_length form = 512 * blocks_in form

-- the form that the length of a data run tells, and the form that the length of a file tells; any other length counts as MPB1's
unfoldable pub form_of_run : ℕ → Form
form_of_run length = cond (eqb length (run_length mpb2)) mpb2 mpb1

unfoldable pub form_of_file : ℕ → Form
form_of_file length = cond (eqb length (file_length mpb2)) mpb2 mpb1

-- the letters MPB, and the form's own
abbrev pub mark_of : Form → List ℕ
mark_of form = 77 ∷ 80 ∷ 66 ∷ letter_of form ∷ []

-- ---- P in hundredths of a per cent, whatever its form counts in
-- the P at a place of a table
abbrev pub proportion_at : Form → List ℕ → ℕ → ℕ → ℕ
proportion_at form run offset place = hundredths_of form * nat_abs (entry_at (proportion_of form) run offset place)

-- the bytes of a P in a form
abbrev pub proportion_bytes : Form → ℕ → List ℕ
proportion_bytes form hundredths = number_bytes (proportion_of form) (pos (hundredths / hundredths_of form))

-- ---- the offsets: every table begins where the one before it ends
-- one number for each age from 20 to 150, or for each birth year from 1842 to 2110
abbrev pub ages : ℕ
ages = 131

abbrev pub birth_years : ℕ
birth_years = 269

abbrev pub foundation_at : ℕ
foundation_at = 4

abbrev pub base_at : ℕ
base_at = 6

abbrev pub addition_at : ℕ
addition_at = 8

abbrev pub discount_at : ℕ
discount_at = 12

abbrev pub zeros_at : ℕ
zeros_at = 16

abbrev pub base_rates_at : ℕ
base_rates_at = 30

-- the tables by age: I, L, T and P
abbrev pub age_initial_rates_at : ℕ
age_initial_rates_at = base_rates_at + 4 * ages

abbrev pub age_long_term_rates_at : ℕ
age_long_term_rates_at = age_initial_rates_at + 4 * ages

abbrev pub age_periods_at : ℕ
age_periods_at = age_long_term_rates_at + 4 * ages

abbrev pub age_proportions_at : ℕ
age_proportions_at = age_periods_at + ages

-- the tables by birth year
abbrev pub birth_year_initial_rates_at : Form → ℕ
birth_year_initial_rates_at form = age_proportions_at + width_of (proportion_of form) * ages

abbrev pub birth_year_long_term_rates_at : Form → ℕ
birth_year_long_term_rates_at form = birth_year_initial_rates_at form + 4 * birth_years

abbrev pub birth_year_periods_at : Form → ℕ
birth_year_periods_at form = birth_year_long_term_rates_at form + 4 * birth_years

abbrev pub birth_year_proportions_at : Form → ℕ
birth_year_proportions_at form = birth_year_periods_at form + birth_years

-- where the fields end and the form's last zero bytes begin
abbrev pub fields_end : Form → ℕ
fields_end form = birth_year_proportions_at form + width_of (proportion_of form) * birth_years

-- ---- the limits
-- F from 1992 to 2080, B to 2130 (02, change 2)
abbrev pub earliest_year : ℕ
earliest_year = 1992

abbrev pub last_foundation_year : ℕ
last_foundation_year = 2080

abbrev pub last_base_year : ℕ
last_base_year = 2130

abbrev pub addition_limit : ℕ
addition_limit = 100_000_000

-- from -10,000,000 on (02, change 1)
abbrev pub least_discount : ℤ
least_discount = neg_ℤ (pos 10_000_000)

abbrev pub greatest_discount : ℤ
greatest_discount = pos 200_000_000

-- I and L
abbrev pub rate_limit : ℕ
rate_limit = 200_000_000

-- T from 1 to 50 years, P to 150 per cent, in hundredths of a per cent
abbrev pub longest_period : ℕ
longest_period = 50

abbrev pub greatest_proportion : ℕ
greatest_proportion = 15_000
