-- The history file (02, change 2): actual improvements for each year from B + 1 to F, two blocks of the basis kind per year.
use Rattle.std.specs.Prelude.{ℕ, zero, suc, ◌+◌, ◌*◌, ◌-◌, ◌≤◌, ◌<◌, ◌≡◌, cond, List, [], ◌∷◌, ◌++◌, length, eqb, leb, ℤ, pos, neg_ℤ, nat_abs}
use Rattle.little_endian.specs.Bytes.{i32_at}
use Rattle.outcome.specs.Outcome.{Finding, refusal, unless, first_of}
use Rattle.basis.specs.Basis.{Basis, basis_of, Accepted}
use Rattle.field_check.specs.declared.Field.{Field}
use Rattle.layout.specs.declared.Number.TheVariants.{Byte, SignedWord}
use Rattle.field_check.specs.Field.{field, fields_check}
use Rattle.run_check.specs.Run.{run_check}
use Rattle.block.specs.Blocks.{parts_of, blocks_check}

-- the years from B + 1 to F; with B at F or later none, since a difference of natural numbers is 0 at the least
abbrev pub actual_years : Basis → ℕ
actual_years b = b.foundation - b.base

-- 1,024 bytes per year needed
abbrev pub length_needed : Basis → ℕ
length_needed b = 1024 * actual_years b

-- ---- what it holds
-- the data of its blocks, joined
unfoldable pub history_data : Basis → List ℕ → List ℕ
history_data b history = parts_of (2 * actual_years b) history

-- where an age stands in the data of a year: ages 20 to 85 in the first block, then 86 to 150 in the second
abbrev pub place_of : ℕ → ℕ
place_of age = cond (leb age 85) (4 * (age - 20)) (506 + 4 * (age - 86))

-- the actual improvement at an age in a year from B + 1 to F
unfoldable pub actual_of : Basis → List ℕ → ℕ → ℕ → ℤ
actual_of b history age year = i32_at (history_data b history) (1012 * (year - (b.base + 1)) + place_of age)

-- the basis that a data run and its history stand for
abbrev pub basis_with : List ℕ → List ℕ → Basis
basis_with run history =
    record {
      foundation = (basis_of run).foundation;
      base = (basis_of run).base;
      addition = (basis_of run).addition;
      discount = (basis_of run).discount;
      base_rate = (basis_of run).base_rate;
      by_age = (basis_of run).by_age;
      by_birth_year = (basis_of run).by_birth_year;
      actual = actual_of (basis_of run) history;
    }

-- ---- its fields, by offsets in the joined data
-- a field so many bytes further on
abbrev pub shifted_by : ℕ → Field → Field
shifted_by bytes f = field f.number f.kind f.low f.high (bytes + f.offset) f.count

-- one in the first block of each year and one in the second, for n years from an offset on
unfoldable pub yearly_fields : Field → Field → ℕ → ℕ → List Field
yearly_fields first second at zero = []
yearly_fields first second at (suc n) = shifted_by at first ∷ shifted_by (at + 506) second ∷ yearly_fields first second (at + 1012) n

-- improvements within ±500,000,000 (5), and remaining data, which is zero (4)
abbrev pub improvements : ℕ → Field
improvements count = field 5 SignedWord (neg_ℤ (pos 500_000_000)) (pos 500_000_000) 0 count

abbrev pub zeros : ℕ → ℕ → Field
zeros offset count = field 4 Byte (pos 0) (pos 0) offset count

-- a first block has 66 improvements of 4 bytes and 242 bytes more
abbrev pub younger_ages : Field
younger_ages = improvements 66

abbrev pub first_remaining : Field
first_remaining = zeros 264 242

-- a second 65 and 246
abbrev pub older_ages : Field
older_ages = improvements 65

abbrev pub second_remaining : Field
second_remaining = zeros 260 246

-- every 4, then every 5
unfoldable pub history_fields : ℕ → List Field
history_fields years = yearly_fields first_remaining second_remaining 0 years ++ yearly_fields younger_ages older_ages 0 years

-- ---- the check
-- its length is not the one needed (13), then the blocks (2, 3), then the fields (4, 5)
unfoldable pub history_check : Basis → List ℕ → Finding
history_check b history =
    first_of
    (unless (eqb (length history) (length_needed b)) (refusal 13 (length_needed b) 0))
    (first_of (blocks_check 0 (2 * actual_years b) history) (fields_check (history_data b history) (history_fields (actual_years b))))

-- the data run afresh, then the history
unfoldable pub run_and_history_check : List ℕ → List ℕ → Finding
run_and_history_check run history = first_of (run_check run) (history_check (basis_of run) history)

-- what the work asks of a data run and its history: the run's own acceptance, the history's length, and the limits of its improvements.
-- An accepted history has more, right blocks and zero bytes (`AcceptedHistory`), of which nothing is read
pub record Workable (run history : List ℕ) : Type 0 where
  pub basis : Accepted run
  pub size : length history ≡ length_needed (basis_of run)
  pub actual : (age year : ℕ) → 20 ≤ age → age ≤ 150 → (basis_of run).base < year → year ≤ (basis_of run).foundation
      → nat_abs (actual_of (basis_of run) history age year) ≤ 500_000_000
