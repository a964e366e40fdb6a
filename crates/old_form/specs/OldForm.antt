-- A basis in another form (02, change 7): the same fields, with each P as that form counts it. Writing in the old form refuses a P that is
-- no whole per cent (17).
use Rattle.std.specs.Prelude.{ℕ, zero, suc, ◌+◌, ◌*◌, ◌-◌, ◌%◌, ◌<◌, ◌≤◌, ◌≡◌, Bool, List, [], ◌++◌, eqb, length, take, drop, replicate}
use Rattle.little_endian.specs.Bytes.{byte_at}
use Rattle.outcome.specs.Outcome.{Finding, passed, refusal, unless, first_of}
use Rattle.layout.specs.Layout.{Form, mpb1, mpb2}
use Rattle.layout.specs.Layout.{width_of, proportion_of, proportion_at, proportion_bytes, form_of_run, run_length, file_length, mark_of, fields_end}
use Rattle.layout.specs.Layout.{ages, birth_years, foundation_at, age_proportions_at, birth_year_initial_rates_at, birth_year_proportions_at, greatest_proportion}
use Rattle.lent.specs.Lent.{room_check}
use Rattle.basis.specs.Basis.{basis_of}
use Rattle.run_check.specs.Run.{run_check}
use Rattle.basis_file.specs.File.{file_of, file_check, run_in}

-- ---- a data run in another form
-- n P of a table of a run, the first of them at a place, as a form writes them
unfoldable pub proportions_in : Form → List ℕ → ℕ → ℕ → ℕ → List ℕ
proportions_in form run offset place zero = []
proportions_in form run offset place (suc n) =
    proportion_bytes form (proportion_at (form_of_run (length run)) run offset place) ++ proportions_in form run offset (place + 1) n

-- n P of a table within their limit
abbrev pub ProportionsWithin : List ℕ → ℕ → ℕ → Type 0
ProportionsWithin run offset n = (place : ℕ) → place < n → proportion_at (form_of_run (length run)) run offset place ≤ greatest_proportion

-- the bytes of a run from one offset to another
abbrev pub bytes_between : List ℕ → ℕ → ℕ → List ℕ
bytes_between run from to = take (to - from) (drop from run)

-- the mark, then the fields before the age P as they stand, and the age P
unfoldable pub ages_in : Form → List ℕ → List ℕ
ages_in form run = mark_of form ++ bytes_between run foundation_at age_proportions_at ++ proportions_in form run age_proportions_at 0 ages

-- the zero bytes behind the fields
abbrev pub last_bytes : Form → List ℕ
last_bytes form = replicate (run_length form - fields_end form) 0

-- the fields by birth year before P as they stand, P, and the form's last zero bytes
unfoldable pub birth_years_in : Form → List ℕ → List ℕ
birth_years_in form run =
    let own = form_of_run (length run) in
    bytes_between run (birth_year_initial_rates_at own) (birth_year_proportions_at own)
    ++ proportions_in form run (birth_year_proportions_at own) 0 birth_years
    ++ last_bytes form

unfoldable pub in_form : Form → List ℕ → List ℕ
in_form form run = ages_in form run ++ birth_years_in form run

-- ---- the check
-- a P in whole per cents
abbrev pub is_whole : ℕ → Bool
is_whole hundredths = eqb (hundredths % 100) 0

-- the P at a place of a table is no whole per cent (17)
abbrev pub whole_at : List ℕ → ℕ → ℕ → Finding
whole_at run offset place =
    let form = form_of_run (length run) in
    unless (is_whole (proportion_at form run offset place)) (refusal 17 (offset + width_of (proportion_of form) * place) 0)

-- the first of n P, from a place on
unfoldable pub whole_from : List ℕ → ℕ → ℕ → ℕ → Finding
whole_from run offset place zero = passed
whole_from run offset place (suc n) = first_of (whole_at run offset place) (whole_from run offset (place + 1) n)

abbrev pub whole_check : List ℕ → Finding
whole_check run = first_of (whole_from run age_proportions_at 0 ages) (whole_from run (birth_year_proportions_at (form_of_run (length run))) 0 birth_years)

-- the run's own check, then each P (17)
unfoldable pub old_form_check : List ℕ → Finding
old_form_check run = first_of (run_check run) (whole_check run)

-- before these the room of a file of MPB1 (11)
abbrev pub write_old_check : List ℕ → List ℕ → Finding
write_old_check run file = first_of (room_check (file_length mpb1) file) (old_form_check run)

-- the file
abbrev pub old_file_of : List ℕ → List ℕ
old_file_of run = file_of (in_form mpb1 run)

-- ---- the theorems
pub record Forms : Type 0 where
  -- an accepted run of MPB1 and the run of MPB2 with the same fields and each P times 100 stand for the same basis
  pub finer : (run : List ℕ) → run_check run ≡ passed → (run_check (in_form mpb2 run) ≡ passed) × (basis_of (in_form mpb2 run) ≡ basis_of run)
  -- what is written in the old form reads back as a run that stands for the same basis
  pub older : (run : List ℕ) → old_form_check run ≡ passed
      → (file_check (old_file_of run) ≡ passed) × (run_in (old_file_of run) ≡ in_form mpb1 run)
      × (run_check (in_form mpb1 run) ≡ passed) × (basis_of (in_form mpb1 run) ≡ basis_of run)
  -- a run in its own form is itself (its elements are bytes, as those of every lent run are), so that one of MPB1 is written as ever,
  -- and is refused by nothing more than its own check
  pub own : (run : List ℕ) → ((i : ℕ) → byte_at run i < 256) → run_check run ≡ passed → in_form (form_of_run (length run)) run ≡ run
  pub as_ever : (run : List ℕ) → form_of_run (length run) ≡ mpb1 → old_form_check run ≡ run_check run
