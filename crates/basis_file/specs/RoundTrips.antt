-- Demand 2's round trips: a basis read and written back is the same file; written and read back, the same basis.
use Rattle.std.specs.Prelude.{◌≡◌, List, ℕ, ◌<◌, get_or}
use Rattle.run_check.specs.Run.{run_check}
use Rattle.basis_file.specs.File.{run_in, file_of, file_check}
use Rattle.outcome.specs.Outcome.{passed}

pub record RoundTrips : Type 0 where
  -- read and written back: the file of the run in an accepted file is that file (its elements are bytes, as those of every lent file are)
  pub same_file : (file : List ℕ) → ((i : ℕ) → get_or file i 0 < 256) → file_check file ≡ passed → file_of (run_in file) ≡ file
  -- written and read back: the file of an accepted run is accepted, and the run in it is that run
  pub same_basis : (run : List ℕ) → run_check run ≡ passed → (file_check (file_of run) ≡ passed) × (run_in (file_of run) ≡ run)
