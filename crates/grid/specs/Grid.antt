-- The grid (01, "a lent list of 119 point records whose results are filled in place").
use Rattle.std.specs.Prelude.{ℕ, zero, suc, List, [], ◌∷◌, length}
use Rattle.basis.specs.Basis.{Basis}
use Rattle.outcome.specs.Outcome.{Finding, passed, refused_by, first_of}
use Rattle.history.specs.History.{basis_with, run_and_history_check}
use Rattle.lent.specs.Lent.{count_check}
use Rattle.grid_record.specs.declared.Point.{Point}
use Rattle.grid_record.specs.Record.{answered_of}

-- a list shorter than 119 is refused as 11 with 119 for the bytes, before the basis and its history are looked at
unfoldable pub grid_check : List ℕ → List ℕ → ℕ → Finding
grid_check run history count = first_of (count_check 119 count) (run_and_history_check run history)

-- how many records are answered: 119, and none of a refused grid
abbrev pub records_of : Finding → ℕ
records_of passed = 119
records_of (refused_by r) = 0

-- each of the first n records answered; further records are kept
unfoldable pub answers : Basis → ℕ → List Point → List Point
answers b zero points = points
answers b (suc n) [] = []
answers b (suc n) (p ∷ points) = answered_of b p ∷ answers b n points

-- the list after the grid
unfoldable pub grid_of : List ℕ → List ℕ → List Point → List Point
grid_of run history points = answers (basis_with run history) (records_of (grid_check run history (length points))) points
