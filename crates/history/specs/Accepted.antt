-- When a history is accepted (02, change 2), said of its bytes and of its improvements; and that its check passes exactly then.
use Rattle.std.specs.Prelude.{ℕ, ◌+◌, ◌*◌, ◌-◌, ◌≤◌, ◌<◌, ◌≡◌, List, length, take, drop, nat_abs}
use Rattle.little_endian.specs.Bytes.{byte_at, u16_at, u32_at}
use Rattle.basis.specs.Basis.{Basis, basis_of, Accepted}
use Rattle.outcome.specs.Outcome.{passed}
use Rattle.block.specs.Block.{check_of}
use Rattle.history.specs.History.{history_data, actual_of, history_check, run_and_history_check}

-- a block whose check is right, and whose number is its place
pub record RightBlock (place : ℕ) (block : List ℕ) : Type 0 where
  pub check : u32_at block 508 ≡ check_of block
  pub number : u16_at block 0 ≡ place

-- what 13 and 2 to 5 do not refuse
pub record AcceptedHistory (b : Basis) (history : List ℕ) : Type 0 where
  -- 1,024 bytes per year from B + 1 to F
  pub size : length history ≡ 1024 * (b.foundation - b.base)
  -- two blocks per year, whose numbers run from 0
  pub blocks : (place : ℕ) → place < 2 * (b.foundation - b.base) → RightBlock place (take 512 (drop (512 * place) history))
  -- improvements within ±500,000,000
  pub actual : (age year : ℕ) → 20 ≤ age → age ≤ 150 → b.base < year → year ≤ b.foundation → nat_abs (actual_of b history age year) ≤ 500_000_000
  -- remaining data zero: of a year's data what stands behind the 66 improvements of ages 20 to 85, and behind the 65 of ages 86 to 150
  pub first_zeros : (year at : ℕ) → b.base < year → year ≤ b.foundation → 264 ≤ at → at < 506
      → byte_at (history_data b history) (1012 * (year - (b.base + 1)) + at) ≡ 0
  pub second_zeros : (year at : ℕ) → b.base < year → year ≤ b.foundation → 766 ≤ at → at < 1012
      → byte_at (history_data b history) (1012 * (year - (b.base + 1)) + at) ≡ 0

-- an accepted data run with an accepted history
pub record AcceptedBasis (run history : List ℕ) : Type 0 where
  pub by_run : Accepted run
  pub by_history : AcceptedHistory (basis_of run) history

-- ---- a history passes exactly if it is accepted, and so does a data run with its history
pub record HistoryAcceptance : Type 0 where
  pub accepted : (b : Basis) (history : List ℕ) → history_check b history ≡ passed → AcceptedHistory b history
  pub passes : (b : Basis) (history : List ℕ) → AcceptedHistory b history → history_check b history ≡ passed
  pub basis_accepted : (run history : List ℕ) → run_and_history_check run history ≡ passed → AcceptedBasis run history
  pub basis_passes : (run history : List ℕ) → AcceptedBasis run history → run_and_history_check run history ≡ passed
