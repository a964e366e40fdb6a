-- Where an actual improvement stands: in the blocks as they are in the file, and in their joined data. Assumes nothing.
use mathlib.Core.Path.{◌≡◌, refl, sym, ap, ◌∙◌}
use mathlib.Core.Bool.{cond}
use mathlib.Core.List.{List}
use Prim.Native.Nat.{ℕ, ◌+◌, ◌*◌, ◌-◌, ◌<◌, ◌≤◌}
use native.Mathlib.Decide.{dec_lt}
use native.Mathlib.Omega.{arith}
use lib.Dec.{leb}
use lib.ListN.{length}
use borrow.Author.Tests.{le-leb, lt-leb}
use Rattle.little_endian.specs.Bytes.{u32_at, i32_at, signed32}
use Rattle.basis.specs.Basis.{Basis}
use Rattle.block.specs.Blocks.{parts_of}
use Rattle.block.proofs.Joined.{part-there}
use Rattle.history.specs.History.{actual_years, length_needed, history_data, place_of, actual_of}
use Rattle.history.proofs.Window.{word-there}

-- in the two blocks of a year
abbrev pub InBlocks : ℕ → ℕ
InBlocks age = cond (leb age 85) (2 + 4 * (age - 20)) (514 + 4 * (age - 86))

pub young-in-blocks : (age : ℕ) → age ≤ 85 → 2 + 4 * (age - 20) ≡ InBlocks age
young-in-blocks age h = rw (le-leb age 85 h) refl

pub old-in-blocks : (age : ℕ) → 85 < age → 514 + 4 * (age - 86) ≡ InBlocks age
old-in-blocks age h = rw (lt-leb age 85 h) refl

pub in-blocks-room : (age : ℕ) → age ≤ 150 → InBlocks age + 4 ≤ 1024
in-blocks-room age h = by (dec_lt 85 age)
  where
    by : Dec (85 < age) → InBlocks age + 4 ≤ 1024
    by (yes l) = rw (← old-in-blocks age l) (omega arith)
    by (no l) = rw (← young-in-blocks age (omega arith)) (omega arith)

-- a number of 4 bytes in the data of a block
in-data : (n b at : ℕ) (blocks : List ℕ) → b < n → length blocks ≡ 512 * n → at + 4 ≤ 506
    → i32_at blocks (512 * b + 2 + at) ≡ i32_at (parts_of n blocks) (506 * b + at)
in-data n b at blocks h l w =
    ap signed32
    (word-there blocks (512 * b + 2) 506 at w
    ∙ ap (λ (part : List ℕ). u32_at part at) (sym (part-there n b blocks h l))
    ∙ sym (word-there (parts_of n blocks) (506 * b) 506 at w))

module _ (b : Basis) (history : List ℕ) (l : length history ≡ length_needed b) (age year : ℕ) (old : age ≤ 150)
    (after : b.base < year) (upto : year ≤ b.foundation) where
  abbrev K : ℕ
  K = year - (b.base + 1)

  abbrev Data : List ℕ
  Data = parts_of (2 * actual_years b) history

  in-file : i32_at history (1024 * K + InBlocks age) ≡ i32_at Data (1012 * K + place_of age)
  in-file = by (dec_lt 85 age)
    where
      by : Dec (85 < age) → i32_at history (1024 * K + InBlocks age) ≡ i32_at Data (1012 * K + place_of age)
      by (yes h) =
          let e : 1024 * K + (514 + 4 * (age - 86)) ≡ 512 * (2 * K + 1) + 2 + 4 * (age - 86) = omega arith in
          let f : 1012 * K + (506 + 4 * (age - 86)) ≡ 506 * (2 * K + 1) + 4 * (age - 86) = omega arith in
          rw (lt-leb age 85 h, e, f) (in-data (2 * actual_years b) (2 * K + 1) (4 * (age - 86)) history (omega arith) (omega arith) (omega arith))
      by (no h) =
          let e : 1024 * K + (2 + 4 * (age - 20)) ≡ 512 * (2 * K) + 2 + 4 * (age - 20) = omega arith in
          let f : 1012 * K + 4 * (age - 20) ≡ 506 * (2 * K) + 4 * (age - 20) = omega arith in
          rw (le-leb age 85 (omega arith), e, f) (in-data (2 * actual_years b) (2 * K) (4 * (age - 20)) history (omega arith) (omega arith) (omega arith))

  pub actual-there : {base at : ℕ} → base ≡ b.base → at ≡ InBlocks age → i32_at history (1024 * (year - base - 1) + at) ≡ actual_of b history age year
  unfolding actual_of history_data
  actual-there e f =
      let k : year - b.base - 1 ≡ K = omega arith in
      rw (e, f, k) in-file

  pub actual-room : {base at : ℕ} → base ≡ b.base → at ≡ InBlocks age → 1024 * (year - base - 1) + at + 4 ≤ length history
  actual-room e f = let r = in-blocks-room age old in omega (arith, e, f, r, l)
