-- The way through a block's check, and a block in the building: its number and the data are put, then the check of what stands there.
-- Assumes nothing.
use Rattle.std.proofs.Common.{◌≡◌, ℕ, ◌+◌, ◌-◌, ◌≤◌, List, ◌++◌, length, take, drop, ap, ◌∙◌, arith, length-append, eq-eqb}
use native.Mathlib.Nat.{add-sub_cancel_left}
use Rattle.little_endian.specs.Bytes.{u16_at, u32_at, u16_bytes, u32_bytes}
use Rattle.outcome.specs.Outcome.{passed}
use Rattle.lent.specs.Lent.{placed}
use Rattle.lent.proofs.Lent.{placed-there, then}
use Rattle.block.specs.Block.{check_of, block_check, block_of}

-- ---- the way through a block's check
module _ (place : ℕ) (block : List ℕ) where
  pub sound : u32_at block 508 ≡ check_of block → u16_at block 0 ≡ place → block_check place block ≡ passed
  unfolding block_check
  sound e h = simp (eq-eqb (u32_at block 508) (check_of block) e, eq-eqb (u16_at block 0) place h)

-- ---- a block in the building
module _ (out a b : List ℕ) (at place : ℕ) (part : List ℕ) (room : at + 512 ≤ length out) (long : length part ≡ 506)
    (e : a ≡ placed out at (u16_bytes place)) (f : b ≡ placed a (at + 2) part) where
  body-length : length (u16_bytes place ++ part) ≡ 508
  body-length = rw length-append (omega arith)

  body : b ≡ placed out at (u16_bytes place ++ part)
  body = f ∙ then out at (u16_bytes place) (omega arith) a e (at + 2) part (omega arith)

  -- what the check is taken of
  checked : take (at + 508 - at) (drop at b) ≡ u16_bytes place ++ part
  checked =
      let n = body-length in
      rw (add-sub_cancel_left, body, ← n) (placed-there out at (u16_bytes place ++ part) (omega arith))

  pub built : (check : ℕ) (c : List ℕ) → check ≡ check_of (take (at + 508 - at) (drop at b)) → c ≡ placed b (at + 508) (u32_bytes check)
      → c ≡ placed out at (block_of place part)
  unfolding block_of
  built check c g h =
      let n = body-length in
      h ∙ then out at (u16_bytes place ++ part) (omega arith) b body (at + 508) (u32_bytes check) (omega arith)
      ∙ ap (λ k. placed out at ((u16_bytes place ++ part) ++ u32_bytes k)) (g ∙ ap check_of checked)
