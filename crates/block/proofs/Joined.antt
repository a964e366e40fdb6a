-- Blocks one after the other: their checks one block more, and where their data stand when joined. Assumes nothing.
use Rattle.std.proofs.Common.{◌≡◌, ℕ, zero, suc, ◌+◌, ◌-◌, ◌*◌, ◌<◌, ◌≤◌, List, ◌++◌, length, take, drop, sym, refl, ap, ◌∙◌, arith, length-append, length-drop, length-take, drop-drop, take_at, drop_at}
use native.Mathlib.Nat.{add-sub_cancel_left}
use Rattle.outcome.specs.Outcome.{first_of}
use Rattle.block.specs.Block.{block_check}
use Rattle.block.specs.Blocks.{parts_of, blocks_check}

-- a part of a list, as the borrow checker writes one that is lent
module _ (s : List ℕ) (at n : ℕ) where
  pub part-is : take (at + n - at) (drop at s) ≡ take n (drop at s)
  part-is = simp add-sub_cancel_left

  pub part_length : at + n ≤ length s → length (take n (drop at s)) ≡ n
  part_length h = simp (length-take, length-drop) (omega arith)

-- ---- the checks
-- of the blocks from one on: its own check, of the part that is lent to it, and then those behind it
pub check_turn : (file : List ℕ) (n b : ℕ) → b < n
    → blocks_check b (n - b) (drop (512 * b) file)
    ≡ first_of (block_check b (take (512 * b + 512 - 512 * b) (drop (512 * b) file))) (blocks_check (b + 1) (n - (b + 1)) (drop (512 * (b + 1)) file))
unfolding blocks_check
check_turn file n b h =
    let left : n - b ≡ suc (n - (b + 1)) = omega arith in
    let m : 512 * (b + 1) ≡ 512 * b + 512 = omega arith in
    rw (part-is file (512 * b) 512, left, m, ← drop-drop 512 (512 * b) file)

-- ---- the data
pub parts-length : (n : ℕ) (blocks : List ℕ) → length blocks ≡ 512 * n → length (parts_of n blocks) ≡ 506 * n
unfolding parts_of
parts-length zero blocks h = refl
parts-length (suc n) blocks h =
    let r = parts-length n (drop 512 blocks) (simp length-drop (omega arith)) in
    simp (length-append, length-take, length-drop, r) (omega arith)

-- the data of a block stand in the joined data 506 bytes to a block
pub part-there : (n b : ℕ) (blocks : List ℕ) → b < n → length blocks ≡ 512 * n
    → take 506 (drop (506 * b) (parts_of n blocks)) ≡ take 506 (drop (512 * b + 2) blocks)
unfolding parts_of
part-there zero b blocks h l = absurd (omega arith)
part-there (suc n) zero blocks h l =
    let p : length (take 506 (drop 2 blocks)) ≡ 506 = simp (length-take, length-drop) (omega arith) in
    take_at (take 506 (drop 2 blocks)) (parts_of n (drop 512 blocks)) 506 p
part-there (suc n) (suc b) blocks h l =
    let part = take 506 (drop 2 blocks) in
    let rest = parts_of n (drop 512 blocks) in
    let p : length part ≡ 506 = simp (length-take, length-drop) (omega arith) in
    let e : 506 * suc b ≡ 506 + 506 * b = omega arith in
    let f : 512 * suc b + 2 ≡ 512 + (512 * b + 2) = omega arith in
    let d : drop (506 + 506 * b) (part ++ rest) ≡ drop (506 * b) rest = sym (drop-drop (506 * b) 506 (part ++ rest)) ∙ ap (drop (506 * b)) (drop_at part rest 506 p) in
    rw (e, f, d, ← drop-drop (512 * b + 2) 512 blocks) (part-there n b (drop 512 blocks) (omega arith) (simp length-drop (omega arith)))
