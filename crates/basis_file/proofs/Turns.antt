-- The loops over n blocks, one block more: what is left gives the same in the end. Assumes nothing.
use mathlib.Core.Path.{◌≡◌, sym, ap, ◌∙◌}
use mathlib.Core.List.{List, ◌++◌}
use Prim.Native.Nat.{ℕ, suc, ◌+◌, ◌*◌, ◌-◌, ◌<◌, ◌≤◌}
use native.Mathlib.Omega.{arith}
use lib.ListN.{length, take, drop}
use lib.Seq.{drop-drop}
use Rattle.lent.specs.Lent.{placed}
use Rattle.lent.proofs.Lent.{placed-none, placed-whole, then}
use Rattle.block.specs.Block.{block_of}
use Rattle.block.specs.Blocks.{parts_of, blocks_of}
use Rattle.block.proofs.Blocks.{block-length}
use Rattle.block.proofs.Joined.{part-is, part_length, parts-length}

left : (n b : ℕ) → b < n → n - b ≡ suc (n - (b + 1))
left n b h = omega arith

-- ---- the data parts, joined
module _ (n : ℕ) (file run : List ℕ) (b : ℕ) where
  abbrev lent_part : List ℕ
  lent_part = take (512 * b + 2 + 506 - (512 * b + 2)) (drop (512 * b + 2) file)

  module _ (h : b < n) (l : length file ≡ 512 * n) where
    parts_step : parts_of (n - b) (drop (512 * b) file) ≡ lent_part ++ parts_of (n - (b + 1)) (drop (512 * (b + 1)) file)
    unfolding parts_of
    parts_step =
        let next : 512 * (b + 1) ≡ 512 * b + 512 = omega arith in
        rw (part-is file (512 * b + 2) 506, left n b h, next, ← drop-drop 512 (512 * b) file, ← drop-drop 2 (512 * b) file)

    pub join_turn : (new : List ℕ) → length run ≡ 506 * n → new ≡ placed run (506 * b) lent_part
        → placed new (506 * (b + 1)) (parts_of (n - (b + 1)) (drop (512 * (b + 1)) file)) ≡ placed run (506 * b) (parts_of (n - b) (drop (512 * b) file))
    join_turn new m e =
        let long : length lent_part ≡ 506 = rw (part-is file (512 * b + 2) 506) (part_length file (512 * b + 2) 506 (omega arith)) in
        then run (506 * b) lent_part (omega arith) new e (506 * (b + 1)) _ (omega arith) ∙ ap (placed run (506 * b)) (sym parts_step)

pub join_end : (n b : ℕ) (file run out : List ℕ) → n ≤ b → length file ≡ 512 * n → length out ≡ 506 * n
    → placed run (506 * b) (parts_of (n - b) (drop (512 * b) file)) ≡ placed out 0 (parts_of n file) → run ≡ parts_of n file
unfolding parts_of
join_end n b file run out h l m e =
    let none : n - b ≡ 0 = omega arith in
    let long = parts-length n file l in
    sym (placed-none run (506 * b)) ∙ rw none at e ∙ placed-whole out (parts_of n file) (omega arith)

-- ---- the blocks, written
module _ (n : ℕ) (run file : List ℕ) (b : ℕ) where
  abbrev lent_data : List ℕ
  lent_data = take (506 * b + 506 - 506 * b) (drop (506 * b) run)

  module _ (h : b < n) (l : length run ≡ 506 * n) where
    blocks_step : blocks_of b (n - b) (drop (506 * b) run) ≡ block_of b lent_data ++ blocks_of (b + 1) (n - (b + 1)) (drop (506 * (b + 1)) run)
    unfolding blocks_of
    blocks_step =
        let next : 506 * (b + 1) ≡ 506 * b + 506 = omega arith in
        rw (part-is run (506 * b) 506, left n b h, next, ← drop-drop 506 (506 * b) run)

    pub write_turn : (new : List ℕ) → 512 * n ≤ length file → new ≡ placed file (512 * b) (block_of b lent_data)
        → placed new (512 * (b + 1)) (blocks_of (b + 1) (n - (b + 1)) (drop (506 * (b + 1)) run)) ≡ placed file (512 * b) (blocks_of b (n - b) (drop (506 * b) run))
    write_turn new m e =
        let own : length lent_data ≡ 506 = rw (part-is run (506 * b) 506) (part_length run (506 * b) 506 (omega arith)) in
        let long = block-length b lent_data own in
        then file (512 * b) (block_of b lent_data) (omega arith) new e (512 * (b + 1)) _ (omega arith) ∙ ap (placed file (512 * b)) (sym blocks_step)

pub write_end : (n b : ℕ) (run file out : List ℕ) → n ≤ b
    → placed file (512 * b) (blocks_of b (n - b) (drop (506 * b) run)) ≡ placed out 0 (blocks_of 0 n run) → file ≡ placed out 0 (blocks_of 0 n run)
unfolding blocks_of
write_end n b run file out h e =
    let none : n - b ≡ 0 = omega arith in
    sym (placed-none file (512 * b)) ∙ rw none at e

pub ruleset joining = (join_turn, join_end)

pub ruleset writing = (write_turn, write_end)
