-- Blocks one after the other, as they stand in a file (01, "The basis file").
use Rattle.std.specs.Prelude.{ℕ, zero, suc, ◌+◌, List, [], ◌++◌, take, drop}
use Rattle.outcome.specs.Outcome.{Finding, passed, first_of}
use Rattle.block.specs.Block.{block_check, block_of}

-- the data parts of n blocks, joined
unfoldable pub parts_of : ℕ → List ℕ → List ℕ
parts_of zero blocks = []
parts_of (suc n) blocks = take 506 (drop 2 blocks) ++ parts_of n (drop 512 blocks)

-- n blocks of data, the first of them at a place
unfoldable pub blocks_of : ℕ → ℕ → List ℕ → List ℕ
blocks_of place zero run = []
blocks_of place (suc n) run = block_of place (take 506 run) ++ blocks_of (place + 1) n (drop 506 run)

-- n blocks, ascending, the first of them at a place (2, 3)
unfoldable pub blocks_check : ℕ → ℕ → List ℕ → Finding
blocks_check place zero blocks = passed
blocks_check place (suc n) blocks = first_of (block_check place (take 512 blocks)) (blocks_check (place + 1) n (drop 512 blocks))
