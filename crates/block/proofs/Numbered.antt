-- No number but those of the papers' list: by the laws of what refuses by numbers of a list. Assumes nothing.
use Rattle.std.proofs.Common.{ℕ, zero, suc, ◌+◌, eqb, List, take, drop, refl}
use Rattle.little_endian.specs.Bytes.{u16_at, u32_at}
use Rattle.outcome.specs.Refusals.{numbers, is_listed, RefusesBy}
use Rattle.outcome.proofs.Refusals.{passed-by, unless-by, first_by}
use Rattle.block.specs.Block.{check_of, block_check}
use Rattle.block.specs.Blocks.{blocks_check}

block-numbered : (place : ℕ) (block : List ℕ) → RefusesBy numbers (block_check place block)
unfolding block_check numbers is_listed
block-numbered place block = first_by (unless-by (eqb (u32_at block 508) (check_of block)) _ refl) (unless-by (eqb (u16_at block 0) place) _ refl)

pub blocks-numbered : (place n : ℕ) (blocks : List ℕ) → RefusesBy numbers (blocks_check place n blocks)
unfolding blocks_check
blocks-numbered place zero blocks = passed-by
blocks-numbered place (suc n) blocks = first_by (block-numbered place (take 512 blocks)) (blocks-numbered (place + 1) n (drop 512 blocks))
