-- One block of a basis file (01, "The basis file"): its number in 2 bytes, 506 data bytes and its check in 4.
use Rattle.std.specs.Prelude.{ℕ, zero, suc, ◌+◌, ◌*◌, ◌%◌, List, ◌++◌, ◌==◌}
use Rattle.little_endian.specs.Bytes.{u16_at, u32_at, u16_bytes, u32_bytes}
use Rattle.outcome.specs.Outcome.{Finding, refusal, unless, first_of}

-- the first n four-byte words, each times its place 1 to n, summed
unfoldable pub word_sum : List ℕ → ℕ → ℕ
word_sum block zero = 0
word_sum block (suc n) = word_sum block n + u32_at block (4 * n) * suc n

-- the check that a block ought to have: its first 127 words
unfoldable pub check_of : List ℕ → ℕ
check_of block = word_sum block 127 % 4_294_967_296

-- its check is wrong (2), or its number is not its place (3)
unfoldable pub block_check : ℕ → List ℕ → Finding
block_check place block =
    first_of (unless (u32_at block 508 == check_of block) (refusal 2 place 0)) (unless (u16_at block 0 == place) (refusal 3 place 0))

-- the block of 506 data bytes at a place
unfoldable pub block_of : ℕ → List ℕ → List ℕ
block_of place part = let body = u16_bytes place ++ part in body ++ u32_bytes (check_of body)
