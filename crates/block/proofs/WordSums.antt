-- The sum behind a block's check, none of its words and one more, and that the check goes by the first 508 bytes. Assumes nothing.
use Rattle.std.proofs.Common.{◌≡◌, ℕ, zero, suc, ◌+◌, ◌*◌, ◌%◌, ◌<◌, ◌≤◌, List, ◌++◌, length, refl, mod-lt, add-one, arith, lit<}
use native.Mathlib.Nat.{add-mod}
use lib.ListN.{get_or-append}
use Rattle.little_endian.specs.Bytes.{u32_at}
use Rattle.block.specs.Block.{word_sum, check_of}

pub no_words : (block : List ℕ) → word_sum block 0 ≡ 0
unfolding word_sum
no_words block = refl

pub turn : (block : List ℕ) (n : ℕ)
    → word_sum block (n + 1) % 4_294_967_296 ≡ (word_sum block n % 4_294_967_296 + u32_at block (4 * n) * (n + 1) % 4_294_967_296) % 4_294_967_296
unfolding word_sum
turn block n = rw (add-one n) (add-mod _ _ _)

pub ruleset word_by_word = (no_words, turn)

word-local : (s t : List ℕ) (at : ℕ) → at + 4 ≤ length s → u32_at (s ++ t) at ≡ u32_at s at
word-local s t at h =
    simp (
      get_or-append s t 0 at (omega arith),
      get_or-append s t 0 (at + 1) (omega arith),
      get_or-append s t 0 (at + 2) (omega arith),
      get_or-append s t 0 (at + 3) (omega arith),
    )

sum-local : (s t : List ℕ) (n : ℕ) → 4 * n ≤ length s → word_sum (s ++ t) n ≡ word_sum s n
unfolding word_sum
sum-local s t zero h = refl
sum-local s t (suc n) h = simp (sum-local s t n (omega arith), word-local s t (4 * n) (omega arith))

pub check-local : (s t : List ℕ) → 508 ≤ length s → check_of (s ++ t) ≡ check_of s
unfolding check_of
check-local s t h = simp (sum-local s t 127 h)

pub check-fits : (s : List ℕ) → check_of s < 4_294_967_296
unfolding check_of
check-fits s = mod-lt _ (lit< tt)
