-- Blocks one after the other pass exactly if each is right at its place. Assumes nothing.
use mathlib.Core.Path.{◌≡◌, refl}
use mathlib.Core.List.{List}
use Prim.Native.Nat.{ℕ, zero, suc, ◌+◌, ◌*◌, ◌<◌}
use native.Mathlib.Omega.{arith}
use lib.ListN.{take, drop}
use lib.Seq.{drop-drop}
use borrow.Author.Tests.{eqb-true, eq-eqb}
use Rattle.outcome.proofs.Outcome.{unless-passed, both-passed}
use Rattle.outcome.specs.Outcome.{passed}
use Rattle.block.specs.Block.{block_check}
use Rattle.block.specs.Blocks.{blocks_check}
use Rattle.history.specs.Accepted.{RightBlock}

-- ---- one block
right_of : (place : ℕ) (block : List ℕ) → block_check place block ≡ passed → RightBlock place block
unfolding block_check
right_of place block h =
    let p = both-passed _ _ h in
    record { check = eqb-true _ _ (unless-passed _ _ p.0); number = eqb-true _ _ (unless-passed _ _ p.1) }

passes-right : (place : ℕ) (block : List ℕ) → RightBlock place block → block_check place block ≡ passed
unfolding block_check
passes-right place block h = simp (eq-eqb _ _ h.check, eq-eqb _ _ h.number)

-- ---- n of them, the first at a place
abbrev Right : ℕ → ℕ → List ℕ → Type 0
Right place n blocks = (i : ℕ) → i < n → RightBlock (place + i) (take 512 (drop (512 * i) blocks))

pub blocks-right : (place n : ℕ) (blocks : List ℕ) → blocks_check place n blocks ≡ passed → Right place n blocks
unfolding blocks_check
blocks-right place zero blocks h i l = absurd (omega arith)
blocks-right place (suc n) blocks h zero l =
    let e : place + 0 ≡ place = omega arith in
    rw e (right_of place (take 512 blocks) (both-passed (block_check place (take 512 blocks)) _ h).0)
blocks-right place (suc n) blocks h (suc i) l =
    let rest = (both-passed (block_check place (take 512 blocks)) _ h).1 in
    let e : place + suc i ≡ place + 1 + i = omega arith in
    let f : 512 * suc i ≡ 512 + 512 * i = omega arith in
    rw (e, f, ← drop-drop (512 * i) 512 blocks) (blocks-right (place + 1) n (drop 512 blocks) rest i (omega arith))

pub blocks-pass : (place n : ℕ) (blocks : List ℕ) → Right place n blocks → blocks_check place n blocks ≡ passed
unfolding blocks_check
blocks-pass place zero blocks h = refl
blocks-pass place (suc n) blocks h =
    let next : (i : ℕ) → i < n → RightBlock (place + 1 + i) (take 512 (drop (512 * i) (drop 512 blocks))) =
    λ i l.
    let e : place + suc i ≡ place + 1 + i = omega arith in
    let f : 512 * suc i ≡ 512 + 512 * i = omega arith in
    rw (e, f, ← drop-drop (512 * i) 512 blocks) at (h (suc i) (omega arith)) in
    let here : place + 0 ≡ place = omega arith in
    rw (passes-right place (take 512 blocks) (rw here at (h 0 (omega arith)))) (blocks-pass (place + 1) n (drop 512 blocks) next)
