-- What is left of the blocks gives the same answer as all of them.
use Rattle.std.proofs.Common.{◌≡◌, ◌-◌, ◌*◌, drop}
use Rattle.block.specs.Blocks.{blocks_check}
use Rattle.block.proofs.check_blocks.Given as goal

abbrev pub invariant-loop-b : goal.invariant-loop-b
invariant-loop-b l = blocks_check l.b (l.n - l.b) (drop (512 * l.b) l.file) ≡ blocks_check 0 l.n l.file
