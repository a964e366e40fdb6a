-- The blocks that are left give the same output as all of them.
use mathlib.Core.Path.{◌≡◌}
use Prim.Native.Nat.{◌*◌, ◌-◌}
use lib.ListN.{drop}
use Rattle.lent.specs.Lent.{placed}
use Rattle.block.specs.Blocks.{blocks_of}
use Rattle.basis_file.proofs.write.write_blocks.Given as goal

abbrev pub invariant-loop-b : goal.invariant-loop-b
invariant-loop-b l = placed l.file (512 * l.b) (blocks_of l.b (l.n - l.b) (drop (506 * l.b) l.run)) ≡ placed l.initial.file 0 (blocks_of 0 l.n l.run)
