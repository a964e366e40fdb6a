-- The parts that are left give the same run as all of them.
use mathlib.Core.Path.{◌≡◌}
use Prim.Native.Nat.{◌*◌, ◌-◌}
use lib.ListN.{drop}
use Rattle.lent.specs.Lent.{placed}
use Rattle.block.specs.Blocks.{parts_of}
use Rattle.basis_file.proofs.read.join_parts.Given as goal

abbrev pub invariant-loop-b : goal.invariant-loop-b
invariant-loop-b l = placed l.run (506 * l.b) (parts_of (l.n - l.b) (drop (512 * l.b) l.file)) ≡ placed l.initial.run 0 (parts_of l.n l.file)
