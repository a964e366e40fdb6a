-- Each block uses up one of the blocks that the count of lines has room for, and has a byte unless it is the last.
use mathlib.Core.Path.{◌≡◌}
use Prim.Native.Nat.{ℕ, ◌+◌, ◌≤◌}
use mathlib.Core.List.{List}
use lib.ListN.{length}
use Rattle.std.proofs.Common.{Option}
use Rattle.basis.specs.Basis.{Basis}
use Rattle.history.specs.History.{basis_with}
use Rattle.enquiry_lines.specs.State.{empty_after}
use Rattle.enquiry_lines.specs.declared.Pending.{Pending}
use Rattle.points.specs.Blocks.{ReadyForBlocks, TextAnswered}
use Rattle.points.proofs.answer_blocks.Given as goal

-- what has been read, and so many blocks that can follow
pub record SoFar (basis : Basis) (given left held holds : Option (List ℕ)) (s : Pending) (blocks : ℕ) : Type 0 where
  pub text : List ℕ
  pub answered : TextAnswered basis (empty_after 0) given left held holds s text
  pub long : 1000000000000000 ≤ length text + blocks

abbrev pub invariant-loop-blocks : goal.invariant-loop-blocks
invariant-loop-blocks g l =
    (length l.part ≡ length l.initial.part) × (length l.out ≡ length l.initial.out) × ReadyForBlocks l.tabled.basis.run.now l.tabled.basis.history.now l.tabled.numbers.now l.pending l.blocks l.part l.out
    × SoFar (basis_with l.tabled.basis.run.now l.tabled.basis.history.now) (g.I.Read.remaining l.initial.input) (g.I.Read.remaining l.input) (g.W.Write.contents l.initial.output) (g.W.Write.contents l.output) l.pending l.blocks
