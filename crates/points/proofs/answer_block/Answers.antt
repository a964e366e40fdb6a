-- The replies to a part fit the output, and a block of lines is within the count.
use Prim.Native.Nat.{ℕ, ◌+◌, ◌≤◌}
use mathlib.Core.Path.{◌≡◌}
use mathlib.Core.List.{List}
use native.Mathlib.Omega.{arith}
use lib.ListN.{length}
use Rattle.history.specs.History.{basis_with}
use Rattle.enquiry_lines.specs.declared.Fed.{Fed}
use Rattle.enquiry_lines.specs.declared.Pending.{Pending}
use Rattle.enquiry_lines.specs.State.{Answered}
use Rattle.enquiry_lines.proofs.State.{left-sound, left-few}
use Rattle.points.specs.Blocks.{ReadyForBlocks}
use Rattle.points.proofs.answer_block.Goals as goal

-- what a block that is read leaves
fed : {run history numbers part read text out after : List ℕ} {s : Pending} {f : Fed} {blocks : ℕ} → ReadyForBlocks run history numbers s (blocks + 1) part out
    → Answered (basis_with run history) s text out 0 after f → length text ≤ length part → length read ≡ length part → length after ≡ length out
    → ReadyForBlocks run history numbers f.pending blocks read after
fed r a few same whole =
    let more = left-few a in
    record {
      ready = record { tabled = r.ready.tabled; room = omega arith; sound = left-sound a; countable = omega arith };
      short = omega arith;
      among = omega arith;
    }

pub returns-clause-ready : goal.returns-clause-ready
returns-clause-ready g c = fed c.requires c.feed-f.ensures (omega (arith, c.in-Ok.ensures.bound)) (omega arith) (omega arith)
