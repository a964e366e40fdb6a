-- What is fed so far is the text's first i bytes, whatever the parts are; the rest is what stands behind them.
use mathlib.Core.Path.{◌≡◌}
use Prim.Native.Nat.{ℕ}
use lib.ListN.{drop}
use Rattle.enquiry_lines.specs.State.{empty_after}
use Rattle.enquiry_lines.proofs.SoFar.{SoFar}
use Rattle.enquiry_lines.proofs.whole.feed_parts.Given as goal

abbrev pub invariant-loop-length : goal.invariant-loop-length
invariant-loop-length l =
    (i : ℕ) × (l.rest ≡ drop i l.text) × SoFar l.t.basis.run.now l.t.basis.history.now l.t.numbers.now l.text l.initial.out l.from (empty_after 0) l.out (record { pending = l.pending; at = l.at }) i
