-- What is fed so far is the text's first i bytes, whatever the parts are; the last part is the rest.
use mathlib.Core.Path.{refl, ap, ◌∙◌}
use Prim.Native.Nat.{◌+◌}
use native.Mathlib.Omega.{arith}
use lib.ListN.{drop}
use lib.Seq.{drop-drop}
use Rattle.enquiry_lines.proofs.SoFar.{begins, ready-for, front-turns, rest-turns}
use Rattle.enquiry_lines.proofs.whole.feed_parts.Goals as goal

pub loop-length-init : goal.loop-length-init
loop-length-init c = rw c.begin-pending.ensures (0, refl, begins c.requires)

pub feed-f-requires : goal.feed-f-requires
feed-f-requires c = let so = c.loop-length.invariant in ready-for so.2 so.1 _ (omega arith)

pub loop-length-preserved : goal.loop-length-preserved
loop-length-preserved c =
    let so = c.loop-length.invariant in
    let n = c.min.result in
    let cut = c.split_at.ensures in
    (so.0 + n, cut.back ∙ ap (drop n) so.1 ∙ drop-drop n so.0 c.args.text.now, front-turns so.2 so.1 n (omega arith) cut.front c.feed-f.ensures)

pub feed-requires : goal.feed-requires
feed-requires c = let so = c.loop-length.invariant in ready-for so.2 so.1 _ (omega arith)

pub returns : goal.returns
returns c = let so = c.loop-length.invariant in rest-turns so.2 so.1 c.feed.ensures
