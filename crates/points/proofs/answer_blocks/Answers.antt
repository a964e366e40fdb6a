-- What a block adds to what has been read and written.
use mathlib.Core.Path.{refl}
use mathlib.Core.List.{[], ◌++◌}
use native.Mathlib.Omega.{arith}
use lib.ListN.{length-append}
use Rattle.points.proofs.Texts.{at-false, nothing, then, last-block}
use Rattle.points.proofs.answer_blocks.Goals as goal

pub loop-blocks-init : goal.loop-blocks-init
loop-blocks-init g c = rw c.begin-pending.ensures (refl, refl, c.requires, record { text = []; answered = nothing _ _ _; long = omega arith })

pub loop-blocks-preserved : goal.loop-blocks-preserved
loop-blocks-preserved g c =
    let t = c.in_ok-t.ensures in
    let so = c.loop-blocks.invariant.3 in
    let more = at-false _ c.if-t.false t.answered.more in (
      omega arith,
      omega arith,
      t.ready,
      record {
        text = so.text ++ t.answered.text;
        answered = then _ so.answered t.answered.answered t.ready.ready.sound;
        long = omega (arith, so.long, more, length-append so.text t.answered.text);
      },
    )

pub returns-then-t-clause-answered : goal.returns-then-t-clause-answered
returns-then-t-clause-answered g c =
    let t = c.in_ok-t.ensures in last-block c.loop-blocks.invariant.3.answered t.ready.ready.sound c.if-t.true (omega arith) t.answered
