-- What is left of the P gives the same output as all of them.
use mathlib.Core.Path.{sym, ◌∙◌}
use Prim.Native.Nat.{◌+◌, ◌*◌, ◌≤◌}
use native.Mathlib.Omega.{arith}
use lib.ListN.{length}
use Rattle.layout.specs.Layout.{width_of, proportion_of}
use Rattle.short_form.proofs.Entries.{entries_turn, entries_end}
use Rattle.short_form.proofs.Tables.{proportion-entry, proportion-width}
use Rattle.layout.specs.Meaning.{meant}
use Rattle.short_form.proofs.parts.put_proportions.Goals as goal

pub loop-i-preserved : goal.loop-i-preserved
loop-i-preserved c =
    let a = c.args in
    let entry = proportion-entry (meant a.form) in
    let width = width_of (proportion_of (meant a.form)) in
    let each = proportion-width (meant a.form) in
    let new = rw c.proportion_width-width.ensures at c.put_proportion.ensures in
    let room : a.at + width * a.n ≤ length c.loop-i.out = rw c.loop-i.auto.out c.requires in
    entries_turn entry width each c.loop-i.out _ a.at 0 a.n c.loop-i.i (omega arith) room new ∙ c.loop-i.invariant

pub returns : goal.returns
returns c =
    let a = c.args in
    let form = meant a.form in
    sym (entries_end (proportion-entry form) (width_of (proportion_of form)) (proportion-width form) c.loop-i.out a.at 0 a.n c.loop-i.i (omega arith)) ∙ c.loop-i.invariant
