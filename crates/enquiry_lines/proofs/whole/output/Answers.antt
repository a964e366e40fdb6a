-- What is read is the run that the lines are answered by, and what is put one after the other is the definition's output.
use mathlib.Core.Path.{refl, ap}
use Prim.Native.Nat.{ℕ}
use native.Mathlib.Omega.{arith}
use lib.ListN.{length-replicate}
use Rattle.factor_table.specs.FactorTable.{table_length}
use Rattle.outcome.specs.Outcome.{finding}
use Rattle.reply_text.proofs.Puts.{being, then}
use Rattle.enquiry_lines.proofs.State.{sound_empty, left-sound, left-few}
use Rattle.enquiry_lines.proofs.Opened.{opened-workable}
use Rattle.enquiry_lines.proofs.Printed.{last-reply, accepted-output, refused-output}
use Rattle.enquiry_lines.proofs.whole.output.Goals as goal

pub returns-in_default : goal.returns-in_default
returns-in_default c =
    let opened = c.open_files-o.ensures in
    being (refused-output opened c.args.text.now _ (ap finding c.in_default.is)) refl opened.put

pub invariant_of-basis : goal.invariant_of-basis
invariant_of-basis c =
    record { workable = opened-workable c.open_files-o.ensures (ap finding c.in-Ok.is) _ c.length_needed.ensures }

pub fill_table-requires : goal.fill_table-requires
fill_table-requires c = length-replicate {A = ℕ} table_length 0

pub feed_parts-f-requires : goal.feed_parts-f-requires
feed_parts-f-requires c =
    let opened = c.open_files-o.ensures in
    record {
      tabled = (opened-workable opened (ap finding c.in-Ok.is) _ c.length_needed.ensures, c.fill_table.ensures);
      room = omega arith;
      sound = sound_empty 0;
      countable = omega arith;
    }

pub finish-requires : goal.finish-requires
finish-requires c =
    let opened = c.open_files-o.ensures in
    let fed = c.feed_parts-f.ensures in
    record {
      tabled = (opened-workable opened (ap finding c.in-Ok.is) _ c.length_needed.ensures, c.fill_table.ensures);
      room = omega arith;
      sound = left-sound fed;
      countable = omega (arith, left-few fed);
    }

pub returns : goal.returns
returns c =
    let opened = c.open_files-o.ensures in
    let fed = c.feed_parts-f.ensures in
    let all = then opened.put (being (last-reply fed) refl (then fed.put c.finish.ensures)) in
    being (accepted-output opened c.args.text.now (ap finding c.in-Ok.is) _ c.length_needed.ensures) refl all
