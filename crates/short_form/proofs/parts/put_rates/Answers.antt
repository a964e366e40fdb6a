-- What is left of the rates gives the same output as all of them.
use mathlib.Core.Path.{sym, ap, ◌∙◌}
use Prim.Native.Nat.{◌+◌, ◌*◌, ◌≤◌}
use native.Mathlib.Omega.{arith}
use lib.ListN.{length}
use mir.Syntax.{w32}
use mir.Val.{to_z, of_z}
use mir.Facts.{to_z-of_z}
use Rattle.layout.specs.Layout.{ages, age_long_term_rates_at, age_periods_at}
use Rattle.lent.specs.Lent.{placed}
use Rattle.short_form.proofs.Entries.{entries_turn, entries_end}
use Rattle.short_form.proofs.Tables.{rate-entry, rate-width}
use Rattle.little_endian.specs.Bytes.{i32_bytes}
use Rattle.arithmetic.proofs.Machine.{got}
use Rattle.short_form.proofs.parts.put_rates.Goals as goal

pub loop-i-preserved : goal.loop-i-preserved
loop-i-preserved c =
    let rate = to_z w32 (of_z w32 c.args.rate) in
    let at = age_long_term_rates_at + 4 * c.loop-i.i in
    let word = c.i32_bytes-word.ensures ∙ ap i32_bytes (got w32 c.long_term_rate.type_inv c.long_term_rate.ensures) in
    let new = c.put.ensures ∙ ap (placed c.loop-i.out at) word in
    let room : age_periods_at ≤ length c.loop-i.out = omega arith in
    entries_turn (rate-entry rate) 4 (rate-width rate) c.loop-i.out _ age_long_term_rates_at 20 ages c.loop-i.i (omega arith) room new ∙ c.loop-i.invariant

pub returns : goal.returns
returns c =
    let rate = to_z w32 (of_z w32 c.args.rate) in
    rw (to_z-of_z c.ranges.rate)
    at (sym (entries_end (rate-entry rate) 4 (rate-width rate) c.loop-i.out age_long_term_rates_at 20 ages c.loop-i.i (omega arith)) ∙ c.loop-i.invariant)
