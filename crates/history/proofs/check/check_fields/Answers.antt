-- The years from k on give the fours and the fives so far; the whole is the first of both.
use mathlib.Core.Path.{◌≡◌, refl, sym, ◌∙◌}
use Prim.Native.Nat.{◌+◌, ◌*◌, ◌-◌, ◌<◌}
use native.Mathlib.Omega.{arith}
use Rattle.outcome.specs.Outcome.{first_of}
use Rattle.outcome.proofs.Outcome.{first-same, both-passed, says-passed, both-pass}
use Rattle.history.specs.History.{younger_ages, first_remaining, older_ages, second_remaining}
use Rattle.history.specs.Inner.Part.{part_check}
use Rattle.history.proofs.Yearly.{no-years, year-turn}
use Rattle.history.proofs.Ways.{fields-parts}
use Rattle.history.proofs.check.check_fields.Goals as goal

pub loop-k-init : goal.loop-k-init
loop-k-init c =
    let a = c.args in
    let none : a.years - a.years ≡ 0 = omega arith in
    (rw none (no-years _ _ _ _), rw none (no-years _ _ _ _))

pub loop-k-preserved-then-zero-within : goal.loop-k-preserved-then-zero-within
loop-k-preserved-then-zero-within c =
    let a = c.args in
    let k = c.loop-k.k - 1 in
    let before : k < a.years = omega arith in
    let next : c.loop-k.k ≡ k + 1 = omega arith in
    let Z = part_check a.history.now (2 * k) first_remaining in
    let M = part_check a.history.now (2 * k + 1) second_remaining in
    let Y = part_check a.history.now (2 * k) younger_ages in
    let O = part_check a.history.now (2 * k + 1) older_ages in
    let zero = both-pass Z M c.part_within.ensures c.part_within-in-loop-k.ensures in
    let within = both-pass Y O c.part_within-in-loop-k-2.ensures c.part_within-in-loop-k-3.ensures in
    let p = both-passed (first_of Z M) (first_of Y O) (says-passed _ (both-pass (first_of Z M) (first_of Y O) zero within) c.if-zero-within.true) in
    let turn-4 = year-turn a.history.now first_remaining second_remaining a.years k c.loop-k.k in
    let turn-5 = year-turn a.history.now younger_ages older_ages a.years k c.loop-k.k in (
      turn-4 (omega arith) before next (omega arith) (omega arith) refl refl (sym p.0) c.loop-k.invariant.0 refl,
      turn-5 (omega arith) before next (omega arith) (omega arith) refl refl (sym p.1) c.loop-k.invariant.1 refl,
    )

pub loop-k-preserved : goal.loop-k-preserved
loop-k-preserved c =
    let a = c.args in
    let k = c.loop-k.k - 1 in
    let before : k < a.years = omega arith in
    let next : c.loop-k.k ≡ k + 1 = omega arith in
    let turn-4 = year-turn a.history.now first_remaining second_remaining a.years k c.loop-k.k in
    let turn-5 = year-turn a.history.now younger_ages older_ages a.years k c.loop-k.k in (
      turn-4 (omega arith) before next (omega arith) (omega arith) c.check_part.ensures c.check_part-in-loop-k.ensures
          c.first_of-four.ensures c.loop-k.invariant.0 c.first_of-fours.ensures,
      turn-5 (omega arith) before next (omega arith) (omega arith) c.check_part-in-loop-k-2.ensures c.check_part-in-loop-k-3.ensures
          c.first_of-five.ensures c.loop-k.invariant.1 c.first_of-fives.ensures,
    )

pub returns : goal.returns
returns c =
    let a = c.args in
    let done : c.loop-k.k ≡ 0 = omega arith in
    let all : a.years - 0 ≡ a.years = omega arith in
    c.first_of.ensures ∙ first-same (rw (done, all) at c.loop-k.invariant.0) (rw (done, all) at c.loop-k.invariant.1) ∙ sym (fields-parts _ _)
