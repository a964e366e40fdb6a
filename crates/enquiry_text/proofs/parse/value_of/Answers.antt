-- The digits passed have the value so far: the rest, read after it, is the whole word.
use mathlib.Core.Path.{sym, ◌∙◌}
use native.Mathlib.Omega.{arith}
use native.Mathlib.Numerals.{add-one}
use Rattle.enquiry_text.proofs.Words.{digit-none, digit-next, digits-end}
use Rattle.enquiry_text.proofs.parse.value_of.Goals as goal

pub returns-then-not-is_ascii_digit : goal.returns-then-not-is_ascii_digit
returns-then-not-is_ascii_digit c =
    let l = c.loop-d in
    sym (digit-none l.value c.args.word.now l.d-index (omega arith) c.if-not-is_ascii_digit.ensures.cases) ∙ l.invariant.0

pub loop-d-preserved : goal.loop-d-preserved
loop-d-preserved c =
    let l = c.loop-d in
    let is = c.if-not-is_ascii_digit.ensures.cases in
    let e = digit-next l.value c.args.word.now l.d-index (omega arith) is.0 is.1 in
    rw (c.from.ensures, add-one) (sym e ∙ l.invariant.0, omega (arith, is.0, is.1))

pub returns : goal.returns
returns c =
    sym (digits-end c.loop-d.value c.args.word.now c.loop-d.d-index (omega arith)) ∙ c.loop-d.invariant.0
