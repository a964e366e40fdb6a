-- From the last digit on: the digits still to be put give the same buffer.
use mathlib.Core.Path.{◌≡◌, refl, ap, sym, ◌∙◌}
use native.Mathlib.Omega.{arith}
use lib.ListN.{length-set}
use Rattle.lent.specs.Lent.{placed}
use Rattle.reply_text.specs.Decimal.{digits}
use Rattle.reply_text.proofs.Turns.{digit-turn, digits-done, digits-put}
use Rattle.reply_text.proofs.Output.last_digits.Goals as goal

pub loop-i-preserved : goal.loop-i-preserved
loop-i-preserved c =
    let l = c.loop-i in
    let o = l.self.out.now in
    let at = c.args.self.now.at in
    let turn = digit-turn o at l.i l.rest (omega arith) (omega arith) in
    rw l.invariant.0 (refl, l.invariant.1, rw length-set l.invariant.2, turn ∙ l.invariant.3)

pub returns-clause-put : goal.returns-clause-put
returns-clause-put c =
    let l = c.loop-i in
    let s = c.args.self.now in
    let e : 0 ≡ l.i = omega arith in
    let all = sym (digits-done l.self.out.now s.at l.rest) ∙ ap (λ i. placed l.self.out.now s.at (digits i l.rest)) e ∙ l.invariant.3 in
    record { put = rw l.invariant.0 (digits-put s.out.now s.at c.args.k c.args.n _ c.requires all); same = l.invariant.1 }
