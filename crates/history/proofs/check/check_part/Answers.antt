-- The field is checked in the block's data by themselves; a refusal's place is moved to where these stand in the joined data.
use mathlib.Core.Path.{◌∙◌, ap, sym}
use Prim.Native.Nat.{◌+◌, ◌*◌}
use native.Mathlib.Omega.{arith}
use Rattle.outcome.specs.Outcome.{finding}
use Rattle.outcome.proofs.Outcome.{found}
use Rattle.block.proofs.Joined.{part-is}
use Rattle.history.specs.Inner.Part.{counted_from}
use Rattle.history.proofs.Window.{refused-in}
use Rattle.history.proofs.check.check_part.Goals as goal

pub overflow_add-result : goal.overflow_add-result
overflow_add-result c =
    omega (arith, refused-in _ c.args.f _ (found c.check_field.ensures c.in-Err.is))

pub returns-in-Err : goal.returns-in-Err
returns-in-Err c =
    let e = rw (part-is c.args.history.now (512 * c.args.b + 2) 506) at c.check_field.ensures in
    ap (counted_from (506 * c.args.b)) (sym (ap finding c.in-Err.is) ∙ e)
