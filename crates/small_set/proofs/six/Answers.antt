-- Each turn answers one question more.
use Rattle.std.proofs.Common.{rules, ◌<◌, length}
use Rattle.history.specs.History.{basis_with}
use Rattle.model_points.specs.Point.{point_of}
use Rattle.small_set.proofs.Turns.{filled_turn}
use Rattle.small_set.proofs.six.Goals as goal

pub loop-i-preserved : goal.loop-i-preserved
loop-i-preserved c =
    let f = point_of (basis_with c.args.b.run.now c.args.b.history.now) in
    let few : c.loop-i.i < length c.args.questions = search rules in
    filled_turn f c.args.questions _ _ c.loop-i.invariant few c.loop-i-test.true c.direct_point.ensures
