-- What the checks let pass is all that the table and the records ask for; each turn answers one record more, and a refusal changes none.
use Rattle.std.proofs.Common.{◌≡◌, ◌∙◌, ap, sym, rules, ℕ, List, ◌++◌, arith, length-take, take, drop}
use Rattle.history.specs.History.{basis_with}
use Rattle.grid_record.specs.declared.Point.{Point}
use Rattle.grid.specs.Grid.{answers}
use Rattle.grid.proofs.Filled.{answers-none, answers_turn, answers_front, grid-filled, grid-kept, enough_records}
use Rattle.grid.proofs.fill.Goals as goal

pub returns-in_err-check_grid-clause-points_after : goal.returns-in_err-check_grid-clause-points_after
returns-in_err-check_grid-clause-points_after c = grid-kept _ _ _ c.in_err-check_grid.ensures

pub slice_bounds-p-items-end-2 : goal.slice_bounds-p-items-end-2
slice_bounds-p-items-end-2 c =
    let room = enough_records c.args.run.now c.args.history.now _ c.in_ok-check_grid.ensures in
    search rules

pub loop-p-init : goal.loop-p-init
loop-p-init c = sym (answers-none _ _)

pub offset_bounds-p-items-p-index : goal.offset_bounds-p-items-p-index
offset_bounds-p-items-p-index c =
    let few = c.loop-p-test.true in
    let most = simp length-take at few in
    record { fits = omega (arith, most) }

pub loop-p-preserved : goal.loop-p-preserved
loop-p-preserved c = answers_turn _ _ _ c.loop-p.invariant c.loop-p-test.true c.swept_record.ensures

pub returns-clause-points_after : goal.returns-clause-points_after
returns-clause-points_after c =
    let b = basis_with c.args.run.now c.args.history.now in
    let points = c.args.points.now in
    let passes = c.in_ok-check_grid.ensures in
    let room = enough_records c.args.run.now c.args.history.now _ passes in
    let size = length-take 119 points in
    let all : c.loop-p.p-index ≡ 119 = omega (arith, c.loop-p-test.false, c.loop-p.auto.p-index-end, size, room) in
    ap (λ (items : List Point). items ++ drop 119 points) (c.loop-p.invariant ∙ ap (λ (n : ℕ). answers b n (take 119 points)) all)
    ∙ answers_front b 119 points ∙ grid-filled _ _ _ passes
