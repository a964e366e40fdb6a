-- The checks decide: where they pass, each turn answers one record more, and where they refuse, the records are kept.
use Rattle.std.proofs.Common.{◌≡◌, ◌∙◌, ap, sym, rules, true, false, ℕ, ◌<◌, length, arith}
use Rattle.std.specs.Prelude.{Result, Ok, Err}
use Rattle.std.specs.Result.{is_ok}
use Rattle.history.specs.History.{basis_with}
use Rattle.outcome.specs.declared.Refusal.{Refusal}
use Rattle.outcome.specs.Outcome.{Finding, passed, refused_by, finding}
use Rattle.grid.specs.Grid.{grid_check, answers}
use Rattle.grid.proofs.Filled.{answers-none, answers_turn, grid-filled, grid-kept}
use Rattle.direct_grid.proofs.answer_all.Goals as goal

-- what a check's `is_ok` says of the definition
when_ok : (r : Result (Unit {0}) Refusal) (f : Finding) → is_ok r ≡ true → finding r ≡ f → passed ≡ f
when_ok (Ok _) f e h = h
when_ok (Err r) f e h = cc

when_err : (r : Result (Unit {0}) Refusal) (f : Finding) → is_ok r ≡ false → finding r ≡ f → (why : Refusal) × (refused_by why ≡ f)
when_err (Ok _) f e h = absurd (cc)
when_err (Err r) f e h = (r, h)

pub loop-p-init : goal.loop-p-init
loop-p-init c = sym (answers-none _ _)

pub loop-p-preserved : goal.loop-p-preserved
loop-p-preserved c =
    let few : c.loop-p.p-index < length c.args.records = omega arith in
    answers_turn _ _ _ c.loop-p.invariant few c.direct_record.ensures

pub returns-after-loop-p : goal.returns-after-loop-p
returns-after-loop-p c =
    let b = basis_with c.args.run.now c.args.history.now in
    let size : length c.args.records ≡ 119 = search rules in
    let all : c.loop-p.p-index ≡ 119 = omega arith in
    let passes = when_ok _ _ (sym c.is_ok.ensures.value ∙ c.if-is_ok.true) c.check_grid.ensures in
    let same : passed ≡ grid_check c.args.run.now c.args.history.now (length c.args.records) = rw size passes in
    c.loop-p.invariant ∙ ap (λ (n : ℕ). answers b n c.args.records) all ∙ grid-filled _ _ _ same

pub returns-else-is_ok : goal.returns-else-is_ok
returns-else-is_ok c =
    let size : length c.args.records ≡ 119 = search rules in
    let refuses = when_err _ _ (sym c.is_ok.ensures.value ∙ c.if-is_ok.false) c.check_grid.ensures in
    let same : refused_by refuses.0 ≡ grid_check c.args.run.now c.args.history.now (length c.args.records) = rw size refuses.1 in
    grid-kept _ _ _ same
