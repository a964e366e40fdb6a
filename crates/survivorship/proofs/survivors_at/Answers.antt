-- After j turns of the loop the survivors are those of the definition after j years; a refusal stands in every later year.
use mathlib.Core.Path.{◌≡◌, sym}
use native.Mathlib.Numerals.{add-one}
use native.Mathlib.Omega.{arith}
use borrow.Author.Rules.{rules}
use Rattle.history.specs.History.{basis_with}
use Rattle.outcome.specs.Outcome.{refused}
use Rattle.survivorship.specs.Survivorship.{survivors_of}
use Rattle.survivorship.proofs.Survivors.{survivors-first, survivors-answered, survivors-refused, survivors-small, cell-on}
use Rattle.survivorship.proofs.survivors_at.Goals as goal

pub loop-j-init : goal.loop-j-init
loop-j-init c = survivors-first _ _ _ _

pub survivors_after_year-requires : goal.survivors_after_year-requires
survivors_after_year-requires c = (
  cell-on c.args.kind c.loop-j.j (search rules) (omega arith) c.year_on.ensures,
  survivors-small _ _ _ _ _ _ c.loop-j.invariant,
)

pub returns-in_err-s : goal.returns-in_err-s
returns-in_err-s c =
    let a = c.args in
    let h = survivors-answered _ _ _ _ _ _ c.year_on.ensures c.loop-j.invariant c.in_err-s.ensures in
    let e : refused c.in_err-s.field-0.0 ≡ survivors_of (basis_with a.b.run.now a.b.history.now) a.kind a.age a.n a.year =
    sym (survivors-refused _ _ _ _ _ _ _ (omega arith) h) in
    search rules

pub loop-j-preserved : goal.loop-j-preserved
loop-j-preserved c = rw add-one (survivors-answered _ _ _ _ _ _ c.year_on.ensures c.loop-j.invariant c.in_ok-s.ensures)
