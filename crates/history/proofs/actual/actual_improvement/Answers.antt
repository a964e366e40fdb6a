-- What is read in the file is what stands in the joined data.
use mathlib.Core.Path.{◌∙◌}
use mir.Syntax.{w32}
use Rattle.arithmetic.proofs.Machine.{got}
use Rattle.basis.specs.Basis.{basis_of}
use Rattle.history.proofs.Places.{actual-there}
use Rattle.history.proofs.actual.actual_improvement.Goals as goal

pub returns : goal.returns
returns c =
    let a = c.args in
    let p = c.requires in
    let there = actual-there (basis_of a.b.run.now) a.b.history.now a.b.workable.size a.age a.year p.1 p.2 p.3 in
    got w32 c.read_i32.type_inv (c.read_i32.ensures ∙ there c.base_year.ensures c.place_in_blocks.ensures)
