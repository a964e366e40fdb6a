-- The loops over the P of a table, one P more: what is left gives the same in the end. Assumes nothing.
use mathlib.Core.Path.{◌≡◌, sym, ◌∙◌}
use mathlib.Core.List.{List}
use Prim.Native.Nat.{ℕ, suc, ◌+◌, ◌*◌, ◌-◌, ◌<◌, ◌≤◌}
use native.Mathlib.Omega.{arith}
use lib.ListN.{length}
use Rattle.outcome.specs.Outcome.{first_of}
use Rattle.layout.specs.Layout.{mpb1, width_of, proportion_of, proportion_at, proportion_bytes, form_of_run}
use Rattle.basis.proofs.Lengths.{entry-inside}
use Rattle.lent.specs.Lent.{placed}
use Rattle.lent.proofs.Lent.{placed-none, then}
use Rattle.old_form.specs.OldForm.{proportions_in, whole_at, whole_from}

module _ (run : List ℕ) (offset n place : ℕ) where
  abbrev here : ℕ
  here = proportion_at (form_of_run (length run)) run offset place

  abbrev width : ℕ
  width = width_of (proportion_of (form_of_run (length run)))

  left : place < n → n - place ≡ suc (n - (place + 1))
  left h = omega arith

  -- each ends inside the run if the last does
  pub entry_within : place < n → offset + width * n ≤ length run → offset + width * place + width ≤ length run
  entry_within h l = omega (arith, entry-inside width place n h)

  -- ---- looked at
  pub whole_turn : place < n
      → whole_from run offset place (n - place) ≡ first_of (whole_at run offset place) (whole_from run offset (place + 1) (n - (place + 1)))
  unfolding whole_from
  whole_turn h = rw (left h)

  -- ---- put into an output
  pub put_turn : (out new : List ℕ) (at p : ℕ) → place < n → at + n ≤ length out → p ≡ here → new ≡ placed out (at + place) (proportion_bytes mpb1 p)
      → placed new (at + (place + 1)) (proportions_in mpb1 run offset (place + 1) (n - (place + 1)))
      ≡ placed out (at + place) (proportions_in mpb1 run offset place (n - place))
  unfolding proportions_in
  put_turn out new at p h room same e =
      rw (left h) (then out (at + place) (proportion_bytes mpb1 here) (omega arith) new (rw same at e) (at + (place + 1)) _ (omega arith))

  pub put_end : (out new : List ℕ) (at : ℕ) → n ≤ place
      → placed new (at + place) (proportions_in mpb1 run offset place (n - place)) ≡ placed out at (proportions_in mpb1 run offset 0 n)
      → new ≡ placed out at (proportions_in mpb1 run offset 0 n)
  unfolding proportions_in
  put_end out new at h e =
      let none : n - place ≡ 0 = omega arith in
      sym (placed-none new (at + place)) ∙ rw none at e

pub ruleset looking = (whole_turn, entry_within)

pub ruleset putting = (put_turn, put_end, entry_within)
