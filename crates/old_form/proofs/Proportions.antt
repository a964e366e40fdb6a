-- The P of a table, as a form writes them: how many bytes, and which stand at each place. Assumes nothing.
use mathlib.Core.Path.{◌≡◌, refl}
use mathlib.Core.List.{List}
use Prim.Native.Nat.{ℕ, zero, suc, ◌+◌, ◌*◌, ◌<◌, ◌≤◌}
use native.Mathlib.Nat.{mul-zero, mul-suc, add-zero, not-suc-le-zero}
use native.Mathlib.Omega.{arith}
use lib.ListN.{length, length-append}
use Rattle.layout.specs.Layout.{Form, width_of, proportion_of, proportion_at, proportion_bytes, form_of_run}
use Rattle.basis.proofs.Lengths.{entry-inside}
use Rattle.old_form.specs.OldForm.{proportions_in, ProportionsWithin}
use Rattle.old_form.proofs.Parts.{Part, ahead, behind, within}
use Rattle.old_form.proofs.Numbers.{Counted, bytes-length, read_back}

module _ (form : Form) (run : List ℕ) (offset : ℕ) where
  abbrev width : ℕ
  width = width_of (proportion_of form)

  -- the P at a place of the table, in the run's own form
  abbrev here : ℕ → ℕ
  here place = proportion_at (form_of_run (length run)) run offset place

  pub proportions-length : (place n : ℕ) → length (proportions_in form run offset place n) ≡ width * n
  unfolding proportions_in
  proportions-length place zero = rw mul-zero refl
  proportions-length place (suc n) =
      rw (length-append, bytes-length form (here place), proportions-length (place + 1) n, mul-suc) (omega arith)

  there : (place n i : ℕ) → i < n → Part (proportions_in form run offset place n) (width * i) (proportion_bytes form (here (place + i)))
  unfolding proportions_in
  there place zero i l = absurd (not-suc-le-zero l)
  there place (suc n) zero l =
      rw (mul-zero, add-zero)
      (ahead (proportion_bytes form (here place)) (proportions_in form run offset (place + 1) n) (omega arith)
      (record { there = λ i l. let e : 0 + i ≡ i = omega arith in rw e refl }))
  there place (suc n) (suc i) l =
      let next : place + suc i ≡ place + 1 + i = omega arith in
      rw next
      (behind (proportion_bytes form (here place)) (proportions_in form run offset (place + 1) n) (width * i) (width * suc i)
      (omega (arith, bytes-length form (here place), mul-suc width i)) (there (place + 1) n i (omega arith)))

  -- a list that has the table reads each P of it, if the form's counting loses nothing of it
  pub table-back : (s : List ℕ) (at n : ℕ) → Part s at (proportions_in form run offset 0 n) → ProportionsWithin run offset n
      → ((i : ℕ) → i < n → Counted form (here i)) → (i : ℕ) → i < n → proportion_at form s at i ≡ here i
  table-back s at n p limits counted i l =
      let first : 0 + i ≡ i = omega arith in
      let q = rw first at (there 0 n i l) in
      let k : width * i + length (proportion_bytes form (here i)) ≤ length (proportions_in form run offset 0 n) =
      omega (arith, bytes-length form (here i), proportions-length 0 n, entry-inside width i n l) in
      read_back form s at i (here i) (limits i l) (counted i l)
      (within s at (width * i) (proportions_in form run offset 0 n) (proportion_bytes form (here i)) k p q)
