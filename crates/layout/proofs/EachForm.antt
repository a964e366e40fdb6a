-- What holds of each form: that the fields end inside the run, and that a form's own length tells it. Assumes nothing.
use mathlib.Core.Path.{◌≡◌, refl, ap, ◌∙◌}
use Prim.Native.Nat.{ℕ, ◌≤◌}
use native.Mathlib.Omega.{arith}
use Rattle.layout.specs.Layout.{Form, mpb1, mpb2, run_length, file_length, fields_end, form_of_run, form_of_file}

pub fields-inside : (form : Form) → fields_end form ≤ run_length form
fields-inside mpb1 = omega arith
fields-inside mpb2 = omega arith

-- no run is longer than one of MPB2, and no accepted one shorter than one of MPB1
pub run-low : (form : Form) → 4554 ≤ run_length form
run-low mpb1 = omega arith
run-low mpb2 = omega arith

pub run-high : (form : Form) → run_length form ≤ 5060
run-high mpb1 = omega arith
run-high mpb2 = omega arith

-- ---- the form that a length tells
pub own-run : (form : Form) → form_of_run (run_length form) ≡ form
unfolding form_of_run
own-run mpb1 = refl
own-run mpb2 = refl

pub own-file : (form : Form) → form_of_file (file_length form) ≡ form
unfolding form_of_file
own-file mpb1 = refl
own-file mpb2 = refl

pub of-run : (form : Form) (n : ℕ) → n ≡ run_length form → form_of_run n ≡ form
of-run form n h = ap form_of_run h ∙ own-run form

pub of-file : (form : Form) (n : ℕ) → n ≡ file_length form → form_of_file n ≡ form
of-file form n h = ap form_of_file h ∙ own-file form
