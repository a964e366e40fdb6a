-- What stands behind the opening: the accepted run and its history. Assumes nothing.
use Prim.Native.Nat.{ℕ, ◌≤◌}
use mathlib.Core.Path.{◌≡◌, refl, ap, sym, ◌∙◌}
use mathlib.Core.List.{List}
use native.Mathlib.Omega.{arith}
use lib.ListN.{length, take, drop, replicate, length-replicate}
use lib.Seq.{take_at}
use Rattle.basis.specs.Basis.{basis_of, Accepted}
use Rattle.outcome.specs.Outcome.{Finding, passed, finding}
use Rattle.outcome.proofs.Outcome.{both-passed}
use Rattle.lent.specs.Lent.{written}
use Rattle.lent.proofs.Lent.{roomy, filled}
use Rattle.layout.specs.Layout.{mpb2, run_length, form_of_file}
use Rattle.layout.proofs.EachForm.{run-high}
use Rattle.run_check.proofs.Acceptance.{accepted}
use Rattle.basis_file.specs.File.{run_in, file_check, read_check}
use Rattle.basis_file.proofs.RoundTrip.{run-accepted, run-size}
use Rattle.history.specs.History.{history_check, run_and_history_check, Workable}
use Rattle.history.proofs.Acceptance.{accepted-workable}
use Rattle.enquiry_lines.specs.declared.Opening.{Opening}
use Rattle.enquiry_lines.specs.Output.{files_check, Opened}

-- zeros for a length are as long as that
pub room-long : (n : ℕ) → n ≤ length (replicate {0} {A = ℕ} n 0)
room-long n = omega (arith, length-replicate {0} {A = ℕ} n 0)

-- no run is longer than MPB2's
pub needed-short : (file : List ℕ) (n : ℕ) → n ≡ run_length (form_of_file (length file)) → n ≤ run_length mpb2
needed-short file n e = omega (arith, e, run-high (form_of_file (length file)))

-- the run in an accepted file stands in front of room for either form, as long as the file's form says
module _ (file : List ℕ) (h : file_check file ≡ passed) where
  pub run-is-accepted : Accepted (run_in file)
  run-is-accepted = accepted (run_in file) (run-accepted file h)

  pub run-in-front : (room : List ℕ) (c : Finding) → c ≡ passed → (n : ℕ) → n ≡ run_length (form_of_file (length file)) →
      take n (written c (run_in file) room) ≡ run_in file
  run-in-front room c e n k =
      let size = run-size file h ∙ sym k in
      ap (take n) (filled c (run_in file) room n e size) ∙ take_at (run_in file) (drop n room) n size

-- where there is room, the file's own check decides
pub read-check : (file room : List ℕ) → run_length mpb2 ≤ length room → (c : Finding) → c ≡ read_check file room → file_check file ≡ c
read-check file room l c e =
    sym (roomy (run_length (form_of_file (length file))) room (file_check file) (omega (arith, needed-short file _ refl))) ∙ sym e

module _ {file history room out run after : List ℕ} {r : Opening} (o : Opened file history room out run after r) where
  pub opened-short : (n : ℕ) → n ≡ run_length (form_of_file (length file)) → n ≤ run_length mpb2
  opened-short n k = needed-short file n k

-- the run with its history, where the files have passed
module _ {file history room out run after : List ℕ} {r : Opening} (o : Opened file history room out run after r) (h : finding r.check ≡ passed) where
  pub files-passed : files_check file history ≡ passed
  files-passed = sym o.checked ∙ h

  both : (file_check file ≡ passed) × (history_check (basis_of (run_in file)) history ≡ passed)
  both = both-passed (file_check file) (history_check (basis_of (run_in file)) history) files-passed

  module _ (n : ℕ) (k : n ≡ run_length (form_of_file (length file))) where
    pub opened-run : take n run ≡ run_in file
    opened-run = ap (take n) o.read ∙ run-in-front file both.0 room (finding r.check) h n k

    pub opened-workable : Workable (take n run) history
    unfolding run_and_history_check
    opened-workable = rw opened-run (accepted-workable (run_in file) history (rw (run-accepted file both.0) both.1))
