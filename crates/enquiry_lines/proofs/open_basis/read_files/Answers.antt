-- There is room, so that the file's own check decides; its run is accepted then, and the history's check decides. The output is written
-- only where that has passed too.
use mathlib.Core.Path.{◌≡◌, refl, ap, sym, ◌∙◌}
use mathlib.Core.List.{List}
use Prim.Native.Nat.{ℕ}
use lib.ListN.{length, take, replicate}
use Rattle.std.proofs.lemmas.Result.{err_from_is_err_and}
use Rattle.basis.specs.Basis.{basis_of}
use Rattle.outcome.proofs.Outcome.{first-passed, first-refused}
use Rattle.lent.specs.Lent.{placed, written}
use Rattle.lent.proofs.Lent.{put-in-front}
use Rattle.layout.specs.Layout.{mpb2, run_length, form_of_file}
use Rattle.basis_file.specs.File.{file_check, read_check, run_in}
use Rattle.outcome.specs.Outcome.{Finding, passed}
use Rattle.history.specs.History.{history_check}
use Rattle.enquiry_lines.specs.Output.{files_check}
use Rattle.enquiry_lines.proofs.Opened.{run-is-accepted, run-in-front, read-check, room-long}
use Rattle.enquiry_lines.proofs.open_basis.read_files.Goals as goal

abbrev zeros : List ℕ
zeros = replicate (run_length mpb2) 0

-- what the reading says of the file, and what it leaves where that is nothing against it
module _ (file : List ℕ) (c : Finding) (e : c ≡ read_check file zeros) where
  decides : file_check file ≡ c
  decides = read-check file zeros (room-long (run_length mpb2)) c e

  module _ (p : c ≡ passed) (read : List ℕ) (w : read ≡ written c (run_in file) zeros) (n : ℕ) (k : n ≡ run_length (form_of_file (length file))) where
    -- the run stands in front of what is read
    holds : take n read ≡ run_in file
    holds = ap (take n) w ∙ run-in-front file (decides ∙ p) zeros c p n k

    judged : (history : List ℕ) (h : Finding) → h ≡ history_check (basis_of (take n read)) history → h ≡ files_check file history
    judged history h f = f ∙ ap (λ (r : List ℕ). history_check (basis_of r) history) holds ∙ sym (first-passed (file_check file) _ (decides ∙ p))

pub returns-in_err-read_file-clause-result_value : goal.returns-in_err-read_file-clause-result_value
returns-in_err-read_file-clause-result_value c =
    let p = err_from_is_err_and c.from_residual.result c.from_residual.ensures.1 in
    rw (p.1, p.2) (sym (first-refused _ _ _ (decides c.args.file.now _ c.in_err-read_file.ensures.result_value)))

pub check_history-requires : goal.check_history-requires
check_history-requires c =
    let f = c.args.file.now in
    let r = c.in_ok-read_file.ensures in
    rw (holds f passed r.result_value refl _ r.run_after _ c.length_needed.ensures) (run-is-accepted f (decides f _ r.result_value))

pub returns-in_err-check_history-clause-result_value : goal.returns-in_err-check_history-clause-result_value
returns-in_err-check_history-clause-result_value c =
    let r = c.in_ok-read_file.ensures in
    let p = err_from_is_err_and c.from_residual-in_err-check_history.result c.from_residual-in_err-check_history.ensures.1 in
    rw (p.1, p.2)
    (judged c.args.file.now passed r.result_value refl _ r.run_after _ c.length_needed.ensures c.args.history.now _ c.in_err-check_history.ensures)

pub returns-clause-result_value : goal.returns-clause-result_value
returns-clause-result_value c =
    let r = c.in_ok-read_file.ensures in
    judged c.args.file.now passed r.result_value refl _ r.run_after _ c.length_needed.ensures c.args.history.now _ c.in_ok-check_history.ensures

pub returns-clause-run_after : goal.returns-clause-run_after
returns-clause-run_after c =
    let r = c.in_ok-read_file.ensures in
    let run = holds c.args.file.now passed r.result_value refl _ r.run_after _ c.length_needed.ensures in
    c.put.ensures ∙ ap (placed _ 0) run ∙ put-in-front passed (run_in c.args.file.now) c.args.run.now refl
