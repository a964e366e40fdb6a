-- The whole output of the points program, from the bytes of basis.bin, of history.bin and of standard input; a missing file has none.
use Rattle.std.specs.Prelude.{ℕ, ◌≤◌, ◌≡◌, List, [], ◌++◌}
use Rattle.basis.specs.Basis.{basis_of}
use Rattle.outcome.specs.Outcome.{Finding, passed, refused_by, first_of, finding}
use Rattle.basis_file.specs.File.{file_check, run_in}
use Rattle.history.specs.History.{basis_with, history_check}
use Rattle.lent.specs.Lent.{written}
use Rattle.reply_text.specs.Put.{Put}
use Rattle.reply_text.specs.Reply.{header_line, refusal_line}
use Rattle.enquiry_lines.specs.declared.Opening.{Opening}
use Rattle.enquiry_lines.specs.Lines.{lines_of, replies}
use Rattle.enquiry_lines.specs.State.{reply_room}

-- the basis file, then the history; a refused history counts as a refused basis (02, change 2)
abbrev pub files_check : List ℕ → List ℕ → Finding
files_check file history = first_of (file_check file) (history_check (basis_of (run_in file)) history)

-- the header comes first; a refused basis prints its refusal line alone
abbrev pub printed : Finding → List ℕ → List ℕ
printed passed lines = header_line ++ lines
printed (refused_by r) lines = refusal_line r

unfoldable pub output_of : List ℕ → List ℕ → List ℕ → List ℕ
output_of file history input = printed (files_check file history) (replies (basis_with (run_in file) history) 1 (lines_of input))

-- the files are read: their check, the file's run where that has passed, and the opening line
pub record Opened (file history room out run after : List ℕ) (r : Opening) : Type 0 where
  pub checked : finding r.check ≡ files_check file history
  pub read : run ≡ written (finding r.check) (run_in file) room
  pub put : Put out 0 (printed (files_check file history) []) after r.at
  pub short : r.at ≤ reply_room
