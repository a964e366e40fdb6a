-- The basis file (01, "The basis file"): blocks of 512 bytes, whose data parts joined are the data run. The length of either tells its form.
use Rattle.std.specs.Prelude.{ℕ, List, length, eqb}
use Rattle.outcome.specs.Outcome.{Finding, refusal, unless, first_of}
use Rattle.layout.specs.Layout.{blocks_in, form_of_run, form_of_file, run_length, file_length}
use Rattle.run_check.specs.Run.{run_check}
use Rattle.lent.specs.Lent.{room_check}
use Rattle.block.specs.Blocks.{parts_of, blocks_of, blocks_check}

-- the data run in a file
unfoldable pub run_in : List ℕ → List ℕ
run_in file = parts_of (blocks_in (form_of_file (length file))) file

-- the file of a data run
unfoldable pub file_of : List ℕ → List ℕ
file_of run = blocks_of 0 (blocks_in (form_of_run (length run))) run

-- ---- the check
-- the blocks of a file, ascending from 0 (2, 3)
abbrev pub file_blocks_check : List ℕ → Finding
file_blocks_check file = blocks_check 0 (blocks_in (form_of_file (length file))) file

-- not the length of its form (1), then the blocks
unfoldable pub outer_check : List ℕ → Finding
outer_check file = first_of (unless (eqb (length file) (file_length (form_of_file (length file)))) (refusal 1 0 0)) (file_blocks_check file)

-- then the data run (4, 5)
unfoldable pub file_check : List ℕ → Finding
file_check file = first_of (outer_check file) (run_check (run_in file))

-- ---- reading and writing: the lent output's room (11), then the input's own check
abbrev pub read_check : List ℕ → List ℕ → Finding
read_check file run = first_of (room_check (run_length (form_of_file (length file))) run) (file_check file)

abbrev pub write_check : List ℕ → List ℕ → Finding
write_check run file = first_of (room_check (file_length (form_of_run (length run))) file) (run_check run)
