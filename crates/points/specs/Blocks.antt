-- The blocks of 1024 bytes in which the input is read, and what is read and written of them where the reader and the writer say it.
use Rattle.std.specs.Prelude.{◌≡◌, ℕ, ◌+◌, ◌*◌, ◌≤◌, ◌<◌, Option, List, length}
use Rattle.std.specs.Bool.{OnTrue, OnFalse}
use Rattle.std.specs.Io.KnownBytes.{Appends, Consumes, IsAtEnd}
use Rattle.basis.specs.Basis.{Basis}
use Rattle.enquiry_lines.specs.Lines.{ended, unfinished, replies}
use Rattle.enquiry_lines.specs.State.{pending_of, empty_after, kept, Ready}
use Rattle.enquiry_lines.specs.declared.Pending.{Pending}
use Rattle.points.specs.declared.Turn.{Turn}

-- the next block can be answered, and so many more are among the 10¹⁵ that are read at the most
pub record ReadyForBlocks (run history numbers : List ℕ) (s : Pending) (blocks : ℕ) (part out : List ℕ) : Type 0 where
  pub ready : Ready run history numbers s 1024 out 0
  pub short : length part ≤ 1024
  pub among : s.complete + 1024 * blocks ≤ 1024 * 1000000000000000

-- a text was read behind the unfinished line that is held, and the replies to the lines that end in it were written
pub record TextAnswered (basis : Basis) (s : Pending) (given left held holds : Option (List ℕ)) (next : Pending) (text : List ℕ) : Type 0 where
  pub read : Consumes given left text
  pub written : Appends held holds (replies basis (s.complete + 1) (ended (kept s) text))
  pub begun : next ≡ pending_of (unfinished (kept s) text) (s.complete + length (ended (kept s) text))

-- a block is the last one where no byte is left; any other has one
pub record BlockAnswered (basis : Basis) (s : Pending) (part : List ℕ) (given left held holds : Option (List ℕ)) (turn : Turn) : Type 0 where
  pub text : List ℕ
  pub answered : TextAnswered basis s given left held holds turn.pending text
  pub more : OnFalse turn.is_last (0 < length text)
  pub last : OnTrue turn.is_last (0 < length part → IsAtEnd left)

-- all blocks, of which there are fewer than 10¹⁵ where the input is shorter than that
pub record BlocksAnswered (basis : Basis) (part : List ℕ) (given left held holds : Option (List ℕ)) (next : Pending) : Type 0 where
  pub text : List ℕ
  pub answered : TextAnswered basis (empty_after 0) given left held holds next text
  pub all : 0 < length part → length text < 1000000000000000 → IsAtEnd left
