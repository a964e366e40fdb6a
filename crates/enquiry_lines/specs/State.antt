-- What the code holds of an unfinished line, from one part of the input to the next, what a call that answers lines asks, and what it leaves.
use Rattle.std.specs.Prelude.{ℕ, ◌+◌, ◌*◌, ◌-◌, ◌^◌, ◌≤◌, ◌<◌, ◌≡◌, List, ◌++◌, length, take, drop, replicate}
use Rattle.basis.specs.Basis.{Basis}
use Rattle.factor_table.specs.FactorTable.{Tabled}
use Rattle.reply_text.specs.Put.{Put}
use Rattle.enquiry_lines.specs.declared.Fed.{Fed}
use Rattle.enquiry_lines.specs.declared.Pending.{Pending}
use Rattle.enquiry_lines.specs.Lines.{ended, unfinished, replies}

-- its first 16 bytes with zeros behind them, how many these bytes are, and how many lines were complete before it
unfoldable pub pending_of : List ℕ → ℕ → Pending
pending_of line n =
    record { bytes = take 16 line ++ replicate (16 - length (take 16 line)) 0; len = length (take 16 line); complete = n }

-- after n lines, nothing of the next one
abbrev pub empty_after : ℕ → Pending
empty_after n = record { bytes = replicate 16 0; len = 0; complete = n }

-- what is kept of the line
abbrev pub kept : Pending → List ℕ
kept s = take s.len s.bytes

-- what every state that the code makes has
pub record Sound (s : Pending) : Type 0 where
  pub short : s.len ≤ 16
  pub room : length s.bytes ≡ 16
  pub rest : drop s.len s.bytes ≡ replicate (16 - s.len) 0

-- the bytes of room for a reply
abbrev pub reply_room : ℕ
reply_room = 192

-- so many lines can be answered: by what was worked out of an accepted basis, with room for each reply, and by a number of 64 bits for each line
pub record Ready (run history numbers : List ℕ) (s : Pending) (lines : ℕ) (out : List ℕ) (from : ℕ) : Type 0 where
  pub tabled : Tabled run history numbers
  pub room : from + reply_room * lines ≤ length out
  pub sound : Sound s
  pub countable : s.complete + lines < 2 ^ 64

-- a part of a text is taken: the state behind it, and the replies to the lines that end in it, at most one for each byte
pub record Answered (basis : Basis) (s : Pending) (part out : List ℕ) (from : ℕ) (after : List ℕ) (r : Fed) : Type 0 where
  pub left : r.pending ≡ pending_of (unfinished (kept s) part) (s.complete + length (ended (kept s) part))
  pub put : Put out from (replies basis (s.complete + 1) (ended (kept s) part)) after r.at
  pub most : r.at ≤ from + reply_room * length part
