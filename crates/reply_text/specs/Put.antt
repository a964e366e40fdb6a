-- A text put into a lent buffer at a place: what every function that prints promises to the one that calls it.
use Rattle.std.specs.Prelude.{ℕ, ◌+◌, ◌≤◌, ◌≡◌, List, length}
use Rattle.lent.specs.Lent.{placed}
use Rattle.reply_text.specs.declared.Output.{Output}

-- The text stands at the place and fits there, all else is as it was, and `next` is the place behind the text.
pub record Put (out : List ℕ) (at : ℕ) (text : List ℕ) (after : List ℕ) (r : ℕ) : Type 0 where
  pub next : r ≡ at + length text
  pub fits : at + length text ≤ length out
  pub same : length after ≡ length out
  pub all : after ≡ placed out at text

-- A text put into an output, behind what stands there: what every method that prints promises. The output goes on with the same buffer.
pub record Puts (old : Output) (text : List ℕ) (new : Output) : Type 0 where
  pub put : Put old.out.now old.at text new.out.now new.at
  pub same : new.out.ghost_name ≡ old.out.ghost_name
