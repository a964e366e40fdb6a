-- Lent outputs (01, "Who can cause a refusal"): refused where too short, changed by no refusal, and with their further elements kept.
use Rattle.std.specs.Prelude.{ℕ, ◌+◌, List, ◌++◌, length, take, drop, leb}
use Rattle.outcome.specs.Outcome.{Finding, passed, refused_by, refusal, unless}

-- too short (11): fewer elements are lent than are needed
unfoldable pub count_check : ℕ → ℕ → Finding
count_check needed lent = unless (leb needed lent) (refusal 11 needed 0)

abbrev pub room_check : {A : Type 0} → ℕ → List A → Finding
room_check needed out = count_check needed (length out)

-- what stands in an output after the check: the new elements in front of its further ones, or what stood there
abbrev pub written : {A : Type 0} → Finding → List A → List A → List A
written passed new out = new ++ drop (length new) out
written (refused_by r) new out = out

-- an output with other elements in one place of it
abbrev pub placed : {A : Type 0} → List A → ℕ → List A → List A
placed out at part = take at out ++ part ++ drop (at + length part) out
