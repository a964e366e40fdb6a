-- What the parts of the table promise one another while they are stored.
use Rattle.std.specs.Prelude.{◌≡◌, List, ℕ, ◌+◌, ◌-◌, ◌<◌, get_or}

-- the numbers of a state from one of them on stand in the table at a place
abbrev pub StandsAt : ℕ → ℕ → List ℕ → List ℕ → Type 0
StandsAt at from state numbers = (i : ℕ) → i < 131 - from → get_or numbers (at + i) 0 ≡ get_or state (from + i) 0

-- the first n numbers are as they were
abbrev pub KeptBefore : ℕ → List ℕ → List ℕ → Type 0
KeptBefore n before numbers = (i : ℕ) → i < n → get_or numbers i 0 ≡ get_or before i 0
