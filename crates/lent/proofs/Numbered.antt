-- No number but those of the papers' list: by the laws of what refuses by numbers of a list. Assumes nothing.
use mathlib.Core.Path.{refl}
use Prim.Native.Nat.{ℕ}
use lib.Dec.{leb}
use Rattle.outcome.specs.Refusals.{numbers, is_listed, RefusesBy}
use Rattle.outcome.proofs.Refusals.{unless-by}
use Rattle.lent.specs.Lent.{count_check}

pub count-numbered : (needed lent : ℕ) → RefusesBy numbers (count_check needed lent)
unfolding count_check numbers is_listed
count-numbered needed lent = unless-by (leb needed lent) _ refl
