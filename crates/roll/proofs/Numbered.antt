-- No number but those of the papers' list: by the laws of what refuses by numbers of a list. Assumes nothing.
use Rattle.std.proofs.Common.{ℕ, not, ltb, leb, List, length, refl}
use Rattle.outcome.specs.Refusals.{numbers, is_listed, RefusesBy}
use Rattle.outcome.proofs.Refusals.{unless-by, first_by}
use Rattle.roll.specs.Roll.{join_check, leave_check}
use Rattle.roll.specs.Kept.{roll_check}

pub room-numbered : (roll : List ℕ) → RefusesBy numbers (roll_check roll)
unfolding roll_check numbers is_listed
room-numbered roll = unless-by (leb 2002 (length roll)) _ refl

pub join-numbered : (on : List ℕ) (number pension : ℕ) → RefusesBy numbers (join_check on number pension)
unfolding join_check numbers is_listed
join-numbered on number pension =
    first_by (unless-by (not (is_listed on number)) _ refl) (first_by (unless-by (ltb (length on) 500) _ refl) (unless-by (leb pension 10_000_000) _ refl))

pub leave-numbered : (on : List ℕ) (number : ℕ) → RefusesBy numbers (leave_check on number)
unfolding leave_check numbers is_listed
leave-numbered on number = unless-by (is_listed on number) _ refl
