-- The definitions of the calls case by case. Assumes nothing.
use Rattle.std.proofs.Common.{◌≡◌, ℕ, ◌+◌, ◌-◌, ◌<◌, ◌≤◌, true, false, not, ltb, leb, List, length, take, drop, ℤ, refl, arith, length-drop, length-set, length-take-le, ltb-true, le-ltb, lt-ltb, le-leb, leb-true}
use borrow.Author.Tests.{not-true}
use Rattle.outcome.specs.declared.Refusal.{Refusal}
use Rattle.std.specs.Prelude.{Bool, cond, ◌==◌, nat_lt, nat_le, pos, Option, Some, None, position, Result}
use Rattle.std.specs.Option.{ok_or, is_none}
use Rattle.outcome.specs.Outcome.{passed, value, refusal, unless, first_of, checked, meaning}
use Rattle.outcome.specs.Refusals.{is_listed}
use Rattle.outcome.proofs.Outcome.{unless-passed, both-passed, checked_value}
use Rattle.roll.specs.Roll.{join_check, leave_check, liability_on, liability_joining}
use Rattle.roll.specs.Kept.{roll_check, year_in, count_in, numbers_in, place_of, joining, leaving}
use Rattle.roll.proofs.Numbers.{listed-place, found-listed}

-- ---- 11
module _ (roll : List ℕ) where
  pub room-passes : 2002 ≤ length roll → roll_check roll ≡ passed
  unfolding roll_check
  room-passes h = rw (le-leb _ _ h) refl

  pub room_passed : roll_check roll ≡ passed → 2002 ≤ length roll
  unfolding roll_check
  room_passed h = leb-true _ _ (unless-passed (leb 2002 (length roll)) _ h)

  -- ---- the numbers, as the code names their part of the list
  pub length-numbers : 2002 ≤ length roll → length (numbers_in roll) ≡ count_in roll
  length-numbers room = length-take-le (count_in roll) (drop 2 roll) (rw length-drop (omega arith))

pub ruleset opened_rules = (room_passed, length-set)

-- ---- 16, 14, 5 and 15
-- what the checks of a join let pass
pub record MayJoin (numbers : List ℕ) (number pension : ℕ) : Type 0 where
  pub unlisted : is_listed numbers number ≡ false
  pub space : length numbers < 500
  pub limited : pension ≤ 10_000_000

module _ (numbers : List ℕ) (number : ℕ) where
  module _ (pension : ℕ) where
    pub may-join : join_check numbers number pension ≡ passed → MayJoin numbers number pension
    unfolding join_check
    may-join h =
        let p = both-passed _ _ h in
        let q = both-passed _ _ p.1 in
        record {
          unlisted = not-true (is_listed numbers number) (unless-passed (not (is_listed numbers number)) _ p.0);
          space = ltb-true _ _ (unless-passed (ltb (length numbers) 500) _ q.0);
          limited = leb-true _ _ (unless-passed (leb pension 10_000_000) _ q.1);
        }

  -- the checks as the code makes them, by the place that a search finds
  pub place_said : (r : Result ℕ Refusal) (o : Option ℕ) → o ≡ position (λ n. n == number) numbers → r ≡ ok_or o (refusal 15 number 0)
      → meaning r ≡ checked (leave_check numbers number) (value (pos (place_of number numbers)))
  unfolding leave_check
  place_said r o e f = rw (f, e, found-listed number numbers) (by (is_listed numbers number))
    where
      by : (t : Bool) → meaning (ok_or (cond t (Some (place_of number numbers)) None) (refusal 15 number 0))
          ≡ checked (unless t (refusal 15 number 0)) (value (pos (place_of number numbers)))
      by true = refl
      by false = refl

  pub leave-passed : leave_check numbers number ≡ passed → place_of number numbers < length numbers
  unfolding leave_check
  leave-passed h = listed-place number numbers (unless-passed (is_listed numbers number) _ h)

-- the number is free where a search finds no place
free : (t : Bool) (i : ℕ) → is_none (cond t (Some i) None) ≡ not t
free true i = refl
free false i = refl

pub join_is : (roll : List ℕ) (number pension : ℕ) → 2002 ≤ length roll → join_check (numbers_in roll) number pension
    ≡ first_of (unless (is_none (position (λ n. n == number) (numbers_in roll))) (refusal 16 number 0))
    (first_of (unless (nat_lt (count_in roll) 500) (refusal 14 number 0)) (unless (nat_le pension 10_000_000) (refusal 5 number 0)))
unfolding join_check
join_is roll number pension room =
    let numbers = numbers_in roll in
    rw (found-listed number numbers, free (is_listed numbers number) (place_of number numbers), length-numbers roll room) refl

pub join_limited : (numbers : List ℕ) (number pension : ℕ) → join_check numbers number pension ≡ passed → pension ≤ 10_000_000
join_limited numbers number pension h = (may-join numbers number pension h).limited

-- ---- what a join comes to: the roll's own refusals first, then the liability
module _ (numbers : List ℕ) (year : ℕ) (run history : List ℕ) (number age pension : ℕ) where
  pub own_value : (l : ℤ) → liability_joining numbers year run history number age pension ≡ value l
      → MayJoin numbers number pension × (liability_on run history age year pension ≡ value l)
  unfolding liability_joining
  own_value l h = let p = checked_value _ _ l h in (may-join numbers number pension p.0, p.1)

-- ---- what an answered call says of the list: it has room, and a place more or the place that is named
pub joining_value : (roll run history : List ℕ) (number age pension : ℕ) (l : ℤ) → joining roll run history number age pension ≡ value l
    → (2002 ≤ length roll) × (count_in roll < 500)
unfolding joining
joining_value roll run history number age pension l h =
    let w = checked_value _ _ l h in
    let room = room_passed roll w.0 in
    let may = (own_value (numbers_in roll) (year_in roll) run history number age pension l w.1).0 in
    (room, omega (arith, length-numbers roll room, may.space))

pub leaving-passed : (roll : List ℕ) (number : ℕ) → leaving roll number ≡ passed → (2002 ≤ length roll) × (place_of number (numbers_in roll) < count_in roll)
unfolding leaving
leaving-passed roll number h =
    let w = both-passed (roll_check roll) (leave_check (numbers_in roll) number) h in
    let room = room_passed roll w.0 in
    (room, omega (arith, length-numbers roll room, leave-passed (numbers_in roll) number w.1))

pub leaving_value : (roll : List ℕ) (number i : ℕ) → checked (leaving roll number) (value (pos (place_of number (numbers_in roll)))) ≡ value (pos i)
    → (2002 ≤ length roll) × (leaving roll number ≡ passed) × (i ≡ place_of number (numbers_in roll)) × (i < count_in roll)
leaving_value roll number i h =
    let w = checked_value _ _ _ h in
    let p = leaving-passed roll number w.0 in
    let e : i ≡ place_of number (numbers_in roll) = cc in
    (p.0, w.0, e, omega arith)
