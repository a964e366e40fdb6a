-- How a roll is kept (02, change 6): in a lent list of 2,002 numbers, any at all. The valuation year, how many are on the roll, then 500
-- places each for their member numbers, their ages, their pensions and their liabilities, in the order of joining.
use Rattle.std.specs.Prelude.{ℕ, zero, suc, ◌+◌, ◌-◌, ◌*◌, ◌%◌, ◌^◌, min, cond, List, [], ◌∷◌, ◌++◌, length, take, drop, ℤ, pos, ◌==◌, nat_le, slice_index, slice_set, unsigned_abs}
use Rattle.outcome.specs.Outcome.{Finding, Outcome, value, refusal, unless, first_of, checked, and_then}
use Rattle.roll.specs.Roll.{added, leave_check, liability_joining, Call, joins, leaves, after_call}

-- ---- what a list holds
-- a list that is too short (11), in bytes
unfoldable pub roll_check : List ℕ → Finding
roll_check roll = unless (nat_le 2002 (length roll)) (refusal 11 16_016 0)

abbrev pub year_in : List ℕ → ℕ
year_in roll = slice_index roll 0 % 2 ^ 32

abbrev pub count_in : List ℕ → ℕ
count_in roll = min (slice_index roll 1) 500

-- the first place of an area: 0 is that of the member numbers, 1 of the ages, 2 of the pensions, 3 of the liabilities
abbrev pub area_from : ℕ → ℕ
area_from k = 2 + 500 * k

abbrev pub area_in : ℕ → List ℕ → List ℕ
area_in k roll = take (count_in roll) (drop (area_from k) roll)

abbrev pub numbers_in : List ℕ → List ℕ
numbers_in roll = area_in 0 roll

abbrev pub ages_in : List ℕ → List ℕ
ages_in roll = area_in 1 roll

abbrev pub pensions_in : List ℕ → List ℕ
pensions_in roll = area_in 2 roll

abbrev pub liabilities_in : List ℕ → List ℕ
liabilities_in roll = area_in 3 roll

-- in 64 bits; that nothing is lost there of a roll that was opened and changed by its calls alone is proved
unfoldable pub total_in : List ℕ → ℕ
total_in roll = added (liabilities_in roll) % 2 ^ 64

-- ---- what a call changes
-- opened empty
unfoldable pub opened : ℕ → List ℕ → List ℕ
opened year roll = slice_set (slice_set roll 0 year) 1 0

-- one number in place n of each area from the k-th on
abbrev pub put_in_areas : ℕ → ℕ → List ℕ → List ℕ → List ℕ
put_in_areas k n [] roll = roll
put_in_areas k n (x ∷ xs) roll = put_in_areas (suc k) n xs (slice_set roll (area_from k + n) x)

-- one member more, in the next place
unfoldable pub with_member : ℕ → ℕ → ℕ → ℕ → List ℕ → List ℕ
with_member number age pension liability roll =
    let n = count_in roll in put_in_areas 0 n (number ∷ age ∷ pension ∷ liability ∷ []) (slice_set roll 1 (n + 1))

-- the place of a number in a list, the first of them; the list's length where it is not there
abbrev pub place_of : ℕ → List ℕ → ℕ
place_of x [] = zero
place_of x (y ∷ l) = cond (y == x) zero (suc (place_of x l))

-- without what stands at a place; those behind it move up
abbrev pub without : {A : Type 0} → ℕ → List A → List A
without i [] = []
without zero (y ∷ l) = l
without (suc i) (y ∷ l) = y ∷ without i l

-- the first n numbers without the one at place i, then the list as it stood from place n − 1 on, so that its length stays
abbrev pub closed_up : ℕ → ℕ → List ℕ → List ℕ
closed_up i n l = without i (take n l) ++ drop (n - 1) l

-- place i closed up among the n of each of the first k areas
abbrev pub closed_areas : ℕ → ℕ → ℕ → List ℕ → List ℕ
closed_areas zero i n roll = roll
closed_areas (suc k) i n roll = closed_up (area_from k + i) (area_from k + n) (closed_areas k i n roll)

-- without the member at a place
unfoldable pub without_member : ℕ → List ℕ → List ℕ
without_member i roll = let n = count_in roll in slice_set (closed_areas 4 i n roll) 1 (n - 1)

-- ---- the calls: the list after one, or its refusal
abbrev pub opened_roll : ℕ → List ℕ → Outcome (List ℕ)
opened_roll year roll = checked (roll_check roll) (value (opened year roll))

-- the liability that a join sets
unfoldable pub joining : List ℕ → List ℕ → List ℕ → ℕ → ℕ → ℕ → Outcome ℤ
joining roll run history number age pension =
    checked (roll_check roll) (liability_joining (numbers_in roll) (year_in roll) run history number age pension)

abbrev pub joined_roll : List ℕ → List ℕ → List ℕ → ℕ → ℕ → ℕ → Outcome (List ℕ)
joined_roll roll run history number age pension =
    and_then (joining roll run history number age pension) (λ l. value (with_member number age pension (unsigned_abs l) roll))

unfoldable pub leaving : List ℕ → ℕ → Finding
leaving roll number = first_of (roll_check roll) (leave_check (numbers_in roll) number)

abbrev pub left_roll : List ℕ → ℕ → Outcome (List ℕ)
left_roll roll number = checked (leaving roll number) (value (without_member (place_of number (numbers_in roll)) roll))

-- what a call says: the total after it
abbrev pub total_said : Outcome (List ℕ) → Outcome ℤ
total_said after = and_then after (λ roll. value (pos (total_in roll)))

abbrev pub total_answer : List ℕ → Outcome ℤ
total_answer roll = total_said (checked (roll_check roll) (value roll))

-- ---- a list of calls on a roll, the first call first
abbrev pub roll_by : List ℕ → Call → Outcome (List ℕ)
roll_by roll (joins run history number age pension) = joined_roll roll run history number age pension
roll_by roll (leaves number) = left_roll roll number

unfoldable pub roll_after : List ℕ → List Call → List ℕ
roll_after roll [] = roll
roll_after roll (call ∷ calls) = roll_after (after_call roll (roll_by roll call)) calls
