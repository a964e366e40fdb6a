-- A roll that holds just these members goes on doing so, call by call: the calls agree with the list of calls, in what they change and in
-- what they refuse. Assumes nothing.
use Rattle.std.proofs.Common.{◌≡◌, ℕ, zero, suc, ◌-◌, ◌*◌, ◌^◌, ◌<◌, ◌≤◌, List, [], ◌∷◌, ◌++◌, map, length, get_or, set, ℤ, pos, nat_abs, sym, refl, ap, ◌∙◌, mod-eq_of_lt, arith, length-set, get_or-set_other, get_or-set_same}
use mathlib.Core.List.{map-append}
use lib.ListN.{length-map}
use Rattle.outcome.specs.declared.Refusal.{Refusal}
use Rattle.outcome.specs.Outcome.{Finding, passed, refused_by, Outcome, value, refused, checked, and_then}
use Rattle.roll.specs.Roll.{Member, numbers_of, total_of, leave_check, liability_joining, others, Call, joins, leaves, member_of, members_by, after_call, members_after}
use Rattle.roll.specs.Kept.{year_in, count_in, area_in, numbers_in, total_in, opened, with_member, place_of, without, without_member}
use Rattle.roll.specs.Kept.{joining, leaving, total_said, roll_by, roll_after}
use Rattle.outcome.proofs.Outcome.{checked_value}
use Rattle.roll.proofs.Places.{length_without, map-without}
use Rattle.roll.proofs.OneMember.{with-length, with-year, with-area, out-length, out-year, out-area}
use Rattle.roll.proofs.Numbers.{Distinct, distinct-joined, distinct_without, others-without}
use Rattle.roll.proofs.Cases.{room-passes, length-numbers, MayJoin, leave-passed}
use Rattle.roll.proofs.Liability.{largest, join-value}

-- ---- every liability is at most the largest
abbrev pub AllSmall : List Member → Type 0
AllSmall [] = Unit
AllSmall (m ∷ ms) = (m.liability ≤ largest) × AllSmall ms

small-joined : (ms : List Member) (m : Member) → AllSmall ms → m.liability ≤ largest → AllSmall (ms ++ m ∷ [])
small-joined [] m h k = (k, tt)
small-joined (n ∷ ms) m h k = (h.0, small-joined ms m h.1 k)

small-without : (i : ℕ) (ms : List Member) → AllSmall ms → AllSmall (without i ms)
small-without i [] h = tt
small-without zero (n ∷ ms) h = h.1
small-without (suc i) (n ∷ ms) h = (h.0, small-without i ms h.1)

pub total-small : (ms : List Member) → AllSmall ms → total_of ms ≤ length ms * largest
total-small [] h = omega arith
total-small (m ∷ ms) h = omega (arith, h.0, total-small ms h.1)

-- ---- a roll that holds just these members
-- what stands of a member in the k-th area
abbrev pub field_of : ℕ → Member → ℕ
field_of k m = get_or (m.number ∷ m.age ∷ m.pension ∷ m.liability ∷ []) k 0

pub record Holds (year : ℕ) (roll : List ℕ) (members : List Member) : Type 0 where
  pub room : 2002 ≤ length roll
  pub in-year : year_in roll ≡ year
  pub areas : (k : ℕ) → k < 4 → area_in k roll ≡ map (field_of k) members
  pub small : AllSmall members
  pub distinct : Distinct (numbers_of members)

pub holds_opened : (year : ℕ) (lent : List ℕ) → year < 2 ^ 32 → 2002 ≤ length lent → Holds year (opened year lent) []
unfolding opened
holds_opened year lent h k =
    let l : 1 < length (set lent 0 year) = rw length-set (omega arith) in
    let z : count_in (opened year lent) ≡ 0 = rw (get_or-set_same (set lent 0 year) 1 0 0 l) (omega arith) in
    record {
      room = simp length-set k;
      in-year = rw (get_or-set_other (set lent 0 year) 1 0 0 0 (λ e. omega arith), get_or-set_same lent 0 year 0 (omega arith)) (mod-eq_of_lt h);
      areas = λ k _. rw z refl;
      small = tt;
      distinct = tt;
    }

-- ---- the outcomes of a call on both sides: a roll that holds the members, or the same refusal
pub data Agree (year : ℕ) : Outcome (List ℕ) → Outcome (List Member) → Type 0 where
  agreed : {roll : List ℕ} {members : List Member} → Holds year roll members → Agree year (value roll) (value members)
  both-refuse : (r : Refusal) → Agree year (refused r) (refused r)

module _ (year : ℕ) (roll : List ℕ) (members : List Member) (holds : Holds year roll members) where
  pub holds-numbers : numbers_in roll ≡ numbers_of members
  holds-numbers = holds.areas 0 (omega arith)

  pub holds-count : length members ≡ count_in roll
  holds-count =
      sym (length-map members (λ m. m.number))
      ∙ ap length (sym holds-numbers)
      ∙ length-numbers roll holds.room

  numbers-count : length (numbers_of members) ≡ count_in roll
  numbers-count = length-map members (λ m. m.number) ∙ holds-count

  holds-joined : (number age pension : ℕ) (l : ℤ) → MayJoin (numbers_of members) number pension → nat_abs l ≤ largest
      → Holds year (with_member number age pension (nat_abs l) roll) (members ++ member_of number age pension l ∷ [])
  holds-joined number age pension l may small =
      let r = holds.room in
      let more : count_in roll < 500 = rw numbers-count at may.space in
      let m = member_of number age pension l in
      record {
        room = rw (with-length roll r number age pension (nat_abs l) more) r;
        in-year = with-year roll r number age pension (nat_abs l) more ∙ holds.in-year;
        areas = λ k h.
            with-area roll r number age pension (nat_abs l) more k h
            ∙ ap (λ a. a ++ field_of k m ∷ []) (holds.areas k h)
            ∙ sym (map-append (field_of k) members (m ∷ []));
        small = small-joined members m holds.small small;
        distinct = rw (map-append (λ n. n.number) members (m ∷ [])) (distinct-joined (numbers_of members) number holds.distinct may.unlisted);
      }

  holds-left : (i : ℕ) → i < count_in roll → Holds year (without_member i roll) (without i members)
  holds-left i on =
      let r = holds.room in
      let m = count_in roll - 1 in
      let c : count_in roll ≡ suc m = omega arith in
      let o : i < suc m = omega arith in
      record {
        room = rw (out-length roll r i m c o) r;
        in-year = out-year roll r i m c o ∙ holds.in-year;
        areas = λ k h. out-area roll r i m c o k h ∙ ap (without i) (holds.areas k h) ∙ sym (map-without (field_of k) i members);
        small = small-without i members holds.small;
        distinct = rw (map-without (λ n. n.number) i members) (distinct_without i (numbers_of members) holds.distinct);
      }

  join-same : (run history : List ℕ) (number age pension : ℕ)
      → joining roll run history number age pension ≡ liability_joining (numbers_of members) year run history number age pension
  unfolding joining
  join-same run history number age pension = rw (room-passes roll holds.room, holds-numbers, holds.in-year) refl

  leave_same : (number : ℕ) → leaving roll number ≡ leave_check (numbers_of members) number
  unfolding leaving
  leave_same number = rw (room-passes roll holds.room, holds-numbers) refl

  -- one call
  pub agree-by : (call : Call) → Agree year (roll_by roll call) (members_by year members call)
  unfolding members_by
  agree-by (joins run history number age pension) =
      rw (join-same run history number age pension) (by (liability_joining (numbers_of members) year run history number age pension) refl)
    where
      by : (o : Outcome ℤ) → liability_joining (numbers_of members) year run history number age pension ≡ o
          → Agree year (and_then o (λ l. value (with_member number age pension (nat_abs l) roll)))
          (and_then o (λ l. value (members ++ member_of number age pension l ∷ [])))
      by (value l) e =
          let v = join-value (numbers_of members) year run history number age pension l e in
          agreed (holds-joined number age pension l v.0 v.2)
      by (refused r) e = both-refuse r
  agree-by (leaves number) = rw (leave_same number) (by (leave_check (numbers_of members) number) refl)
    where
      by : (check : Finding) → leave_check (numbers_of members) number ≡ check
          → Agree year (checked check (value (without_member (place_of number (numbers_in roll)) roll))) (checked check (value (others number members)))
      by passed e =
          let p = leave-passed (numbers_of members) number e in
          rw (holds-numbers, others-without number members holds.distinct)
          (agreed (holds-left (place_of number (numbers_of members)) (rw numbers-count at p)))
      by (refused_by r) e = both-refuse r

  -- a leave that is answered makes room
  pub holds-freed : (number : ℕ) (after : List Member) → members_by year members (leaves number) ≡ value after → length after < 500
  unfolding members_by
  holds-freed number after h =
      let w = checked_value (leave_check (numbers_of members) number) (value (others number members)) after h in
      let p = rw numbers-count at (leave-passed (numbers_of members) number w.0) in
      let c = holds-count in
      let gone = length_without (place_of number (numbers_of members)) members (omega (arith, p, c)) in
      let e : others number members ≡ after = cc in
      rw (← e, others-without number members holds.distinct) (omega (arith, gone, c))

  -- the total
  pub holds-total : total_in roll ≡ total_of members
  unfolding total_in
  holds-total =
      let c = holds-count in
      rw (holds.areas 3 (omega arith)) (mod-eq_of_lt (omega (arith, total-small members holds.small)))

-- ---- the roll and the members after a call
pub agree_after : (year : ℕ) (roll : List ℕ) (members : List Member) → Holds year roll members → {o : Outcome (List ℕ)} {p : Outcome (List Member)}
    → Agree year o p → Holds year (after_call roll o) (after_call members p)
agree_after year roll members holds (agreed h) = h
agree_after year roll members holds (both-refuse r) = holds

pub agree-says : (year : ℕ) {o : Outcome (List ℕ)} {p : Outcome (List Member)} → Agree year o p
    → total_said o ≡ and_then p (λ after. value (pos (total_of after)))
agree-says year (agreed {roll = roll} {members = members} h) = ap (λ n. value (pos n)) (holds-total year roll members h)
agree-says year (both-refuse r) = refl

-- all calls
pub holds_after : (year : ℕ) (roll : List ℕ) (members : List Member) (calls : List Call) → Holds year roll members
    → Holds year (roll_after roll calls) (members_after year members calls)
unfolding roll_after members_after
holds_after year roll members [] h = h
holds_after year roll members (call ∷ calls) h =
    holds_after year (after_call roll (roll_by roll call)) (after_call members (members_by year members call)) calls
    (agree_after year roll members h (agree-by year roll members h call))
