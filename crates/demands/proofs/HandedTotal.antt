-- A join or a leave that is answered hands out the total after it: no refusal has number 0, so the running total is what it says. Assumes nothing.
use mathlib.Core.Path.{◌≡◌, refl}
use mathlib.Core.List.{List, [], ◌∷◌, ◌++◌}
use Prim.Native.Nat.{ℕ, ◌^◌, ◌≤◌, ◌<◌}
use native.Mathlib.Omega.{arith}
use lib.IntN.{ℤ, pos}
use lib.ListN.{length}
use Rattle.outcome.specs.Outcome.{Outcome, value, refused, and_then}
use Rattle.outcome.specs.Refusals.{numbers, RefusedBy}
use Rattle.roll.specs.Roll.{Member, Call, joins, leaves, members_by, after_call, members_after, total_of}
use Rattle.roll.specs.Kept.{opened_roll, total_said, roll_by, roll_after}
use Rattle.roll.proofs.RunningTotal.{running-total}
use Rattle.engine.specs.Enquiry.{answer_of}
use Rattle.refusals.proofs.Calls.{numbered-refusals, zero-is-none}

call-numbered : (roll : List ℕ) (call : Call) → RefusedBy numbers (total_said (roll_by roll call))
call-numbered roll (joins run history number age pension) = (numbered-refusals run history).roll_join roll number age pension
call-numbered roll (leaves number) = (numbered-refusals [] []).roll_leave roll number

-- the members after one call more
members-last : (year : ℕ) (members : List Member) (calls : List Call) (call : Call)
    → members_after year members (calls ++ call ∷ []) ≡ after_call (members_after year members calls) (members_by year (members_after year members calls) call)
unfolding members_after
members-last year members [] call = refl
members-last year members (c ∷ calls) call = members-last year (after_call members (members_by year members c)) calls call

-- what is said and handed out with number 0 is the total of those who are then on the roll
said-total : (said : Outcome ℤ) (members : List Member) (by : Outcome (List Member)) → RefusedBy numbers said
    → said ≡ and_then by (λ after. value (pos (total_of after))) → (answer_of said).refusal.number ≡ 0
    → (answer_of said).value ≡ total_of (after_call members by)
said-total said members (value after) n e h = rw e refl
said-total said members (refused r) n e h =
    let v = zero-is-none.answer said n h in
    let z : ◌≡◌ {A = ℕ} 0 1 = cc in absurd (omega arith)

pub handed-total : (year : ℕ) (lent : List ℕ) (calls : List Call) (call : Call) → year < 2 ^ 32 → 2002 ≤ length lent
    → (answer_of (total_said (roll_by (roll_after (after_call lent (opened_roll year lent)) calls) call))).refusal.number ≡ 0
    → (answer_of (total_said (roll_by (roll_after (after_call lent (opened_roll year lent)) calls) call))).value ≡ total_of (members_after year [] (calls ++ call ∷ []))
handed-total year lent calls call small room h =
    let roll = roll_after (after_call lent (opened_roll year lent)) calls in
    let members = members_after year [] calls in
    rw (members-last year [] calls call)
    (said-total (total_said (roll_by roll call)) members (members_by year members call) (call-numbered roll call)
    ((running-total.stands year lent calls small room).says call) h)
