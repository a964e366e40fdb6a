-- What lies behind a roll is left alone: a call that is answered changes places below 2002 only, a refused one none. Assumes nothing.
use Rattle.std.proofs.Common.{◌≡◌, ℕ, ◌-◌, List, [], ◌∷◌, drop, set, ℤ, nat_abs, refl, ◌∙◌, arith, drop-set-lt}
use Rattle.outcome.specs.Outcome.{Finding, passed, refused_by, Outcome, value, refused, checked, and_then}
use Rattle.roll.specs.Roll.{Call, joins, leaves, after_call}
use Rattle.roll.specs.Kept.{roll_check, count_in, numbers_in, opened, opened_roll, with_member, place_of, without_member, joining, leaving, roll_by, roll_after}
use Rattle.roll.specs.Totals.{FurtherKept}
use Rattle.roll.proofs.OneMember.{with-further, out-further}
use Rattle.roll.proofs.Cases.{joining_value, leaving-passed}

further-opened : (year : ℕ) (lent : List ℕ) → drop 2002 (after_call lent (opened_roll year lent)) ≡ drop 2002 lent
unfolding opened
further-opened year lent = by (roll_check lent)
  where
    by : (check : Finding) → drop 2002 (after_call lent (checked check (value (opened year lent)))) ≡ drop 2002 lent
    by passed = drop-set-lt 2002 (set lent 0 year) 1 _ (omega arith) ∙ drop-set-lt 2002 lent 0 year (omega arith)
    by (refused_by r) = refl

further-by : (roll : List ℕ) (call : Call) → drop 2002 (after_call roll (roll_by roll call)) ≡ drop 2002 roll
further-by roll (joins run history number age pension) = by (joining roll run history number age pension) refl
  where
    by : (o : Outcome ℤ) → joining roll run history number age pension ≡ o
        → drop 2002 (after_call roll (and_then o (λ l. value (with_member number age pension (nat_abs l) roll)))) ≡ drop 2002 roll
    by (value l) e = let p = joining_value roll run history number age pension l e in with-further roll p.0 number age pension (nat_abs l) p.1
    by (refused r) e = refl
further-by roll (leaves number) = by (leaving roll number) refl
  where
    by : (check : Finding) → leaving roll number ≡ check
        → drop 2002 (after_call roll (checked check (value (without_member (place_of number (numbers_in roll)) roll)))) ≡ drop 2002 roll
    by passed e =
        let p = leaving-passed roll number e in
        let on = p.1 in
        out-further roll p.0 (place_of number (numbers_in roll)) (count_in roll - 1) (omega arith) (omega arith)
    by (refused_by r) e = refl

further-after : (roll : List ℕ) (calls : List Call) → drop 2002 (roll_after roll calls) ≡ drop 2002 roll
unfolding roll_after
further-after roll [] = refl
further-after roll (call ∷ calls) = further-after (after_call roll (roll_by roll call)) calls ∙ further-by roll call

pub further-kept : FurtherKept
further-kept = record { by_opening = further-opened; by_calls = further-after }
