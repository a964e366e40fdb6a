-- Each reason has a number of the list, each number of the list a reason, and no two reasons one. Assumes nothing.
use mathlib.Core.Path.{◌≡◌, refl, ap, sym, ◌∙◌}
use mathlib.Core.Bool.{Bool, true, false, cond, false≢true}
use mathlib.Core.List.{List, [], ◌∷◌}
use Prim.Native.Nat.{ℕ}
use lib.Dec.{eqb}
use borrow.Author.Tests.{eqb-true}
use Rattle.outcome.specs.declared.Reason.{Reason}
use Rattle.outcome.specs.declared.Reason.TheVariants as reason
use Rattle.outcome.specs.Reasons.{number_of}
use Rattle.outcome.specs.Refusals.{numbers, is_listed, Listed}
use Rattle.refusals.specs.Reasons.{ReasonsAreNumbers}

listed : (r : Reason) → Listed numbers (number_of r)
unfolding numbers is_listed
listed reason.Length = refl
listed reason.BlockCheck = refl
listed reason.BlockNumber = refl
listed reason.FixedByte = refl
listed reason.Limits = refl
listed reason.Age = refl
listed reason.Year = refl
listed reason.Deferment = refl
listed reason.Improvement = refl
listed reason.Factor = refl
listed reason.Room = refl
listed reason.Line = refl
listed reason.HistoryLength = refl
listed reason.RollFull = refl
listed reason.NotOnRoll = refl
listed reason.OnRoll = refl
listed reason.PartPerCent = refl

-- ---- the other way round
-- a reason for each number of a list
Reasoned : List ℕ → Type 0
Reasoned [] = Unit {0}
Reasoned (n ∷ ns) = ((r : Reason) × (number_of r ≡ n)) × Reasoned ns

reasoned : Reasoned numbers
unfolding Reasoned numbers
reasoned = (
  (reason.Length, refl),
  (
    (reason.BlockCheck, refl),
    (
      (reason.BlockNumber, refl),
      (
        (reason.FixedByte, refl),
        (
          (reason.Limits, refl),
          (
            (reason.Age, refl),
            (
              (reason.Year, refl),
              (
                (reason.Deferment, refl),
                (
                  (reason.Improvement, refl),
                  (
                    (reason.Factor, refl),
                    (
                      (reason.Room, refl),
                      (
                        (reason.Line, refl),
                        (
                          (reason.HistoryLength, refl),
                          (
                            (reason.RollFull, refl),
                            (
                              (reason.NotOnRoll, refl),
                              (
                                (reason.OnRoll, refl),
                                (
                                  (reason.PartPerCent, refl),
                                  tt,
                                ),
                              ),
                            ),
                          ),
                        ),
                      ),
                    ),
                  ),
                ),
              ),
            ),
          ),
        ),
      ),
    ),
  ),
)

its_reason : (ns : List ℕ) → Reasoned ns → (n : ℕ) → Listed ns n → (r : Reason) × (number_of r ≡ n)
unfolding Reasoned is_listed
its_reason [] p n l = absurd (false≢true l)
its_reason (m ∷ ns) p n l = by (eqb n m) refl (its_reason ns p.1 n)
  where
    by : (here : Bool) → eqb n m ≡ here → (Listed ns n → (r : Reason) × (number_of r ≡ n)) → (r : Reason) × (number_of r ≡ n)
    by true e rest = (p.0.0, p.0.1 ∙ sym (eqb-true n m e))
    by false e rest = rest (rw e at l)

-- ---- no two have one
reason_of : ℕ → Reason
reason_of n =
    cond (eqb n 2) reason.BlockCheck (
    cond (eqb n 3) reason.BlockNumber (
    cond (eqb n 4) reason.FixedByte (
    cond (eqb n 5) reason.Limits (
    cond (eqb n 6) reason.Age (
    cond (eqb n 7) reason.Year (
    cond (eqb n 8) reason.Deferment (
    cond (eqb n 9) reason.Improvement (
    cond (eqb n 10) reason.Factor (
    cond (eqb n 11) reason.Room (
    cond (eqb n 12) reason.Line (
    cond (eqb n 13) reason.HistoryLength (
    cond (eqb n 14) reason.RollFull (
    cond (eqb n 15) reason.NotOnRoll (
    cond (eqb n 16) reason.OnRoll (
    cond (eqb n 17) reason.PartPerCent (
    reason.Length))))))))))))))))

given_back : (r : Reason) → reason_of (number_of r) ≡ r
unfolding reason_of
given_back reason.Length = refl
given_back reason.BlockCheck = refl
given_back reason.BlockNumber = refl
given_back reason.FixedByte = refl
given_back reason.Limits = refl
given_back reason.Age = refl
given_back reason.Year = refl
given_back reason.Deferment = refl
given_back reason.Improvement = refl
given_back reason.Factor = refl
given_back reason.Room = refl
given_back reason.Line = refl
given_back reason.HistoryLength = refl
given_back reason.RollFull = refl
given_back reason.NotOnRoll = refl
given_back reason.OnRoll = refl
given_back reason.PartPerCent = refl

pub reasons-are-numbers : ReasonsAreNumbers
reasons-are-numbers =
    record {
      listed = listed;
      each_has_one = its_reason numbers reasoned;
      apart = λ a b e. sym (given_back a) ∙ ap reason_of e ∙ given_back b;
    }
