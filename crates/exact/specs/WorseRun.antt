-- That the premise of demand 3 says nothing of the improvements that are not taken: it holds of an accepted data run, given here byte by byte,
-- by which mortality worsens at other ages, in B, and after the year asked for.
use Rattle.std.specs.Prelude.{List, [], ◌∷◌, ◌++◌, ℕ, replicate}
use Rattle.basis.specs.Basis.{Accepted}
use Rattle.history.specs.History.{basis_with}
use Rattle.survivorship.specs.declared.Kind.TheVariants.{Period}
use Rattle.exact.specs.Model.{exact_improvement}
use Rattle.exact.specs.Distance.{NotBelowZero, Improving, ImprovingOver}

-- a byte n times, in front of further ones
unfoldable pub times : ℕ → ℕ → List ℕ → List ℕ
times n byte further = replicate n byte ++ further

-- the four tables by birth year: I is 1 unit for 1949 and 1950 and −1 for all others, L is 0, T 50 and P 100
unfoldable pub worse_tables : List ℕ
worse_tables =
    times 428 255 (times 1 1 (times 3 0 (times 1 1 (times 3 0 (times 640 255 (times 1076 0 (times 269 50 (times 269 100 []))))))))

-- in front of them: addition, discount and zero bytes; base rates of 16,843,009 units, four bytes 1 each; the age's I and L 0, T 50 and P 100
unfoldable pub worse_fields : List ℕ
worse_fields = times 22 0 (times 524 1 (times 1048 0 (times 131 50 (times 131 100 worse_tables))))

-- MPB1, F 2006, B 2008
unfoldable pub worse_run : List ℕ
worse_run = 77 ∷ 80 ∷ 66 ∷ 49 ∷ 214 ∷ 7 ∷ 216 ∷ 7 ∷ worse_fields

pub record PremiseOfTheTaken : Type 0 where
  -- a run that 1, 4 and 5 do not refuse
  pub accepted : Accepted worse_run
  -- at another age, in B and after the year asked for its exact improvement is below zero
  pub below_at_another_age : NotBelowZero (exact_improvement (basis_with worse_run []) 62 2010) → ⊥
  pub below_in_base_year : NotBelowZero (exact_improvement (basis_with worse_run []) 60 2008) → ⊥
  pub below_later : NotBelowZero (exact_improvement (basis_with worse_run []) 60 2011) → ⊥
  -- and the premise holds of the factor at age 60 in 2010, and of survivorship for one year
  pub holds : Improving (basis_with worse_run []) 60 2010
  pub holds_over : ImprovingOver (basis_with worse_run []) Period 60 1 2010
