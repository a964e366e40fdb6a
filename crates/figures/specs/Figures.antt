-- The figures that 01 marks to be proved ("Figures to prove"), as one table: what the definitions that the contracts cite give,
-- and what 01 states. Those of a component hold where the other component is zero (02, change 3). A second table has what the CMI itself
-- says of the run-off at high ages, and a third 01's own figures of the factor in the years after 2130 (02, change 9).
use Rattle.std.specs.Prelude.{ℕ, ◌+◌, ◌≡◌, List, [], ◌∷◌, ◌++◌, map, length, ℤ, pos, negsuc}
use Rattle.basis.specs.Basis.{Basis}
use Rattle.outcome.specs.Outcome.{Outcome, value, refused, refusal}
use Rattle.basis.specs.declared.Convergence.{Convergence}
use Rattle.component.specs.PerCent.{terms_in_per_cent}
use Rattle.short_form.specs.ShortForm.{long_term_of}
use Rattle.improvement.specs.Improvement.{improvement_of, improvement_needed}
use Rattle.projection.specs.Projection.{factor_of}
use Rattle.survivorship.specs.Survivorship.{survivors_of}
use Rattle.valuation.specs.Valuation.{annuity_of}
use Rattle.survivorship.specs.declared.Kind.TheVariants.{Period, Cohort}

pub record Figure : Type 0 where
  pub worked : Outcome ℤ
  pub stated : Outcome ℤ

infix 3 ◌gives◌
abbrev pub ◌gives◌ : Outcome ℤ → Outcome ℤ → Figure
w gives s = record { worked = w; stated = s }

-- the long-term rate of the short form at an age, from one rate S
abbrev short_form : ℤ → ℕ → Outcome ℤ
short_form S age = value (long_term_of S age)

-- ---- the bases of the figures: F and B 2006, one base rate at every age, the same terms at every age and at every birth year; P is in
-- per cent, as 01 prints it
abbrev level : ℕ → ℤ → ℤ → Convergence → Convergence → Basis
level rate discount addition by_age by_birth_year =
    record {
      foundation = 2006;
      base = 2006;
      addition = addition;
      discount = discount;
      base_rate = λ age. rate;
      by_age = λ age. by_age;
      by_birth_year = λ year. by_birth_year;
      actual = λ age year. pos 0;
    }

-- a component that stays the same: I is L
abbrev steady : ℤ → Convergence
steady rate = terms_in_per_cent rate rate 20 50

-- one component, by age or by birth year, the other one zero
abbrev by_age_alone : Convergence → Basis
by_age_alone c = level 0 (pos 0) (pos 0) c (steady (pos 0))

abbrev by_birth_year_alone : Convergence → Basis
by_birth_year_alone c = level 0 (pos 0) (pos 0) (steady (pos 0)) c

-- the improvement by a component of I, L, T, P alone, n years after F
abbrev component : (Convergence → Basis) → ℤ → ℤ → ℕ → ℕ → ℕ → Outcome ℤ
component alone I L T P n = value (improvement_of (alone (terms_in_per_cent I L T P)) 60 (2006 + n))

-- improvement 10,000,000 every year
abbrev improving : Basis
improving = level 0 (pos 0) (pos 0) (steady (pos 10_000_000)) (steady (pos 0))

-- improvement −500,000,000, which the limits leave to age, birth year and addition together
abbrev worsening : Basis
worsening = level 0 (pos 0) (negsuc 99_999_999) (steady (negsuc 199_999_999)) (steady (negsuc 199_999_999))

-- age I 200,000,000, L −200,000,000, T 4, P 150, all else 0
abbrev rising : Basis
rising = level 0 (pos 0) (pos 0) (terms_in_per_cent (pos 200_000_000) (negsuc 199_999_999) 4 150) (steady (pos 0))

-- rate 100,000,000, discount 200,000,000
abbrev tenth : Basis
tenth = level 100_000_000 (pos 200_000_000) (pos 0) (steady (pos 0)) (steady (pos 0))

-- ---- the table, in 01's order
abbrev components : (Convergence → Basis) → List Figure
components alone =
    (component alone (pos 20_000_000) (pos 10_000_000) 40 50 0 gives value (pos 20_000_000))
    ∷ (component alone (pos 20_000_000) (pos 10_000_000) 40 50 10 gives value (pos 18_437_500))
    ∷ (component alone (pos 20_000_000) (pos 10_000_000) 40 50 20 gives value (pos 15_000_000))
    ∷ (component alone (pos 20_000_000) (pos 10_000_000) 40 50 40 gives value (pos 10_000_000))
    ∷ (component alone (pos 20_000_000) (pos 10_000_000) 40 50 41 gives value (pos 10_000_000))
    ∷ (component alone (pos 20_000_000) (pos 10_000_000) 40 125 10 gives value (pos 26_875_000))
    ∷ (component alone (pos 10_000_000) (pos 0) 3 50 1 gives value (pos 7_407_407))
    ∷ (component alone (pos 1) (pos 0) 2 50 1 gives value (pos 1))
    ∷ (component alone (negsuc 0) (pos 0) 2 50 1 gives value (pos 0))
    ∷ []

abbrev others : List Figure
others =
    (short_form (pos 10_000_000) 90 gives value (pos 10_000_000))
    ∷ (short_form (pos 10_000_000) 91 gives value (pos 9_666_667))
    ∷ (short_form (pos 10_000_000) 119 gives value (pos 333_333))
    ∷ (short_form (pos 10_000_000) 120 gives value (pos 0))
    ∷ (factor_of improving 60 2007 gives value (pos 990_000_000))
    ∷ (factor_of improving 60 2008 gives value (pos 980_100_000))
    ∷ (factor_of improving 60 2009 gives value (pos 970_299_000))
    ∷ (factor_of worsening 60 2007 gives value (pos 1_500_000_000))
    ∷ (factor_of worsening 60 2008 gives value (pos 2_250_000_000))
    ∷ (factor_of worsening 60 2009 gives value (pos 3_375_000_000))
    ∷ (factor_of worsening 60 2010 gives refused (refusal 10 60 2010))
    ∷ (value (improvement_of rising 60 2007) gives value (pos 587_500_000))
    ∷ (improvement_needed 60 2007 (improvement_of rising 60 2007) gives refused (refusal 9 60 2007))
    ∷ (factor_of rising 60 2007 gives refused (refusal 9 60 2007))
    ∷ (annuity_of tenth Period 149 0 2006 gives value (pos 1_750_000_000))
    ∷ (annuity_of tenth Cohort 149 0 2006 gives value (pos 1_750_000_000))
    ∷ []

abbrev pub figures : List Figure
figures = components by_age_alone ++ components by_birth_year_alone ++ others

-- ---- the CMI's own number: a long-term rate of 1.5 per cent, with the pattern of 003, A.2.1, is 1 per cent at age 100 (001, 5.2)
abbrev pub high_ages : List Figure
high_ages =
    (short_form (pos 15_000_000) 90 gives value (pos 15_000_000))
    ∷ (short_form (pos 15_000_000) 100 gives value (pos 10_000_000))
    ∷ []

-- ---- after 2130: 01's figures of the factor, from B 2130 on; and survivors at 148, whose rate of 149 in 2131 is 99,000,000 and no longer 100,000,000
abbrev from2130 : Basis → Basis
from2130 b =
    record {
      foundation = 2080;
      base = 2130;
      addition = b.addition;
      discount = b.discount;
      base_rate = λ age. 100_000_000;
      by_age = b.by_age;
      by_birth_year = b.by_birth_year;
      actual = b.actual;
    }

abbrev pub after_last_cell : List Figure
after_last_cell =
    (factor_of (from2130 improving) 60 2131 gives value (pos 990_000_000))
    ∷ (factor_of (from2130 improving) 60 2132 gives value (pos 980_100_000))
    ∷ (factor_of (from2130 improving) 60 2133 gives value (pos 970_299_000))
    ∷ (factor_of (from2130 worsening) 60 2131 gives value (pos 1_500_000_000))
    ∷ (factor_of (from2130 worsening) 60 2132 gives value (pos 2_250_000_000))
    ∷ (factor_of (from2130 worsening) 60 2133 gives value (pos 3_375_000_000))
    ∷ (factor_of (from2130 worsening) 60 2134 gives refused (refusal 10 60 2134))
    ∷ (survivors_of (from2130 improving) Cohort 148 2 2130 gives value (pos 810_900_000))
    ∷ (survivors_of (from2130 improving) Period 148 2 2130 gives value (pos 810_000_000))
    ∷ []

-- ---- every row gives what is stated
abbrev pub Hold : List Figure → Type 0
Hold table = map (λ f. f.worked) table ≡ map (λ f. f.stated) table

pub record FiguresHold : Type 0 where
  pub hold : Hold figures
  -- none is missing: nine of a component by age, the same nine by birth year, and 16 others
  pub number : length figures ≡ 9 + 9 + 16

pub record HighAgesHold : Type 0 where
  pub hold : Hold high_ages
  pub number : length high_ages ≡ 2

pub record AfterLastCellHold : Type 0 where
  pub hold : Hold after_last_cell
  pub number : length after_last_cell ≡ 9
