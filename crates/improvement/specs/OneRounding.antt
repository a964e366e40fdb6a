-- One rounding per improvement (02, change 3: "their exact sum be rounded once"): numbers that two roundings would miss.
use Rattle.std.specs.Prelude.{◌≡◌, cond, ℕ, eqb, ltb, ℤ, pos, negsuc}
use Rattle.basis.specs.Basis.{Basis}
use Rattle.component.specs.PerCent.{terms_in_per_cent}
use Rattle.improvement.specs.Improvement.{projected_of}

-- the initial rates of birth years other than 1947, so that none of them gives both numbers below
abbrev other_birth_year : ℕ → ℤ
other_birth_year year = cond (ltb year 1947) (negsuc 0) (pos 0)

-- a year after F half of each initial rate is left: of the one by age, and of that of the birth year 1947
abbrev pub halved : ℤ → ℤ → Basis
halved by_age by_birth_year =
    record {
      foundation = 2006;
      base = 2006;
      addition = pos 0;
      discount = pos 0;
      base_rate = λ age. 0;
      by_age = λ age. terms_in_per_cent by_age (pos 0) 2 50;
      by_birth_year = λ year. terms_in_per_cent (cond (eqb year 1947) by_birth_year (other_birth_year year)) (pos 0) 2 50;
      actual = λ age year. pos 0;
    }

pub record OneRounding : Type 0 where
  -- 1/2 and 1/2 are 1, where two roundings would give 2
  pub two_halves : projected_of (halved (pos 1) (pos 1)) 60 2007 ≡ pos 1
  -- −1/2 and −1/2 are −1, where they would give 0
  pub two_halves_below_zero : projected_of (halved (negsuc 0) (negsuc 0)) 60 2007 ≡ negsuc 0
