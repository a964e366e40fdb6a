-- The years after 2130 (02, change 9: "each later year now takes the long-term rates, age plus birth year, plus the addition"). Survivorship,
-- expectations, annuities and the lifeline come to them; a single cell is refused there.
use Rattle.std.specs.Prelude.{◌≡◌, ℕ, ◌+◌, ◌≤◌, ◌<◌}
use Rattle.basis.specs.Basis.{Basis, Limited}
use Rattle.outcome.specs.declared.Refusal.{Refusal}
use Rattle.outcome.specs.Outcome.{refused, and_then}
use Rattle.improvement.specs.LongTerm.{long_term_improvement}
use Rattle.projection.specs.Projection.{factor_next, factor_needed, factor_of}

pub record EachLaterYear (b : Basis) : Type 0 where
  -- the factor of a year after 2130 comes from that of the year before by this improvement; 10 refuses it, and nothing else does
  pub factor : Limited b → (age year : ℕ) → 20 ≤ age → age ≤ 150 → 2130 ≤ year → year < 2110 + age →
      factor_of b age (year + 1) ≡ and_then (factor_of b age year) (λ f. factor_needed age (year + 1) (factor_next f (long_term_improvement b age (year + 1))))
  -- so that a 9 names a year before 2130
  pub nine : Limited b → (age year : ℕ) (r : Refusal) → 20 ≤ age → age ≤ 150 → year ≤ 2110 + age → factor_of b age year ≡ refused r → r.number ≡ 9 →
      r.second < 2130
