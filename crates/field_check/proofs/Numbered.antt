-- A table of fields refuses by the numbers of its rows. Assumes nothing.
use mathlib.Core.Path.{◌≡◌, refl}
use mathlib.Core.Bool.{Bool, true, false, ◌&&◌, false≢true}
use mathlib.Core.List.{List, [], ◌∷◌}
use Prim.Native.Nat.{ℕ, zero, suc, ◌+◌}
use lib.IntN.{ℤ}
use Rattle.outcome.specs.Refusals.{is_listed, Listed, RefusesBy}
use Rattle.outcome.proofs.Refusals.{passed-by, refused-by, cond-by, first_by}
use Rattle.layout.specs.declared.Number.{Number}
use Rattle.field_check.specs.declared.Field.{Field}
use Rattle.layout.specs.Layout.{width_of, value_at}
use Rattle.field_check.specs.Field.{between, entries_check, field_check, fields_check}

module _ {ns : List ℕ} where
  entries_by : (run : List ℕ) (number : ℕ) (kind : Number) (low high : ℤ) (at n : ℕ) → Listed ns number → RefusesBy ns (entries_check run number kind low high at n)
  unfolding entries_check
  entries_by run number kind low high at zero l = passed-by
  entries_by run number kind low high at (suc n) l =
      cond-by (between low high (value_at kind run at)) (entries_by run number kind low high (at + width_of kind) n l) (refused-by _ l)

  pub field-by : (run : List ℕ) (f : Field) → Listed ns f.number → RefusesBy ns (field_check run f)
  unfolding field_check
  field-by run f l = entries_by run f.number f.kind f.low f.high f.offset f.count l

-- the number of every row is listed
unfoldable pub are_listed : List ℕ → List Field → Bool
are_listed ns [] = true
are_listed ns (f ∷ fs) = is_listed ns f.number && are_listed ns fs

both : (a b : Bool) → (a && b) ≡ true → (a ≡ true) × (b ≡ true)
both true b h = (refl, h)
both false b h = absurd (false≢true h)

pub fields-by : (ns : List ℕ) (run : List ℕ) (fs : List Field) → are_listed ns fs ≡ true → RefusesBy ns (fields_check run fs)
unfolding fields_check are_listed
fields-by ns run [] h = passed-by
fields-by ns run (f ∷ fs) h =
    let p = both (is_listed ns f.number) (are_listed ns fs) h in
    first_by (field-by run f p.0) (fields-by ns run fs p.1)
