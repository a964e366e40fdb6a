-- A field in a part of the data: its check is that of the part by itself, with the places counted in the whole. Assumes nothing.
use mathlib.Core.Path.{◌≡◌, refl, sym, ap, ◌∙◌}
use mathlib.Core.Bool.{Bool, true, false, cond}
use mathlib.Core.List.{List}
use Prim.Native.Nat.{ℕ, zero, suc, ◌+◌, ◌*◌, ◌<◌, ◌≤◌}
use native.Mathlib.Nat.{suc-mul}
use native.Mathlib.Omega.{arith}
use lib.ListN.{length, take, drop}
use lib.Seq.{get_or-take, get_or-drop}
use lib.IntN.{ℤ, pos}
use Rattle.little_endian.specs.Bytes.{byte_at, u32_at, signed32}
use Rattle.outcome.specs.declared.Refusal.{Refusal}
use Rattle.outcome.specs.Outcome.{refused_by, refusal}
use Rattle.layout.specs.declared.Number.{Number}
use Rattle.layout.specs.declared.Number.TheVariants.{Byte, Half, Word, SignedWord}
use Rattle.field_check.specs.declared.Field.{Field}
use Rattle.layout.specs.Layout.{width_of, value_at}
use Rattle.field_check.specs.Field.{between, entries_check, field_check}
use Rattle.block.specs.Blocks.{parts_of}
use Rattle.block.proofs.Joined.{part-there}
use Rattle.history.specs.History.{shifted_by}
use Rattle.history.specs.Inner.Part.{counted_from, part_check}

-- ---- numbers
module _ (s : List ℕ) (from n : ℕ) where
  abbrev Part : List ℕ
  Part = take n (drop from s)

  module _ (at : ℕ) where
    byte-on : (k : ℕ) → at + k < n → byte_at s (from + at + k) ≡ byte_at Part (at + k)
    byte-on k h =
        let e : from + at + k ≡ from + (at + k) = omega arith in
        rw e (sym (get_or-drop from s (at + k) 0) ∙ sym (get_or-take n (drop from s) (at + k) 0 h))

    byte-there : at < n → byte_at s (from + at) ≡ byte_at Part at
    byte-there h = sym (get_or-drop from s at 0) ∙ sym (get_or-take n (drop from s) at 0 h)

    pub word-there : at + 4 ≤ n → u32_at s (from + at) ≡ u32_at Part at
    word-there h =
        simp (byte-there (omega arith), byte-on 1 (omega arith), byte-on 2 (omega arith), byte-on 3 (omega arith)) refl

    value_there : (kind : Number) → at + width_of kind ≤ n → value_at kind s (from + at) ≡ value_at kind Part at
    value_there Byte h = ap pos (byte-there (omega arith))
    value_there Half h = ap pos (simp (byte-there (omega arith), byte-on 1 (omega arith)) refl)
    value_there Word h = ap pos (word-there h)
    value_there SignedWord h = ap signed32 (word-there h)

  -- ---- fields
  module _ (number : ℕ) (kind : Number) (low high : ℤ) where
    entries-there : (at m : ℕ) → at + m * width_of kind ≤ n
        → entries_check s number kind low high (from + at) m ≡ counted_from from (entries_check Part number kind low high at m)
    unfolding entries_check
    entries-there at zero h = refl
    entries-there at (suc m) h =
        let e : from + at + width_of kind ≡ from + (at + width_of kind) = omega arith in
        rw (value_there at kind (omega arith), e)
        (by (between low high (value_at kind Part at)) (entries-there (at + width_of kind) m (omega arith)))
      where
        by : (t : Bool) → entries_check s number kind low high (from + (at + width_of kind)) m
            ≡ counted_from from (entries_check Part number kind low high (at + width_of kind) m)
            → cond t (entries_check s number kind low high (from + (at + width_of kind)) m) (refused_by (refusal number (from + at) 0))
            ≡ counted_from from (cond t (entries_check Part number kind low high (at + width_of kind) m) (refused_by (refusal number at 0)))
        by true g = g
        by false g = refl

  field-there : (f : Field) → f.offset + f.count * width_of f.kind ≤ n → field_check s (shifted_by from f) ≡ counted_from from (field_check Part f)
  unfolding field_check
  field-there f h = entries-there f.number f.kind f.low f.high f.offset f.count h

-- a field in the data of a block
pub part_field : (n b : ℕ) (blocks : List ℕ) (f : Field) → b < n → length blocks ≡ 512 * n → f.offset + f.count * width_of f.kind ≤ 506
    → part_check blocks b f ≡ field_check (parts_of n blocks) (shifted_by (506 * b) f)
part_field n b blocks f h l w =
    ap (λ (part : List ℕ). counted_from (506 * b) (field_check part f)) (sym (part-there n b blocks h l))
    ∙ sym (field-there (parts_of n blocks) (506 * b) 506 f w)

-- ---- the place of a refusal lies in the field
place_in : (s : List ℕ) (number : ℕ) (kind : Number) (low high : ℤ) (at m : ℕ) (r : Refusal) → entries_check s number kind low high at m ≡ refused_by r
    → r.first ≤ at + m * width_of kind
unfolding entries_check
place_in s number kind low high at zero r h = let z : ◌≡◌ {A = ℕ} 0 1 = cc in absurd (omega arith)
place_in s number kind low high at (suc m) r h = by (λ g. place_in s number kind low high (at + width_of kind) m r g) (between low high (value_at kind s at)) h
  where
    by : (entries_check s number kind low high (at + width_of kind) m ≡ refused_by r → r.first ≤ at + width_of kind + m * width_of kind)
        → (t : Bool) → cond t (entries_check s number kind low high (at + width_of kind) m) (refused_by (refusal number at 0)) ≡ refused_by r
        → r.first ≤ at + suc m * width_of kind
    by rest true g = omega (arith, rest g, suc-mul m (width_of kind))
    by rest false g = let e : r.first ≡ at = cc in omega (arith, e)

pub refused-in : (s : List ℕ) (f : Field) (r : Refusal) → field_check s f ≡ refused_by r → r.first ≤ f.offset + f.count * width_of f.kind
unfolding field_check
refused-in s f r h = place_in s f.number f.kind f.low f.high f.offset f.count r h
