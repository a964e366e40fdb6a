-- Lists that hold others from a place on, and six lists one after another. Assumes nothing.
use mathlib.Core.Path.{◌≡◌, sym, ◌∙◌}
use mathlib.Core.List.{List, ◌++◌, append_assoc}
use Prim.Native.Nat.{ℕ, ◌+◌, ◌-◌, ◌<◌, ◌≤◌}
use native.Mathlib.Omega.{arith}
use lib.ListN.{length, drop, length-append, length-take, length-drop, get_or-append}
use lib.Seq.{get_or-append-add, get_or-take, get_or-drop}
use Rattle.little_endian.specs.Bytes.{byte_at}
use Rattle.old_form.specs.OldForm.{bytes_between}

pub record Part (s : List ℕ) (at : ℕ) (part : List ℕ) : Type 0 where
  pub there : (i : ℕ) → i < length part → byte_at s (at + i) ≡ byte_at part i

pub last : (s part : List ℕ) (at : ℕ) → at ≡ length s → Part (s ++ part) at part
last s part at e = record { there = λ i l. rw e (get_or-append-add s part i 0) }

pub ahead : (s rest : List ℕ) {at : ℕ} {part : List ℕ} → at + length part ≤ length s → Part s at part → Part (s ++ rest) at part
ahead s rest {at} {part} h p = record { there = λ i l. get_or-append s rest 0 (at + i) (omega arith) ∙ p.there i l }

pub behind : (s rest : List ℕ) (at n : ℕ) {part : List ℕ} → n ≡ length s + at → Part rest at part → Part (s ++ rest) n part
behind s rest at n e p =
    record {
      there = λ i l.
          let f : n + i ≡ length s + (at + i) = omega arith in
          rw f (get_or-append-add s rest (at + i) 0 ∙ p.there i l);
    }

-- a part of a part
pub within : (s : List ℕ) (at k : ℕ) (part inner : List ℕ) → k + length inner ≤ length part → Part s at part → Part part k inner → Part s (at + k) inner
within s at k part inner h p q =
    record {
      there = λ i l.
          let f : at + k + i ≡ at + (k + i) = omega arith in
          rw f (p.there (k + i) (omega arith) ∙ q.there i l);
    }

-- ---- bytes of one list from an offset to another, in another list
pub between-length : (run : List ℕ) (from to : ℕ) → to ≤ length run → length (bytes_between run from to) ≡ to - from
between-length run from to h = rw (length-take, length-drop) (omega arith)

module _ (s run : List ℕ) (at from to : ℕ) (h : to ≤ length run) (p : Part s at (bytes_between run from to)) where
  pub kept : (k x y : ℕ) → k < to - from → x ≡ at + k → y ≡ from + k → byte_at s x ≡ byte_at run y
  kept k x y l e f =
      rw (e, f)
      (p.there k (omega (arith, between-length run from to h))
      ∙ get_or-take (to - from) (drop from run) k 0 l ∙ get_or-drop from run k 0)

-- ---- six lists, three and three
pub six : (a b c d e f : List ℕ) → (a ++ b ++ c) ++ (d ++ e ++ f) ≡ a ++ b ++ c ++ d ++ e ++ f
six a b c d e f = simp append_assoc

-- with the places at which the second and those behind it begin
module _ (a b c d e f : List ℕ) (n₁ n₂ n₃ n₄ n₅ : ℕ) (h₁ : n₁ ≡ length a) (h₂ : n₂ ≡ n₁ + length b) (h₃ : n₃ ≡ n₂ + length c)
    (h₄ : n₄ ≡ n₃ + length d) (h₅ : n₅ ≡ n₄ + length e) where
  abbrev all : List ℕ
  all = a ++ b ++ c ++ d ++ e ++ f

  two : length (a ++ b) ≡ n₂
  two = length-append a b ∙ omega arith

  three : length (a ++ b ++ c) ≡ n₃
  three = length-append (a ++ b) c ∙ omega (arith, two)

  four : length (a ++ b ++ c ++ d) ≡ n₄
  four = length-append (a ++ b ++ c) d ∙ omega (arith, three)

  five : length (a ++ b ++ c ++ d ++ e) ≡ n₅
  five = length-append (a ++ b ++ c ++ d) e ∙ omega (arith, four)

  pub all-length : length all ≡ n₅ + length f
  all-length = length-append (a ++ b ++ c ++ d ++ e) f ∙ omega (arith, five)

  pub second : Part all n₁ b
  second =
      ahead (a ++ b ++ c ++ d ++ e) f (omega (arith, five)) (ahead (a ++ b ++ c ++ d) e (omega (arith, four))
      (ahead (a ++ b ++ c) d (omega (arith, three)) (ahead (a ++ b) c (omega (arith, two)) (last a b n₁ h₁))))

  pub third : Part all n₂ c
  third =
      ahead (a ++ b ++ c ++ d ++ e) f (omega (arith, five)) (ahead (a ++ b ++ c ++ d) e (omega (arith, four))
      (ahead (a ++ b ++ c) d (omega (arith, three)) (last (a ++ b) c n₂ (sym two))))

  pub fourth : Part all n₃ d
  fourth =
      ahead (a ++ b ++ c ++ d ++ e) f (omega (arith, five)) (ahead (a ++ b ++ c ++ d) e (omega (arith, four)) (last (a ++ b ++ c) d n₃ (sym three)))

  pub fifth : Part all n₄ e
  fifth = ahead (a ++ b ++ c ++ d ++ e) f (omega (arith, five)) (last (a ++ b ++ c ++ d) e n₄ (sym four))

  pub sixth : Part all n₅ f
  sixth = last (a ++ b ++ c ++ d ++ e) f n₅ (sym five)
