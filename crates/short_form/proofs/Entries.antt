-- Entries of one width, one after another: how long they are, put one by one into an output, and read again. Assumes nothing.
use mathlib.Core.Path.{◌≡◌, refl, sym, ap, ◌∙◌}
use mathlib.Core.List.{List, [], ◌∷◌}
use Prim.Native.Nat.{ℕ, zero, suc, ◌+◌, ◌*◌, ◌-◌, ◌≤◌, ◌<◌}
use native.Mathlib.Nat.{not-suc-le-zero}
use native.Mathlib.Omega.{arith}
use lib.ListN.{length, set, length-append}
use Rattle.little_endian.specs.Bytes.{byte_at}
use Rattle.basis.proofs.Lengths.{entry-inside}
use Rattle.lent.specs.Lent.{placed}
use Rattle.lent.proofs.Lent.{placed-none, placed_one, then}
use Rattle.short_form.specs.ShortForm.{entries_from}
use Rattle.short_form.proofs.Lists.{ahead, behind}

-- an entry of one byte, stored
pub stored : (out : List ℕ) (at x : ℕ) → at < length out → set out at x ≡ placed out at (x ∷ [])
stored out at x h = sym (placed-none (set out at x) (at + 1)) ∙ placed_one out at x [] h

module _ (entry : ℕ → List ℕ) (width : ℕ) (each : (place : ℕ) → length (entry place) ≡ width) where
  pub length-entries : (first n : ℕ) → length (entries_from entry first n) ≡ width * n
  unfolding entries_from
  length-entries first zero = omega arith
  length-entries first (suc n) = rw (length-append, each first, length-entries (first + 1) n) (omega arith)

  -- ---- put one by one: what is left of n entries, after i of them
  pub entries_turn : (out new : List ℕ) (at first n i : ℕ) → i < n → at + width * n ≤ length out → new ≡ placed out (at + width * i) (entry (first + i))
      → placed new (at + width * (i + 1)) (entries_from entry (first + (i + 1)) (n - (i + 1)))
      ≡ placed out (at + width * i) (entries_from entry (first + i) (n - i))
  unfolding entries_from
  entries_turn out new at first n i h k e =
      let fits : at + width * i + length (entry (first + i)) ≤ length out = omega (arith, each (first + i), entry-inside width i n h) in
      let d : n - i ≡ suc (n - (i + 1)) = omega arith in
      let f : first + (i + 1) ≡ first + i + 1 = omega arith in
      rw (d, f) (then out (at + width * i) (entry (first + i)) fits new e (at + width * (i + 1)) _ (omega (arith, each (first + i))))

  pub entries_end : (out : List ℕ) (at first n i : ℕ) → n ≤ i → placed out (at + width * i) (entries_from entry (first + i) (n - i)) ≡ out
  unfolding entries_from
  entries_end out at first n i h = let e : n - i ≡ 0 = omega arith in rw e (placed-none out (at + width * i))

  -- ---- read again: the bytes of the entry at place i
  pub entry-bytes : (first n i j at : ℕ) → at ≡ width * i + j → i < n → j < width
      → byte_at (entries_from entry first n) at ≡ byte_at (entry (first + i)) j
  unfolding entries_from
  entry-bytes first zero i j at e l m = absurd (not-suc-le-zero l)
  entry-bytes first (suc n) zero j at e l m =
      let here : at ≡ j = omega arith in
      let same : first ≡ first + 0 = omega arith in
      rw here (ahead (entry first) (entries_from entry (first + 1) n) j (omega (arith, each first)))
      ∙ ap (λ (p : ℕ). byte_at (entry p) j) same
  entry-bytes first (suc n) (suc i) j at e l m =
      let later : at ≡ width + (width * i + j) = omega arith in
      let next : first + 1 + i ≡ first + suc i = omega arith in
      rw later (behind (entry first) (entries_from entry (first + 1) n) width (width * i + j) (each first))
      ∙ entry-bytes (first + 1) n i j (width * i + j) refl (omega arith) m ∙ ap (λ (p : ℕ). byte_at (entry p) j) next
