-- The ways through work that fills a lent output, by the cases of its two checks; and what one part after another leaves. Assumes nothing.
use mathlib.Core.Path.{◌≡◌, refl, ap, sym, ◌∙◌}
use mathlib.Core.List.{List, [], ◌∷◌, ◌++◌, append_assoc, append-nil}
use Prim.Native.Nat.{ℕ, suc, ◌+◌, ◌<◌, ◌≤◌}
use native.Mathlib.Nat.{zero-add}
use native.Mathlib.Numerals.{add-one}
use native.Mathlib.Omega.{arith}
use lib.ListN.{length, take, drop, set, length-append, length-drop, take-append-drop, drop_of_length-le}
use lib.Seq.{length-take-le, take_at, drop_at, drop-drop, take-suc-set, drop-set-lt}
use borrow.Author.Tests.{le-leb, leb-true}
use Rattle.outcome.specs.declared.Refusal.{Refusal}
use Rattle.outcome.specs.Outcome.{Finding, passed, refused_by, first_of}
use Rattle.outcome.proofs.Outcome.{unless-passed, both-passed}
use Rattle.lent.specs.Lent.{count_check, room_check, written, placed}

-- as much is lent as is needed
pub enough : (need n : ℕ) → count_check need n ≡ passed → need ≤ n
unfolding count_check
enough need n h = leb-true need n (unless-passed _ _ h)

-- the room comes before every other check
module _ {A : Type 0} (need : ℕ) (out : List A) (next : Finding) where
  pub roomy : need ≤ length out → first_of (room_check need out) next ≡ next
  unfolding count_check
  roomy h = simp (le-leb need (length out) h)

  pub room-passed : first_of (room_check need out) next ≡ passed → (need ≤ length out) × (next ≡ passed)
  unfolding count_check
  room-passed h = let e = both-passed _ _ h in (leb-true need (length out) (unless-passed _ _ e.0), e.1)

-- what stands in the output then
module _ {A : Type 0} (c : Finding) (new out : List A) where
  pub filled : (n : ℕ) → c ≡ passed → length new ≡ n → written c new out ≡ new ++ drop n out
  filled n e l = simp (e, l)

  pub kept : (r : Refusal) → c ≡ refused_by r → written c new out ≡ out
  kept r e = rw e

  pub put-in-front : c ≡ passed → placed out 0 new ≡ written c new out
  put-in-front e = rw (e, zero-add (length new))

-- ---- one part after another
module _ {A : Type 0} (out : List A) (at : ℕ) where
  pub placed-none : placed out at [] ≡ out
  placed-none = let e : at + 0 ≡ at = omega arith in rw e (simp append-nil (take-append-drop at out))

  -- one element, then others
  pub placed_one : (x : A) (rest : List A) → at < length out → placed (set out at x) (at + 1) rest ≡ placed out at (x ∷ rest)
  placed_one x rest h =
      let e : at + 1 + length rest ≡ at + suc (length rest) = omega arith in
      rw (drop-set-lt (at + 1 + length rest) out at x (omega arith), e, add-one, take-suc-set out at x h) (simp append_assoc)

  module _ (part : List A) (h : at + length part ≤ length out) where
    pub placed-length : length (placed out at part) ≡ length out
    placed-length = simp (length-append, length-drop, length-take-le at out (omega arith)) (omega arith)

    front_length : length (take at out ++ part) ≡ at + length part
    front_length = rw (length-append, length-take-le at out (omega arith))

    pub placed-next : (next : List A) → placed (placed out at part) (at + length part) next ≡ placed out at (part ++ next)
    placed-next next =
        let n = at + length part in
        let k = length next in
        let front = take at out ++ part in
        let before : take n (placed out at part) ≡ front = take_at front (drop n out) n front_length in
        let behind : drop n (placed out at part) ≡ drop n out = drop_at front (drop n out) n front_length in
        let after : drop (n + k) (placed out at part) ≡ drop (n + k) out =
        sym (drop-drop k n (placed out at part)) ∙ ap (drop k) behind ∙ drop-drop k n out in
        let e : at + length (part ++ next) ≡ n + k = rw length-append (omega arith) in
        rw (before, after, e) (simp append_assoc)

    -- what stands there
    pub placed-there : take (length part) (drop at (placed out at part)) ≡ part
    placed-there =
        let rest = drop (at + length part) out in
        rw (append_assoc, drop_at (take at out) (part ++ rest) at (length-take-le at out (omega arith))) (take_at part rest (length part) refl)

    -- the same of an output in which the first part stands
    module _ (new : List A) (e : new ≡ placed out at part) where
      pub then-length : length new ≡ length out
      then-length = ap length e ∙ placed-length

      pub then : (b : ℕ) (next : List A) → b ≡ at + length part → placed new b next ≡ placed out at (part ++ next)
      then b next f = rw (e, f) (placed-next next)

-- an output that is filled whole
pub placed-whole : {A : Type 0} (out new : List A) → length out ≡ length new → placed out 0 new ≡ new
placed-whole out new h = ap (λ l. new ++ l) (drop_of_length-le out {i = 0 + length new} (omega arith)) ∙ append-nil new
