-- The laws of the state that is held of an unfinished line. Assumes nothing.
use Prim.Native.Nat.{ℕ, suc, ◌+◌, ◌-◌, ◌≤◌, ◌<◌}
use mathlib.Core.Path.{◌≡◌, refl, ap, sym, ◌∙◌}
use mathlib.Core.List.{List, ◌++◌}
use native.Mathlib.Omega.{arith}
use native.Mathlib.Numerals.{add-one}
use lib.ListN.{length, take, drop, set, replicate, length-append, length-set, length-replicate, length-take, take-append-drop}
use lib.Seq.{length-take-le, drop-cons, drop-set-lt, take_at, drop_at}
use Rattle.basis.specs.Basis.{Basis}
use Rattle.enquiry_lines.specs.declared.Fed.{Fed}
use Rattle.enquiry_lines.specs.declared.Pending.{Pending}
use Rattle.enquiry_lines.specs.Lines.{unfinished}
use Rattle.enquiry_lines.specs.State.{pending_of, empty_after, kept, Sound, Answered}
use Rattle.enquiry_lines.proofs.Parting.{Left, ended-few}

pub kept-length : (s : Pending) → Sound s → length (kept s) ≡ s.len
kept-length s h = length-take-le s.len s.bytes (omega arith)

-- nothing is kept
pub sound_empty : (n : ℕ) → Sound (empty_after n)
sound_empty n = record { short = omega arith; room = refl; rest = refl }

-- one byte more is
pub sound-grows : (s : Pending) (b : ℕ) → Sound s → s.len < 16 → Sound (record { bytes = set s.bytes s.len b; len = s.len + 1; complete = s.complete })
sound-grows s b h l =
    let k : s.len < length s.bytes = omega arith in
    let more : 16 - s.len ≡ suc (16 - (s.len + 1)) = omega arith in
    let cut = sym (drop-cons s.bytes s.len 0 k) ∙ h.rest ∙ ap (λ n. replicate n 0) more in
    record {
      short = omega arith;
      room = length-set s.bytes s.len b ∙ h.room;
      rest = drop-set-lt (s.len + 1) s.bytes s.len b (omega arith) ∙ ap (λ n. drop n s.bytes) (add-one s.len) ∙ ap (drop 1) cut;
    }

-- what is kept, with the zeros behind it, is all that is held
module _ (line : List ℕ) (n : ℕ) where
  pub pending-is : (s : Pending) → Sound s → kept s ≡ take 16 line → s.complete ≡ n → s ≡ pending_of line n
  unfolding pending_of
  pending-is s h k e =
      let l : s.len ≡ length (take 16 line) = sym (kept-length s h) ∙ ap length k in
      let zeros = h.rest ∙ ap (λ m. replicate (16 - m) 0) l in
      let bytes : s.bytes ≡ take 16 line ++ replicate (16 - length (take 16 line)) 0 =
      sym (take-append-drop s.len s.bytes) ∙ ap (λ r. r ++ drop s.len s.bytes) k ∙ ap (λ r. take 16 line ++ r) zeros in
      λ i. record { bytes = bytes i; len = l i; complete = e i }

  pending-sound : Sound (pending_of line n)
  unfolding pending_of
  pending-sound =
      let short : length (take 16 line) ≤ 16 = omega (arith, length-take 16 line) in
      record {
        short = short;
        room = rw (length-append, length-replicate) (omega (arith, short));
        rest = drop_at (take 16 line) _ (length (take 16 line)) refl;
      }

-- what a part leaves; a line at the most is complete for each of its bytes
module _ {basis : Basis} {s : Pending} {part out : List ℕ} {from : ℕ} {after : List ℕ} {r : Fed} (a : Answered basis s part out from after r) where
  pub left-sound : Sound r.pending
  left-sound = rw a.left (pending-sound _ _)

  pub left-part : Left (kept s) s.complete part (kept r.pending) r.pending.complete
  unfolding pending_of
  left-part = rw a.left (record { begun = take_at (take 16 (unfinished (kept s) part)) _ _ refl; complete = refl })

  pub left-few : r.pending.complete ≤ s.complete + length part
  left-few = omega (arith, left-part.complete, ended-few (kept s) part)
