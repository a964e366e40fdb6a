-- The turns of the loop that puts digits: what is left to put gives the same buffer in the end. Assumes nothing.
use Prim.Native.Nat.{ℕ, zero, suc, ◌+◌, ◌-◌, ◌/◌, ◌%◌, ◌≤◌, ◌<◌}
use mathlib.Core.Path.{◌≡◌, refl, ap, sym, ◌∙◌}
use mathlib.Core.List.{List, [], ◌∷◌, ◌++◌, append_assoc}
use native.Mathlib.Omega.{arith}
use lib.ListN.{length, take, drop, set, length-append}
use lib.Seq.{take-set-le, set_split, drop_at, length-take-le}
use Rattle.lent.specs.Lent.{placed}
use Rattle.lent.proofs.Lent.{placed-none}
use Rattle.reply_text.specs.Decimal.{digits}
use Rattle.reply_text.specs.Put.{Put}
use Rattle.reply_text.proofs.Numerals.{digits-length}
use Rattle.reply_text.proofs.Puts.{put, being}

-- ---- digits backwards
drop_here : (out : List ℕ) (p x : ℕ) → p < length out → drop p (set out p x) ≡ x ∷ drop (suc p) out
drop_here out p x h = rw (set_split out p x h) (drop_at (take p out) (x ∷ drop (suc p) out) p (length-take-le p out (omega arith)))

last-first : (out : List ℕ) (at x : ℕ) (d : List ℕ) → at + length d < length out → placed (set out (at + length d) x) at d ≡ placed out at (d ++ x ∷ [])
last-first out at x d h =
    let e : at + length (d ++ x ∷ []) ≡ suc (at + length d) = rw length-append (omega arith) in
    rw (take-set-le at out (at + length d) x (omega arith), drop_here out (at + length d) x h, e) (simp append_assoc)

pub digit-turn : (out : List ℕ) (at i n : ℕ) → 0 < i → at + i ≤ length out →
    placed (set out (at + (i - 1)) (48 + n % 10)) at (digits (i - 1) (n / 10)) ≡ placed out at (digits i n)
unfolding digits
digit-turn out at zero n h f = absurd (omega arith)
digit-turn out at (suc j) n h f =
    let e : suc j - 1 ≡ j = omega arith in
    let l = digits-length j (n / 10) in
    rw e (ap (λ k. placed (set out (at + k) (48 + n % 10)) at (digits j (n / 10))) (sym l) ∙ last-first out at (48 + n % 10) (digits j (n / 10)) (omega arith))

pub digits-done : (out : List ℕ) (at n : ℕ) → placed out at (digits 0 n) ≡ out
unfolding digits
digits-done out at n = placed-none out at

-- ---- what has been put
pub digits-put : (out : List ℕ) (at k n : ℕ) (after : List ℕ) → at + k ≤ length out → after ≡ placed out at (digits k n) → Put out at (digits k n) after (at + k)
digits-put out at k n after h e = let l = digits-length k n in being refl (omega arith) (put at (digits k n) (omega arith) e)
