-- The laws of texts put into a buffer, one after another. Assumes nothing.
use Prim.Native.Nat.{ℕ, zero, suc, ◌+◌, ◌-◌, ◌≤◌, ◌<◌}
use mathlib.Core.Path.{◌≡◌, refl, ap, sym, ◌∙◌}
use mathlib.Core.List.{List, [], ◌∷◌, ◌++◌}
use native.Mathlib.Omega.{arith}
use lib.ListN.{length, drop, set, replicate, length-append, length-set}
use Rattle.lent.specs.Lent.{placed}
use Rattle.lent.proofs.Lent.{placed-none, placed_one, placed-length, placed-next}
use Rattle.reply_text.specs.declared.Output.{Output}
use Rattle.reply_text.specs.declared.ReplyText.{ReplyText}
use Rattle.reply_text.specs.Put.{Put, Puts}

-- ---- putting
-- what stands at a place has been put there
pub put : {out after : List ℕ} (at : ℕ) (text : List ℕ) → at + length text ≤ length out → after ≡ placed out at text → Put out at text after (at + length text)
put {out} at text h e = record { next = refl; fits = h; same = ap length e ∙ placed-length out at text h; all = e }

-- no text at all
pub nothing : (out : List ℕ) (at : ℕ) → at ≤ length out → Put out at [] out at
nothing out at h = record { next = omega arith; fits = omega arith; same = refl; all = sym (placed-none out at) }

-- one byte
pub byte : (out : List ℕ) (p x : ℕ) → p < length out → Put out p (x ∷ []) (set out p x) (p + 1)
byte out p x h = record {
  next = refl;
  fits = omega arith;
  same = length-set out p x;
  all = sym (placed-none (set out p x) (p + 1)) ∙ placed_one out p x [] h;
}

-- one text, then another
pub then : {out after last : List ℕ} {at r s : ℕ} {t u : List ℕ} → Put out at t after r → Put after r u last s → Put out at (t ++ u) last s
then {out} {after} {last} {at} {r} {s} {t} {u} p q = record {
  next = rw length-append (omega (arith, p.next, q.next));
  fits = rw length-append (omega (arith, p.next, q.fits, p.same));
  same = q.same ∙ p.same;
  all = q.all ∙ ap (λ o. placed o r u) p.all ∙ ap (λ k. placed (placed out at t) k u) p.next ∙ placed-next out at t p.fits u;
}

-- the same text and place, written otherwise
pub being : {out after : List ℕ} {at r s : ℕ} {t u : List ℕ} → t ≡ u → r ≡ s → Put out at t after r → Put out at u after s
being {out} {after} {at} {r} {s} {t} {u} e f p = rw (← e, ← f) p

-- ---- into an output
-- one text, then another
pub more : {a b c : Output} {t u : List ℕ} → Puts a t b → Puts b u c → Puts a (t ++ u) c
more p q = record { put = then p.put q.put; same = q.same ∙ p.same }

-- the same text, written otherwise
pub written : {a b : Output} {t u : List ℕ} → t ≡ u → Puts a t b → Puts a u b
written e p = record { put = being e refl p.put; same = p.same }

-- what the lent buffer holds once the output is let go
pub lent-back : {a b : Output} {t after : List ℕ} → Puts a t b → (a.out.ghost_name ≡ b.out.ghost_name → after ≡ b.out.now) → Put a.out.now a.at t after b.at
lent-back p back = rw (back (sym p.same)) p.put

-- ---- a text at the start of zero bytes
drop-zeros : (n m : ℕ) → drop {A = ℕ} n (replicate m 0) ≡ replicate (m - n) 0
drop-zeros zero m = let e : m - 0 ≡ m = omega arith in rw e refl
drop-zeros (suc n) zero = let e : 0 - suc n ≡ 0 = omega arith in rw e refl
drop-zeros (suc n) (suc m) = let e : suc m - suc n ≡ m - n = omega arith in rw e (drop-zeros n m)

module _ (n : ℕ) {t after : List ℕ} {r : ℕ} (p : Put (replicate n 0) 0 t after r) where
  zeros-behind : after ≡ t ++ replicate (n - length t) 0
  zeros-behind = let e : 0 + length t ≡ length t = omega arith in p.all ∙ rw (e, drop-zeros (length t) n) refl

  pub in-zeros : ◌≡◌ {A = ReplyText} (record { bytes = after; len = r }) (record { bytes = t ++ replicate (n - length t) 0; len = length t })
  in-zeros = let e : r ≡ length t = omega (arith, p.next) in rw (zeros-behind, e) refl
