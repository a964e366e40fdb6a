-- A number in a list of numbers, no two of which are the same: whether it is listed, its place, and the list without it. Assumes nothing.
use Rattle.std.proofs.Common.{◌≡◌, ℕ, zero, suc, ◌<◌, Bool, true, false, cond, ◌||◌, eqb, ltb, List, [], ◌∷◌, ◌++◌, length, sym, refl, ap, ◌∙◌, arith, ltb-true, lt-ltb, eq-eqb, ne_eqb, eqb-true}
use Rattle.std.specs.Prelude.{◌==◌, Some, None, position}
use Prim.Native.Nat.compare
use native.Mathlib.Decide.{ℕ_discrete}
use borrow.Author.Tests.{eqb-false}
use Rattle.outcome.specs.Refusals.{is_listed}
use Rattle.roll.specs.Roll.{Member, numbers_of, others}
use Rattle.roll.specs.Kept.{place_of, without}
use Rattle.roll.proofs.Places.{place-is}

-- ---- not listed: another number than the first, and not listed behind it
not-either : (a b : Bool) → (a || b) ≡ false → (a ≡ false) × (b ≡ false)
not-either false b h = (refl, h)
not-either true b h = let z : ◌≡◌ {A = ℕ} 0 1 = cc in absurd (omega arith)

unlisted-parts : (x y : ℕ) (l : List ℕ) → is_listed (y ∷ l) x ≡ false → (x ≡ y → ⊥) × (is_listed l x ≡ false)
unfolding is_listed
unlisted-parts x y l h = let p = not-either (eqb x y) (is_listed l x) h in (eqb-false x y p.0, p.1)

unlisted-both : (x y : ℕ) (l : List ℕ) → (x ≡ y → ⊥) → is_listed l x ≡ false → is_listed (y ∷ l) x ≡ false
unfolding is_listed
unlisted-both x y l p q = rw (ne_eqb x y p) q

unlisted-joined : (x y : ℕ) (l : List ℕ) → is_listed l x ≡ false → (x ≡ y → ⊥) → is_listed (l ++ y ∷ []) x ≡ false
unlisted-joined x y [] h p = unlisted-both x y [] p h
unlisted-joined x y (z ∷ l) h p = let q = unlisted-parts x z l h in unlisted-both x z (l ++ y ∷ []) q.0 (unlisted-joined x y l q.1 p)

unlisted-without : (x i : ℕ) (l : List ℕ) → is_listed l x ≡ false → is_listed (without i l) x ≡ false
unlisted-without x i [] h = h
unlisted-without x zero (z ∷ l) h = (unlisted-parts x z l h).1
unlisted-without x (suc i) (z ∷ l) h = let q = unlisted-parts x z l h in unlisted-both x z (without i l) q.0 (unlisted-without x i l q.1)

-- ---- no two the same
abbrev pub Distinct : List ℕ → Type 0
Distinct [] = Unit
Distinct (x ∷ l) = (is_listed l x ≡ false) × Distinct l

pub distinct-joined : (l : List ℕ) (x : ℕ) → Distinct l → is_listed l x ≡ false → Distinct (l ++ x ∷ [])
distinct-joined [] x d h = (h, tt)
distinct-joined (y ∷ l) x d h =
    let q = unlisted-parts x y l h in
    (unlisted-joined y x l d.0 (λ e. q.0 (sym e)), distinct-joined l x d.1 q.1)

pub distinct_without : (i : ℕ) (l : List ℕ) → Distinct l → Distinct (without i l)
distinct_without i [] d = tt
distinct_without zero (y ∷ l) d = d.1
distinct_without (suc i) (y ∷ l) d = (unlisted-without y i l d.0, distinct_without i l d.1)

-- ---- a number is on the list exactly where it has a place
pub place-listed : (x : ℕ) (l : List ℕ) → is_listed l x ≡ ltb (place_of x l) (length l)
unfolding is_listed
place-listed x [] = refl
place-listed x (y ∷ l) = by (eqb y x) refl (place-listed x l)
  where
    by : (t : Bool) → eqb y x ≡ t → is_listed l x ≡ ltb (place_of x l) (length l) →
        (eqb x y || is_listed l x) ≡ ltb (cond t zero (suc (place_of x l))) (suc (length l))
    by true e h = rw (eq-eqb x y (sym (eqb-true y x e))) (sym (lt-ltb 0 (suc (length l)) (omega arith)))
    by false e h = rw (ne_eqb x y (λ k. eqb-false y x e (sym k)), compare.suc-suc (suc (place_of x l)) (length l)) h

pub listed-place : (x : ℕ) (l : List ℕ) → is_listed l x ≡ true → place_of x l < length l
listed-place x l h = ltb-true _ _ (sym (place-listed x l) ∙ h)

-- ---- as a search of std finds it
pub found-listed : (x : ℕ) (l : List ℕ) → position (λ n. n == x) l ≡ cond (is_listed l x) (Some (place_of x l)) None
found-listed x l = rw (← place-is x l, place-listed x l) refl

-- ---- those of another number
others-all : (number : ℕ) (members : List Member) → is_listed (numbers_of members) number ≡ false → others number members ≡ members
others-all number [] h = refl
others-all number (m ∷ ms) h =
    let q = unlisted-parts number m.number (numbers_of ms) h in
    rw (ne_eqb m.number number (λ e. q.0 (sym e))) (ap {B = List Member} (λ l. m ∷ l) (others-all number ms q.1))

pub others-without : (number : ℕ) (members : List Member) → Distinct (numbers_of members)
    → others number members ≡ without (place_of number (numbers_of members)) members
others-without number [] d = refl
others-without number (m ∷ ms) d = by (ℕ_discrete m.number number) (others-without number ms d.1)
  where
    by : Dec (m.number ≡ number) → others number ms ≡ without (place_of number (numbers_of ms)) ms
        → others number (m ∷ ms) ≡ without (place_of number (numbers_of (m ∷ ms))) (m ∷ ms)
    by (yes e) later = rw (eq-eqb m.number number e) (others-all number ms (rw e at d.0))
    by (no e) later = rw (ne_eqb m.number number e) (ap {B = List Member} (λ l. m ∷ l) later)
