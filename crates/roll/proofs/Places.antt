-- Laws of places in a list. Assumes nothing.
use Rattle.std.specs.Prelude.{◌==◌, ◌%◌, ◌^◌, fold}
use Rattle.std.specs.List.{position_or_len, copy_within}
use Rattle.std.proofs.lemmas.List.{take-take, drop-take}
use Rattle.std.proofs.lemmas.List.Recursion.{is_position_or_len}
use Rattle.std.proofs.Common.{◌≡◌, ℕ, zero, suc, ◌+◌, ◌-◌, ◌<◌, ◌≤◌, cond, List, [], ◌∷◌, ◌++◌, map, length, take, drop, refl, ap, ◌∙◌, add-one, suc-add, zero-add, arith, length-append, length-drop, length-take-le}
use Rattle.roll.specs.Roll.{added}
use Rattle.roll.specs.Kept.{place_of, without, closed_up}

-- ---- without a place
module _ {A : Type 0} where
  pub length_without : (i : ℕ) (l : List A) → i < length l → length l ≡ suc (length (without i l))
  length_without i [] h = absurd (omega arith)
  length_without zero (y ∷ l) h = refl
  length_without (suc i) (y ∷ l) h = ap suc (length_without i l (omega arith))

  pub without-behind : (p q : List A) (i : ℕ) → without (length p + i) (p ++ q) ≡ p ++ without i q
  without-behind [] q i = rw zero-add refl
  without-behind (y ∷ p) q i = rw suc-add (ap {B = List A} (λ l. y ∷ l) (without-behind p q i))

pub map-without : {A : Type 0} (f : A → ℕ) (i : ℕ) (l : List A) → map f (without i l) ≡ without i (map f l)
map-without f i [] = refl
map-without f zero (y ∷ l) = refl
map-without f (suc i) (y ∷ l) = ap {B = List ℕ} (λ m. f y ∷ m) (map-without f i l)

-- ---- closing a gap by a copy of what stands behind it
without-parts : {A : Type 0} (i : ℕ) (l : List A) → i < length l → take i l ++ drop (suc i) l ≡ without i l
without-parts i [] h = absurd (omega arith)
without-parts zero (y ∷ l) h = refl
without-parts {A} (suc i) (y ∷ l) h = ap {B = List A} (λ m. y ∷ m) (without-parts i l (omega arith))

pub closed_by_copy : (i n : ℕ) (l : List ℕ) → i < n → n ≤ length l → copy_within l (i + 1) n i ≡ closed_up i n l
closed_by_copy i n l h k =
    let r = n - (i + 1) in
    let e : i < length (take n l) = rw (length-take-le n l k) h in
    let f : suc i + r ≡ n = omega arith in
    let g : i + r ≡ n - 1 = omega arith in
    let behind = rw f at (drop-take (suc i) r l) in
    rw (g, ← without-parts i (take n l) e, take-take i n l (omega arith), behind, add-one) refl

pub length-closed : (i n : ℕ) (l : List ℕ) → i < n → n ≤ length l → length (closed_up i n l) ≡ length l
length-closed i n l h k =
    let e : i < length (take n l) = rw (length-take-le n l k) h in
    rw (length-append, length-drop) (omega (arith, length_without i (take n l) e, length-take-le n l k))

-- ---- a search and a sum, in the words of std
pub place-is : (x : ℕ) (l : List ℕ) → place_of x l ≡ position_or_len (λ n. n == x) l
place-is x l =
    is_position_or_len (place_of x) (λ n. n == x) refl
    (λ y m. let e : suc (place_of x m) ≡ 1 + place_of x m = omega arith in ap (cond (y == x) zero) e) l

from-sum : (l : List ℕ) (sum : ℕ) → sum < 2 ^ 64 → fold (λ s n. (s + n) % 2 ^ 64) sum l ≡ (sum + added l) % 2 ^ 64
from-sum [] sum h = omega arith
from-sum (n ∷ l) sum h = from-sum l ((sum + n) % 2 ^ 64) (omega arith) ∙ omega arith

pub added_by_fold : (l : List ℕ) → fold (λ s n. (s + n) % 2 ^ 64) 0 l ≡ added l % 2 ^ 64
added_by_fold l = from-sum l 0 (omega arith) ∙ ap (λ n. n % 2 ^ 64) (zero-add (added l))
