-- A list filled from another one, place by place.
use mathlib.Core.Path.{◌≡◌, refl, ap}
use mathlib.Core.List.{List, [], ◌∷◌, ◌++◌, map}
use Prim.Native.Nat.{ℕ, zero, suc, ◌+◌, ◌<◌}
use native.Mathlib.Numerals.{add-one}
use native.Mathlib.Nat.{not-suc-le-zero, le_of_suc-le-suc}
use lib.ListN.{length, get_or, set, take, drop}

module _ {X Y : Type 0} (f : X → Y) where
  filled : (xs : List X) (ys : List Y) (i : ℕ) (z : X) → i < length xs → i < length ys
      → set (map f (take i xs) ++ drop i ys) i (f (get_or xs i z)) ≡ map f (take (suc i) xs) ++ drop (suc i) ys
  filled [] ys i z h k = absurd (not-suc-le-zero h)
  filled (x ∷ xs) [] i z h k = absurd (not-suc-le-zero k)
  filled (x ∷ xs) (y ∷ ys) zero z h k = refl
  filled (x ∷ xs) (y ∷ ys) (suc i) z h k = ap (λ (rest : List Y). f x ∷ rest) (filled xs ys i z (le_of_suc-le-suc h) (le_of_suc-le-suc k))

  -- one place more is filled
  pub filled_turn : (xs : List X) (ys : List Y) {i : ℕ} {now : List Y} {y : Y} (z : X) → now ≡ map f (take i xs) ++ drop i ys
      → i < length xs → i < length ys → y ≡ f (get_or xs i z) → set now i y ≡ map f (take (i + 1) xs) ++ drop (i + 1) ys
  filled_turn xs ys {i} z h l k e = rw (h, e, add-one) (filled xs ys i z l k)
