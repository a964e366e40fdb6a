-- The laws of digits: how many there are, and what the foremost is not. Assumes nothing.
use Prim.Native.Nat.{ℕ, zero, suc, ◌+◌, ◌*◌, ◌/◌, ◌%◌, ◌^◌, max, ◌≤◌, ◌<◌}
use mathlib.Core.Path.{◌≡◌, refl, ap, sym, ◌∙◌}
use mathlib.Core.Bool.{Bool, true, false, cond}
use mathlib.Core.List.{[], ◌∷◌}
use native.Mathlib.Omega.{arith}
use native.Mathlib.Numerals.{add-one, unary_clauses}
use lib.Dec.{ltb}
use lib.ListN.{length, get_or, length-append, get_or-append}
use borrow.Author.Tests.{lt-ltb, le-ltb, ltb-true}
use Rattle.reply_text.specs.Decimal.{digits, places_from}

-- a power of ten
abbrev pub ten : ℕ → ℕ
ten zero = 1
ten (suc k) = 10 * ten k

ten-positive : (k : ℕ) → 1 ≤ ten k
ten-positive zero = omega arith
ten-positive (suc k) = let h = ten-positive k in omega arith

-- ---- how many
pub digits-length : (k n : ℕ) → length (digits k n) ≡ k
unfolding digits
digits-length zero n = refl
digits-length (suc k) n = rw (length-append, digits-length k (n / 10)) (omega arith)

pub places-small : (f n : ℕ) → n < 10 → places_from f n ≡ 1
unfolding places_from
places-small zero n h = refl
places-small (suc f) n h = simp (lt-ltb _ _ h)

pub places-more : (f n : ℕ) → 10 ≤ n → places_from (suc f) n ≡ suc (places_from f (n / 10))
unfolding places_from
places-more f n h = simp (le-ltb _ _ h)

pub places-exact : (f k n : ℕ) → k ≤ f → (0 < k → ten k ≤ n) → n < ten (suc k) → places_from f n ≡ suc k
places-exact f zero n l lo hi = places-small f n (omega arith)
places-exact zero (suc j) n l lo hi = absurd (omega arith)
places-exact (suc g) (suc j) n l lo hi =
    let p = ten-positive j in
    let m : ten (suc j) ≤ n = lo (omega arith) in
    places-more g n (omega arith) ∙ ap suc (places-exact g j (n / 10) (omega arith) (λ z. omega arith) (omega arith))

ten-is : (k : ℕ) → ten k ≡ 10 ^ k
ten-is zero = refl
ten-is (suc k) = let e = ten-is k in simp unary_clauses (omega arith)

ten-suc-le : (n m k : ℕ) → m ≡ max n 1 → 10 ^ k ≤ m → 0 < k → ten k ≤ n
ten-suc-le n m zero e l h = absurd (omega arith)
ten-suc-le n m (suc k) e l h = let t = ten-is (suc k) in let p = ten-positive k in omega arith

-- by the logarithm to base 10; 0 has one place too
pub places-log : (n m k : ℕ) → m ≡ max n 1 → 10 ^ k ≤ m → m < 10 * 10 ^ k → k < 20 → k + 1 ≡ places_from 19 n
places-log n m k e l h b =
    let t = ten-is k in
    let p = ten-positive k in
    add-one k ∙ sym (places-exact 19 k n (omega arith) (λ z. ten-suc-le n m k e l z) (omega arith))

pub places-hold : (f n : ℕ) → n < ten (suc f) → n < ten (places_from f n)
unfolding places_from
places-hold zero n h = h
places-hold (suc f) n h = by (ltb n 10) refl (places-hold f (n / 10) (omega arith))
  where
    by : (t : Bool) → ltb n 10 ≡ t → n / 10 < ten (places_from f (n / 10)) → n < ten (cond t 1 (suc (places_from f (n / 10))))
    by true e h = omega (arith, ltb-true n 10 e)
    by false e h = omega arith

-- ---- the foremost digit of a number with all its places is no zero
pub no-leading-zero : (k n : ℕ) → ten k ≤ n → n < ten (suc k) → get_or (digits (suc k) n) 0 0 ≡ 48 → ⊥
unfolding digits
no-leading-zero zero n l h e = omega arith
no-leading-zero (suc k) n l h e =
    let z = digits-length (suc k) (n / 10) in
    no-leading-zero k (n / 10) (omega arith) (omega arith) (sym (get_or-append (digits (suc k) (n / 10)) ((48 + n % 10) ∷ []) 0 0 (omega arith)) ∙ e)
