-- A number is worked out from what it stands for: a factor is itself, and a refusal gives its number and its year, which are the quotient
-- and the remainder. Assumes nothing.
use mathlib.Core.Path.{◌≡◌, ◌∙◌, ap, sym, refl}
use mathlib.Core.List.{List, [], ◌∷◌}
use Prim.Native.Nat.{ℕ, suc, ◌+◌, ◌-◌, ◌/◌, ◌%◌, ◌<◌}
use native.Mathlib.Decide.{dec_lt}
use native.Mathlib.Omega.{arith}
use lib.IntN.{ℤ, nat_abs}
use lib.ListN.{length, get_or}
use Rattle.outcome.specs.Outcome.{Outcome, value, refused}
use Rattle.sweep.specs.Encoding.{refused_number, decoded}
use Rattle.sweep.specs.Fixed.{EncodingIsFixed}
use Rattle.sweep.proofs.Numbers.{decoded-factor, decoded-above}

-- ---- a number
abbrev number_of : Outcome ℤ → ℕ
number_of (value z) = nat_abs z
number_of (refused r) = refused_number r.number r.second

number-back : (age n : ℕ) → number_of (decoded age n) ≡ n
number-back age n = by (dec_lt 4_000_000_000 n)
  where
    by : Dec (4_000_000_000 < n) → number_of (decoded age n) ≡ n
    by (no l) = ap number_of (decoded-factor age n (omega arith))
    by (yes l) =
        let whole : refused_number ((n - 4_000_000_000) / 10_000) ((n - 4_000_000_000) % 10_000) ≡ n = omega arith in
        ap number_of (decoded-above age n l) ∙ whole

pub decoded-once : (age m n : ℕ) → decoded age m ≡ decoded age n → m ≡ n
decoded-once age m n h = sym (number-back age m) ∙ ap number_of h ∙ number-back age n

-- ---- a list
-- lists that are equally long and have the same number in each place are the same
pub same_numbers : (xs ys : List ℕ) → length xs ≡ length ys → ((i : ℕ) → i < length xs → get_or xs i 0 ≡ get_or ys i 0) → xs ≡ ys
same_numbers [] [] l h = refl
same_numbers [] (y ∷ ys) l h = absurd (omega arith)
same_numbers (x ∷ xs) [] l h = absurd (omega arith)
same_numbers (x ∷ xs) (y ∷ ys) l h =
    let first : x ≡ y = h 0 (omega arith) in
    let rest = same_numbers xs ys (omega arith) (λ i k. h (suc i) (omega arith)) in
    rw (first, rest) refl

pub encoding-is-fixed : EncodingIsFixed
encoding-is-fixed =
    record {
      number = decoded-once;
      list = λ state numbers others h k.
          same_numbers numbers others (h.size ∙ sym k.size)
          (λ i l. decoded-once (20 + i) _ _ (h.each i (omega (arith, h.size)) ∙ sym (k.each i (omega (arith, h.size)))));
    }
