-- The elements of lists that stand one after another. Assumes nothing.
use mathlib.Core.Path.{◌≡◌, ◌∙◌}
use mathlib.Core.List.{List, ◌++◌}
use Prim.Native.Nat.{ℕ, ◌+◌, ◌<◌}
use native.Mathlib.Omega.{arith}
use lib.ListN.{length, get_or, length-append, get_or-append}
use lib.Seq.{get_or-append-add}
use Rattle.little_endian.specs.Bytes.{byte_at}

pub ahead : (xs ys : List ℕ) (i : ℕ) → i < length xs → get_or (xs ++ ys) i 0 ≡ get_or xs i 0
ahead xs ys i h = get_or-append xs ys 0 i h

pub behind : (xs ys : List ℕ) (k i : ℕ) → length xs ≡ k → get_or (xs ++ ys) (k + i) 0 ≡ get_or ys i 0
behind xs ys k i e = rw (← e) (get_or-append-add xs ys i 0)

-- five lists
pub record Parts (s a b c d e : List ℕ) (k m n o : ℕ) : Type 0 where
  pub first : (i : ℕ) → i < k → byte_at s i ≡ byte_at a i
  pub second : (i : ℕ) → i < m → byte_at s (k + i) ≡ byte_at b i
  pub third : (i : ℕ) → i < n → byte_at s (k + m + i) ≡ byte_at c i
  pub fourth : (i : ℕ) → i < o → byte_at s (k + m + n + i) ≡ byte_at d i
  pub fifth : (i : ℕ) → byte_at s (k + m + n + o + i) ≡ byte_at e i

pub parts : (a b c d e : List ℕ) (k m n o : ℕ) → length a ≡ k → length b ≡ m → length c ≡ n → length d ≡ o
    → Parts (a ++ b ++ c ++ d ++ e) a b c d e k m n o
parts a b c d e k m n o la lb lc ld =
    let two : length (a ++ b) ≡ k + m = rw (length-append, la, lb) in
    let three : length (a ++ b ++ c) ≡ k + m + n = rw (length-append, two, lc) in
    let four : length (a ++ b ++ c ++ d) ≡ k + m + n + o = rw (length-append, three, ld) in
    let within : (i : ℕ) → i < k + m + n → byte_at (a ++ b ++ c ++ d ++ e) i ≡ byte_at (a ++ b ++ c) i =
    λ i l. ahead (a ++ b ++ c ++ d) e i (omega arith) ∙ ahead (a ++ b ++ c) d i (omega arith) in
    record {
      first = λ i l. within i (omega arith) ∙ ahead (a ++ b) c i (omega arith) ∙ ahead a b i (omega arith);
      second = λ i l. within (k + i) (omega arith) ∙ ahead (a ++ b) c (k + i) (omega arith) ∙ behind a b k i la;
      third = λ i l. within (k + m + i) (omega arith) ∙ behind (a ++ b) c (k + m) i two;
      fourth = λ i l. ahead (a ++ b ++ c ++ d) e (k + m + n + i) (omega arith) ∙ behind (a ++ b ++ c) d (k + m + n) i three;
      fifth = λ i. behind (a ++ b ++ c ++ d) e (k + m + n + o) i four;
    }
