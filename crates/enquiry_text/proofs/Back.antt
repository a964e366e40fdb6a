-- What is printed reads back: a question, every number of 64 bits, and a result with its nine decimals. Assumes nothing.
use Prim.Native.Nat.{ℕ, zero, suc, ◌+◌, ◌*◌, ◌-◌, ◌/◌, ◌%◌, ◌≤◌, ◌<◌}
use mathlib.Core.Path.{◌≡◌, refl, ap, sym, ◌∙◌}
use mathlib.Core.Bool.{Bool, true, false}
use mathlib.Core.List.{List, [], ◌∷◌, ◌++◌, append_assoc, append-nil}
use native.Mathlib.Omega.{arith}
use native.Mathlib.Nat.{mul_assoc}
use lib.Dec.{ltb}
use lib.ListN.{length, get_or}
use borrow.Author.Tests.{ne_eqb, lt-ltb, le-ltb, ltb-true, ltb-false}
use Rattle.arithmetic.specs.Fraction.{U}
use Rattle.outcome.specs.Outcome.{value}
use Rattle.question.specs.declared.Question.{Question}
use Rattle.reply_text.specs.Ascii.{ascii}
use Rattle.reply_text.specs.Decimal.{digits, places_from, digits_of, decimal_of}
use Rattle.reply_text.specs.Reply.{question_text}
use Rattle.reply_text.proofs.Numerals.{ten, digits-length, places-exact, places-hold, no-leading-zero}
use Rattle.enquiry_text.specs.Line.{numeral, words_from, digits_from, is_padded, number_of, line_of}
use Rattle.enquiry_text.specs.Said.{FourDigits}
use Rattle.enquiry_text.proofs.Words.{three, line-is, Spaceless, last_word, first_word}

-- ---- what digits read as, after those of a
last-digit : (b n : ℕ) (s : List ℕ) → digits_from (b + n / 10) ((48 + n % 10) ∷ s) ≡ digits_from (10 * b + n) s
unfolding digits_from
last-digit b n s =
    let e : 10 * (b + n / 10) + (48 + n % 10 - 48) ≡ 10 * b + n = omega arith in
    rw (le-ltb (48 + n % 10) 48 (omega arith), le-ltb 57 (48 + n % 10) (omega arith)) (ap (λ v. digits_from v s) e)

digits-read : (a k n : ℕ) (s : List ℕ) → n < ten k → digits_from a (digits k n ++ s) ≡ digits_from (ten k * a + n) s
unfolding digits
digits-read a zero n s h = let e : a ≡ 1 * a + n = omega arith in ap (λ v. digits_from v s) e
digits-read a (suc k) n s h =
    let first = digits-read a k (n / 10) ((48 + n % 10) ∷ s) (omega arith) in
    let tens = ap (λ m. digits_from (m + n) s) (sym (mul_assoc 10 (ten k) a)) in
    rw append_assoc (first ∙ last-digit (ten k * a) n s ∙ tens)

digits_value : (a k n : ℕ) → n < ten k → digits_from a (digits k n) ≡ numeral (ten k * a + n)
unfolding digits_from
digits_value a k n h = ap (digits_from a) (sym (append-nil (digits k n))) ∙ digits-read a k n [] h

-- of every number of 64 bits
digits-of-read : (n : ℕ) (s : List ℕ) → n < 18446744073709551616 → digits_from 0 (digits_of n ++ s) ≡ digits_from n s
unfolding digits_of
digits-of-read n s h =
    let p = places_from 19 n in
    digits-read 0 p n s (places-hold 19 n (omega arith)) ∙ ap (λ v. digits_from v s) (nought (ten p))
  where
    nought : (t : ℕ) → t * 0 + n ≡ n
    nought t = omega arith

-- ---- digits are one word
abbrev AllDigits : List ℕ → Type 0
AllDigits [] = Unit {0}
AllDigits (d ∷ w) = (48 ≤ d) × (d ≤ 57) × AllDigits w

one_more : (w : List ℕ) (d : ℕ) → AllDigits w → 48 ≤ d → d ≤ 57 → AllDigits (w ++ d ∷ [])
one_more [] d h l m = (l, m, tt)
one_more (x ∷ w) d h l m = (h.0, h.1, one_more w d h.2 l m)

digits-all : (k n : ℕ) → AllDigits (digits k n)
unfolding digits
digits-all zero n = tt
digits-all (suc k) n = one_more (digits k (n / 10)) (48 + n % 10) (digits-all k (n / 10)) (omega arith) (omega arith)

spaceless : (w : List ℕ) → AllDigits w → Spaceless w
spaceless [] h k l e = elim l [ ]
spaceless (d ∷ w) h zero l e = omega (arith, h.0)
spaceless (d ∷ w) h (suc k) l e = spaceless w h.2 k (omega arith) e

-- ---- a number of four digits
unpadded : (k n : ℕ) → (0 < k → ten k ≤ n) → n < ten (suc k) → is_padded (digits (suc k) n) ≡ false
unpadded zero n lo hi = let z = digits-length (suc zero) n in simp (lt-ltb (length (digits (suc zero) n)) 2 (omega arith))
unpadded (suc j) n lo hi =
    let z = digits-length (suc (suc j)) n in
    let first = no-leading-zero (suc j) n (lo (omega arith)) hi in
    simp (le-ltb (length (digits (suc (suc j)) n)) 2 (omega arith), ne_eqb (get_or (digits (suc (suc j)) n) 0 0) 48 first)

sized : (n k : ℕ) → k < 4 → (0 < k → ten k ≤ n) → n < ten (suc k) → number_of (digits_of n) ≡ numeral n
unfolding digits_of number_of
sized n k l lo hi =
    let z = digits-length (suc k) n in
    let v : ten (suc k) * 0 + n ≡ n = omega arith in
    let size = length (digits (suc k) n) in
    rw (places-exact 19 k n (omega arith) lo hi, ne_eqb size 0 (λ e. omega arith), le-ltb 4 size (omega arith), unpadded k n lo hi)
    (digits_value 0 (suc k) n hi ∙ ap numeral v)

number-back : (n : ℕ) → n < 10000 → number_of (digits_of n) ≡ numeral n
number-back n h = by (ltb n 10) (ltb n 100) (ltb n 1000) refl refl refl
  where
    by : (t u v : Bool) → ltb n 10 ≡ t → ltb n 100 ≡ u → ltb n 1000 ≡ v → number_of (digits_of n) ≡ numeral n
    by true u v e f g = sized n 0 (omega arith) (λ z. omega arith) (omega (arith, ltb-true n 10 e))
    by false true v e f g = sized n 1 (omega arith) (λ z. omega (arith, ltb-false n 10 e)) (omega (arith, ltb-true n 100 f))
    by false false true e f g = sized n 2 (omega arith) (λ z. omega (arith, ltb-false n 100 f)) (omega (arith, ltb-true n 1000 g))
    by false false false e f g = sized n 3 (omega arith) (λ z. omega (arith, ltb-false n 1000 g)) (omega arith)

-- ---- a question
three-words : (a d y : List ℕ) → AllDigits a → AllDigits d → AllDigits y → words_from [] (a ++ 32 ∷ (d ++ 32 ∷ y)) ≡ a ∷ d ∷ y ∷ []
three-words a d y h i j =
    first_word [] a (d ++ 32 ∷ y) (spaceless a h) ∙ ap (λ ws. a ∷ ws) (first_word [] d y (spaceless d i) ∙ ap (λ ws. d ∷ ws) (last_word [] y (spaceless y j)))

-- A question that is printed reads back.
pub question-back : (number : ℕ) (q : Question) → FourDigits q → line_of number (question_text q) ≡ value q
unfolding question_text digits_of
question-back number q s =
    let a = digits_of q.age in
    let d = digits_of q.deferment in
    let y = digits_of q.year in
    let text : question_text q ≡ a ++ 32 ∷ (d ++ 32 ∷ y) = simp append_assoc in
    let words = ap (words_from []) text ∙ three-words a d y (digits-all _ _) (digits-all _ _) (digits-all _ _) in
    let x = number-back q.age s.age in
    let y = number-back q.deferment s.deferment in
    let z = number-back q.year s.year in
    sym (line-is number (question_text q)) ∙ ap (three number) words ∙ rw (x, y, z) refl

-- Every number of 64 bits reads back.
pub digits-back : (n : ℕ) → n < 18446744073709551616 → digits_from 0 (digits_of n) ≡ numeral n
unfolding digits_from
digits-back n h = ap (digits_from 0) (sym (append-nil (digits_of n))) ∙ digits-of-read n [] h

-- ---- a result: whole units, a point, and nine decimals
pub record NineDecimals (v : ℕ) (whole decimals : List ℕ) : Type 0 where
  pub text : decimal_of v ≡ whole ++ ascii "." ++ decimals
  pub units : digits_from 0 whole ≡ numeral (v / U)
  pub nine : length decimals ≡ 9
  pub parts : digits_from 0 decimals ≡ numeral (v % U)
  pub pointless : digits_from 0 (whole ++ decimals) ≡ numeral v

-- A result's digits without the point are the result, and nine of them stand behind the point.
pub decimal-back : (v : ℕ) → v < 18446744073709551616 → NineDecimals v (digits_of (v / U)) (digits 9 (v % U))
unfolding decimal_of
decimal-back v h = record {
  text = refl;
  units = digits-back (v / U) (omega arith);
  nine = digits-length 9 (v % U);
  parts = digits_value 0 9 (v % U) (omega arith) ∙ ap numeral (omega arith);
  pointless =
      digits-of-read (v / U) (digits 9 (v % U)) (omega arith) ∙ digits_value (v / U) 9 (v % U) (omega arith) ∙ ap numeral (omega arith);
}
