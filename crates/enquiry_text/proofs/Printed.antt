-- Nothing but a printed question is accepted: a line that reads as an enquiry is that enquiry's question, printed. Assumes nothing.
use Prim.Native.Nat.{ℕ, zero, suc, ◌+◌, ◌*◌, ◌-◌, ◌/◌, ◌%◌, ◌≤◌, ◌<◌}
use mathlib.Core.Path.{◌≡◌, refl, ap, sym, ◌∙◌}
use mathlib.Core.Bool.{Bool, true, false, cond}
use mathlib.Core.List.{List, [], ◌∷◌, ◌++◌, append_assoc, append-nil}
use native.Mathlib.Omega.{arith}
use lib.Dec.{ltb, eqb}
use lib.ListN.{length, get_or, length-append}
use borrow.Author.Tests.{eq-eqb, ne_eqb, le-ltb, ltb-false, eqb-true}
use Rattle.outcome.specs.declared.Refusal.{Refusal}
use Rattle.outcome.specs.Outcome.{Outcome, value, refused}
use Rattle.question.specs.declared.Question.{Question}
use Rattle.reply_text.specs.Decimal.{digits, places_from, digits_of}
use Rattle.reply_text.specs.Reply.{question_text}
use Rattle.reply_text.proofs.Numerals.{ten, places-exact}
use Rattle.enquiry_text.specs.Line.{Reading, numeral, other, words_from, digits_from, is_padded, number_of, malformed, enquiry_of, line_of}
use Rattle.enquiry_text.proofs.Words.{three, line-is, words-some}
use Rattle.enquiry_text.specs.Said.{FourDigits}

-- ---- a word that is a number
never : (n : ℕ) → other ≡ numeral n → ⊥
never n p = let z : ◌≡◌ {A = ℕ} 0 1 = cc in omega arith

unless : (t : Bool) (x : Reading) (n : ℕ) → cond t other x ≡ numeral n → (t ≡ false) × (x ≡ numeral n)
unless true x n h = absurd (never n h)
unless false x n h = (refl, h)

record Digit (v d : ℕ) (w : List ℕ) (n : ℕ) : Type 0 where
  low : 48 ≤ d
  high : d ≤ 57
  more : digits_from (10 * v + (d - 48)) w ≡ numeral n

digit-is : (v d : ℕ) (w : List ℕ) (n : ℕ) → digits_from v (d ∷ w) ≡ numeral n → Digit v d w n
unfolding digits_from
digit-is v d w n h =
    let a = unless (ltb d 48) (cond (ltb 57 d) other (digits_from (10 * v + (d - 48)) w)) n h in
    let b = unless (ltb 57 d) (digits_from (10 * v + (d - 48)) w) n a.1 in
    record { low = ltb-false d 48 a.0; high = ltb-false 57 d b.0; more = b.1 }

value-is : (v n : ℕ) → digits_from v [] ≡ numeral n → v ≡ n
unfolding digits_from
value-is v n h = cc

put_last : (k v d : ℕ) → 48 ≤ d → d ≤ 57 → digits (suc k) (10 * v + (d - 48)) ≡ digits k v ++ d ∷ []
unfolding digits
put_last k v d l h =
    let e : (10 * v + (d - 48)) / 10 ≡ v = omega arith in
    let f : 48 + (10 * v + (d - 48)) % 10 ≡ d = omega arith in
    rw (e, f) refl

spell : (w : List ℕ) (v k n : ℕ) → digits_from v w ≡ numeral n → digits (length w + k) n ≡ digits k v ++ w
spell [] v k n h =
    let e : 0 + k ≡ k = omega arith in
    rw (e, append-nil (digits k v)) (ap (digits k) (sym (value-is v n h)))
spell (d ∷ w) v k n h =
    let g = digit-is v d w n h in
    let e : suc (length w) + k ≡ length w + suc k = omega arith in
    rw e (spell w (10 * v + (d - 48)) (suc k) n g.more ∙ ap (λ l. l ++ w) (put_last k v d g.low g.high) ∙ append_assoc (digits k v) (d ∷ []) w)

most : (w : List ℕ) (v k n : ℕ) → digits_from v w ≡ numeral n → v < ten k → n < ten (length w + k)
most [] v k n h l = let e : 0 + k ≡ k = omega arith in rw e (omega (arith, value-is v n h))
most (d ∷ w) v k n h l =
    let g = digit-is v d w n h in
    let e : suc (length w) + k ≡ length w + suc k = omega arith in
    rw e (most w (10 * v + (d - 48)) (suc k) n g.more (omega (arith, g.high)))

least : (w : List ℕ) (v k n : ℕ) → digits_from v w ≡ numeral n → ten k ≤ v → ten (length w + k) ≤ n
least [] v k n h l = let e : 0 + k ≡ k = omega arith in rw e (omega (arith, value-is v n h))
least (d ∷ w) v k n h l =
    let g = digit-is v d w n h in
    let e : suc (length w) + k ≡ length w + suc k = omega arith in
    rw e (least w (10 * v + (d - 48)) (suc k) n g.more (omega arith))

ten-four : (k : ℕ) → k < 4 → ten (suc k) ≤ 10000
ten-four zero h = omega arith
ten-four (suc zero) h = omega arith
ten-four (suc (suc zero)) h = omega arith
ten-four (suc (suc (suc zero))) h = omega arith
ten-four (suc (suc (suc (suc k)))) h = absurd (omega arith)

-- a first digit is no needless zero
first : (a : ℕ) (w : List ℕ) → is_padded (a ∷ w) ≡ false → 0 < length w → a ≡ 48 → ⊥
first a w h l e = let z : true ≡ false = sym (simp (le-ltb (suc (length w)) 2 (omega arith), eq-eqb a 48 e)) ∙ h in let y : ◌≡◌ {A = ℕ} 0 1 = cc in omega arith

low : (a : ℕ) (w : List ℕ) → 48 ≤ a → is_padded (a ∷ w) ≡ false → 0 < length w → ten 0 ≤ 10 * 0 + (a - 48)
low a w l h z = let ne = first a w h z in omega arith

number-printed : (w : List ℕ) (n : ℕ) → number_of w ≡ numeral n → (n < 10000) × (w ≡ digits_of n) × (length w ≤ 4)
unfolding number_of digits_of digits
number-printed [] n h = absurd (never n h)
number-printed (a ∷ w) n h =
    let k = length w in
    let read = cond (is_padded (a ∷ w)) other (digits_from 0 (a ∷ w)) in
    let u = unless (eqb (suc k) 0) (cond (ltb 4 (suc k)) other read) n h in
    let x = unless (ltb 4 (suc k)) read n u.1 in
    let y = unless (is_padded (a ∷ w)) (digits_from 0 (a ∷ w)) n x.1 in
    let l : suc k ≤ 4 = ltb-false 4 (suc k) x.0 in
    let g = digit-is 0 a w n y.1 in
    let e : suc k + 0 ≡ suc k = omega arith in
    let f : k + 0 ≡ k = omega arith in
    let hi : n < ten (suc k) = rw e at (most (a ∷ w) 0 0 n y.1 (omega arith)) in
    let lo : 0 < k → ten k ≤ n = (λ z. rw f at (least w (10 * 0 + (a - 48)) 0 n g.more (low a w g.low y.0 z))) in
    let p : places_from 19 n ≡ suc k = places-exact 19 k n (omega arith) lo hi in
    let spelt = ap (λ k. digits k n) (p ∙ sym e) ∙ spell (a ∷ w) 0 0 n y.1 in
    (omega (arith, hi, ten-four k (omega arith)), sym spelt, l)

-- ---- words with single spaces between
abbrev joined : List (List ℕ) → List ℕ
joined [] = []
joined (w ∷ []) = w
joined (w ∷ v ∷ ws) = w ++ 32 ∷ joined (v ∷ ws)

joined-more : (w : List ℕ) (ws : List (List ℕ)) → 1 ≤ length ws → joined (w ∷ ws) ≡ w ++ 32 ∷ joined ws
joined-more w [] h = absurd (omega arith)
joined-more w (v ∷ ws) h = refl

-- the words of a text make it up again
joined_words : (w s : List ℕ) → joined (words_from w s) ≡ w ++ s
unfolding words_from
joined_words w [] = sym (append-nil w)
joined_words w (b ∷ s) = by (eqb b 32) refl (joined_words [] s) (joined_words (w ++ b ∷ []) s)
  where
    by : (t : Bool) → eqb b 32 ≡ t → joined (words_from [] s) ≡ s → joined (words_from (w ++ b ∷ []) s) ≡ (w ++ b ∷ []) ++ s →
        joined (cond t (w ∷ words_from [] s) (words_from (w ++ b ∷ []) s)) ≡ w ++ b ∷ s
    by true e h k = rw (eqb-true b 32 e) (joined-more w (words_from [] s) (words-some [] s) ∙ ap (λ r. w ++ 32 ∷ r) h)
    by false e h k = k ∙ append_assoc w (b ∷ []) s

-- ---- a line that is a question
wrong : {r : Refusal} (q : Question) → refused r ≡ value q → ⊥
wrong {r} q p = let z : ◌≡◌ {A = ℕ} 0 1 = cc in omega arith

record Numbers (x y z : Reading) (q : Question) : Type 0 where
  age : x ≡ numeral q.age
  deferment : y ≡ numeral q.deferment
  year : z ≡ numeral q.year

numbers : (number : ℕ) (x y z : Reading) (q : Question) → enquiry_of number x y z ≡ value q → Numbers x y z q
numbers number (numeral a) (numeral b) (numeral c) q h =
    let e : ◌≡◌ {A = Question} (record { age = a; deferment = b; year = c }) q = cc in
    record { age = ap (λ p. numeral p.age) e; deferment = ap (λ p. numeral p.deferment) e; year = ap (λ p. numeral p.year) e }
numbers number (numeral a) (numeral b) other q h = absurd (wrong q h)
numbers number (numeral a) other z q h = absurd (wrong q h)
numbers number other y z q h = absurd (wrong q h)

pub record Printed (text : List ℕ) (q : Question) : Type 0 where
  pub printed : text ≡ question_text q
  pub digits : FourDigits q
  pub short : length text ≤ 14

printed-words : (number : ℕ) (ws : List (List ℕ)) (q : Question) → three number ws ≡ value q → Printed (joined ws) q
unfolding question_text
printed-words number [] q h = absurd (wrong q h)
printed-words number (a ∷ []) q h = absurd (wrong q h)
printed-words number (a ∷ b ∷ []) q h = absurd (wrong q h)
printed-words number (a ∷ b ∷ c ∷ []) q h =
    let n = numbers number (number_of a) (number_of b) (number_of c) q h in
    let x = number-printed a q.age n.age in
    let y = number-printed b q.deferment n.deferment in
    let z = number-printed c q.year n.year in
    record {
      printed = rw (← x.1, ← y.1, ← z.1) (simp append_assoc);
      digits = record { age = x.0; deferment = y.0; year = z.0 };
      short = simp length-append (omega (arith, x.2, y.2, z.2));
    }
printed-words number (a ∷ b ∷ c ∷ d ∷ ws) q h = absurd (wrong q (rw (ne_eqb (length (a ∷ b ∷ c ∷ d ∷ ws)) 3 (λ z. omega arith)) at h))

-- A line that reads as an enquiry is its question, printed, and four digits hold each of its numbers: at most 14 bytes.
pub enquiry-printed : (number : ℕ) (text : List ℕ) (q : Question) → line_of number text ≡ value q → Printed text q
enquiry-printed number text q h = rw (joined_words [] text) at (printed-words number (words_from [] text) q (line-is number text ∙ h))

-- ---- a line that is none
refused-words : (number : ℕ) (t : Bool) (x y z : Reading) (r : Refusal) →
    cond t (enquiry_of number x y z) (malformed number) ≡ refused r → refused r ≡ malformed number
refused-words number false x y z r h = sym h
refused-words number true other y z r h = sym h
refused-words number true (numeral a) other z r h = sym h
refused-words number true (numeral a) (numeral b) other r h = sym h
refused-words number true (numeral a) (numeral b) (numeral c) r h = absurd (wrong _ (sym h))

-- What is refused is malformed.
pub refused-malformed : (number : ℕ) (text : List ℕ) (r : Refusal) → line_of number text ≡ refused r → refused r ≡ malformed number
refused-malformed number text r h = let w = words_from [] text in
    refused-words number (eqb (length w) 3) (number_of (get_or w 0 [])) (number_of (get_or w 1 [])) (number_of (get_or w 2 [])) r (line-is number text ∙ h)

-- A line of more than 14 bytes is malformed.
pub long-malformed : (number : ℕ) (text : List ℕ) → 14 < length text → line_of number text ≡ malformed number
long-malformed number text l = by (line_of number text) refl
  where
    by : (o : Outcome Question) → line_of number text ≡ o → o ≡ malformed number
    by (value q) h = absurd (omega (arith, (enquiry-printed number text q h).short))
    by (refused r) h = refused-malformed number text r h
