-- The laws of a line's words and numbers, by the places at which the code looks. Assumes nothing.
use Prim.Native.Nat.{ℕ, zero, suc, ◌+◌, ◌*◌, ◌-◌, ◌≤◌, ◌<◌, zero-le}
use mathlib.Core.Path.{◌≡◌, refl, ap, sym, ◌∙◌}
use mathlib.Core.Bool.{Bool, true, false, cond}
use mathlib.Core.Logic.{◌⊎◌, inl, inr}
use mathlib.Core.List.{List, [], ◌∷◌, ◌++◌, append_assoc, append-nil}
use native.Mathlib.Omega.{arith}
use lib.Dec.{eqb}
use lib.ListN.{length, get_or, drop, length-append, get_or-append, drop_of_length-le}
use lib.Seq.{drop-cons}
use borrow.Author.Tests.{ne_eqb, lt-ltb, le-ltb, eqb-true, eqb-false}
use denote.Param.Members.{Mut}
use denote.Ref.{Bor}
use Rattle.std.specs.Bool.{MatchBool}
use Rattle.std.specs.Fn.{ComputesKey, Called}
use Rattle.std.specs.List.{IsFirstMatchOrLen}
use Rattle.std.specs.Slice.Iter.{split_rest, split_done, split_callee}
use Rattle.std.specs.declared.slice.Split.{Split}
use Rattle.std.proofs.lemmas.Fn.{always_returns_same}
use Rattle.outcome.specs.Outcome.{Outcome, value}
use Rattle.question.specs.declared.Question.{Question}
use Rattle.enquiry_text.specs.Line.{Reading, numeral, other, words_from, digits_from, number_of, malformed, enquiry_of, line_of}

-- ---- words with no space in them
abbrev pub Spaceless : List ℕ → Type 0
Spaceless w = (k : ℕ) → k < length w → get_or w k 0 ≡ 32 → ⊥

fewer : (d : ℕ) (w : List ℕ) → Spaceless (d ∷ w) → Spaceless w
fewer d w h k l = h (suc k) (omega arith)

pub last_word : (v w : List ℕ) → Spaceless w → words_from v w ≡ (v ++ w) ∷ []
unfolding words_from
last_word v [] h = ap (λ x. x ∷ []) (sym (append-nil v))
last_word v (d ∷ w) h =
    rw (ne_eqb d 32 (h 0 (omega arith))) (last_word (v ++ d ∷ []) w (fewer d w h) ∙ ap (λ x. x ∷ []) (append_assoc v (d ∷ []) w))

pub first_word : (v w s : List ℕ) → Spaceless w → words_from v (w ++ 32 ∷ s) ≡ (v ++ w) ∷ words_from [] s
unfolding words_from
first_word v [] s h = ap (λ x. x ∷ words_from [] s) (sym (append-nil v))
first_word v (d ∷ w) s h =
    rw (ne_eqb d 32 (h 0 (omega arith)))
    (first_word (v ++ d ∷ []) w s (fewer d w h) ∙ ap (λ x. x ∷ words_from [] s) (append_assoc v (d ∷ []) w))

-- ---- a split at spaces has these words left, before and after one is taken
abbrev pub left : {F : Type 0} → Split ℕ F → List (List ℕ)
left s = cond (split_done s) [] (words_from [] (split_rest s))

module _ {F : Type 0} (s : Split ℕ F) where
  pub begins : {text : List ℕ} → split_rest s ≡ text → split_done s ≡ false → words_from [] text ≡ left s
  begins e d = ap (words_from []) (sym e) ∙ sym (ap (λ b. cond b [] (words_from [] (split_rest s))) d)

  pub ended : split_done s ≡ true → left s ≡ []
  ended d = ap (λ b. cond b [] (words_from [] (split_rest s))) d

here : (w s : List ℕ) (b d : ℕ) → get_or (w ++ b ∷ s) (length w) d ≡ b
here [] s b d = refl
here (x ∷ w) s b d = here w s b d

cut : (s w rest : List ℕ) (done : Bool) → MatchBool done (s ≡ w) ((y : ℕ) × (s ≡ w ++ y ∷ rest)) → IsFirstMatchOrLen (λ b. eqb b 32) s (length w) →
    words_from [] s ≡ w ∷ cond done [] (words_from [] rest)
cut s w rest true e h = rw e (last_word [] w (λ k l. eqb-false _ 32 (rw e at (h.0 k 0 zero-le l))))
cut s w rest false e h =
    let y = e.0 in
    let t = w ++ y ∷ rest in
    let long : length w < length t = rw length-append (omega arith) in
    let before : Spaceless w = (λ k l. eqb-false _ 32 (rw (e.1, get_or-append w (y ∷ rest) 0 k l) at (h.0 k 0 zero-le l))) in
    let space : y ≡ 32 = sym (here w rest y 0) ∙ eqb-true _ 32 (rw e.1 at h.1 long 0) in
    ap (words_from []) (e.1 ∙ ap (λ b. w ++ b ∷ rest) space) ∙ first_word [] w rest before

-- a step of the split, by a test of which it is known that it looks for spaces
pub taken : {F : Type 0} {g : Mut F (Bor ℕ × Unit {0}) Bool} (s t : Split ℕ F) {w : List ℕ} →
    (split_done s ≡ false) × MatchBool (split_done t) (split_rest s ≡ w) ((y : ℕ) × (split_rest s ≡ w ++ y ∷ split_rest t))
    × ((p : ℕ → Bool) → ComputesKey g p (split_callee s) → ComputesKey g p (split_callee t) × IsFirstMatchOrLen p (split_rest s) (length w)) →
    ((a : Bor ℕ) (r : Bool) (q : F) → Called g (split_callee s) (a, tt) r q → (r ≡ eqb a.now 32) × (q ≡ split_callee s)) → left s ≡ w ∷ left t
taken {g = g} s t {w} k tests =
    let key = always_returns_same g (λ a r. r ≡ eqb a.0.now 32) (split_callee s) (λ a r q k. tests a.0 r q k) in
    ap (λ b. cond b [] (words_from [] (split_rest s))) k.0 ∙ cut (split_rest s) w (split_rest t) (split_done t) k.1 (k.2 (λ b. eqb b 32) key).1

-- ---- digits
no-digit : (v d : ℕ) (w : List ℕ) → (d < 48) ⊎ (57 < d) → digits_from v (d ∷ w) ≡ other
unfolding digits_from
no-digit v d w (inl h) = simp (lt-ltb _ _ h)
no-digit v d w (inr h) = simp (le-ltb d 48 (omega arith), lt-ltb _ _ h)

module _ (v : ℕ) (w : List ℕ) (i : ℕ) where
  pub digit-none : i < length w → (get_or w i 0 < 48) ⊎ (57 < get_or w i 0) → digits_from v (drop i w) ≡ other
  unfolding digits_from
  digit-none h e = rw (drop-cons w i 0) (no-digit v (get_or w i 0) (drop (suc i) w) e)

  pub digit-next : i < length w → 48 ≤ get_or w i 0 → get_or w i 0 ≤ 57 → digits_from v (drop i w) ≡ digits_from (10 * v + (get_or w i 0 - 48)) (drop (suc i) w)
  unfolding digits_from
  digit-next h e f = rw (drop-cons w i 0) (simp (le-ltb _ _ e, le-ltb _ _ f))

  pub digits-end : length w ≤ i → digits_from v (drop i w) ≡ numeral v
  unfolding digits_from
  digits-end h = rw (drop_of_length-le w {i = i} h) refl

-- what i digits come to, at most
abbrev pub most : ℕ → ℕ
most zero = 0
most (suc i) = 10 * most i + 9

pub most-four : (i : ℕ) → i < 4 → most i ≤ 999
most-four zero h = omega arith
most-four (suc zero) h = omega arith
most-four (suc (suc zero)) h = omega arith
most-four (suc (suc (suc zero))) h = omega arith
most-four (suc (suc (suc (suc i)))) h = absurd (omega arith)

-- ---- a line by its words
abbrev pub three : ℕ → List (List ℕ) → Outcome Question
three number w = cond (eqb (length w) 3) (enquiry_of number (number_of (get_or w 0 [])) (number_of (get_or w 1 [])) (number_of (get_or w 2 []))) (malformed number)

pub line-is : (number : ℕ) (s : List ℕ) → three number (words_from [] s) ≡ line_of number s
unfolding line_of
line-is number s = refl

pub words-some : (w s : List ℕ) → 1 ≤ length (words_from w s)
unfolding words_from
words-some w [] = omega arith
words-some w (b ∷ s) = by (eqb b 32) (words-some [] s) (words-some (w ++ b ∷ []) s)
  where
    by : (t : Bool) → 1 ≤ length (words_from [] s) → 1 ≤ length (words_from (w ++ b ∷ []) s) →
        1 ≤ length (cond t (w ∷ words_from [] s) (words_from (w ++ b ∷ []) s))
    by true h k = omega arith
    by false h k = k

-- a line that has these words
pub line-words : (number : ℕ) (s : List ℕ) {ws : List (List ℕ)} → words_from [] s ≡ ws → three number ws ≡ line_of number s
line-words number s e = ap (three number) (sym e) ∙ line-is number s

-- a word of the first three that is no number, or a word behind them
either : (t : Bool) (x y : Outcome Question) → x ≡ y → y ≡ cond t x y
either true x y e = sym e
either false x y e = refl

module _ (number : ℕ) (s : List ℕ) {a : List ℕ} where
  unasked : (d y : Reading) {ws : List (List ℕ)} → words_from [] s ≡ a ∷ ws → d ≡ number_of (get_or ws 0 []) → y ≡ number_of (get_or ws 1 []) →
      enquiry_of number (number_of a) d y ≡ malformed number → malformed number ≡ line_of number s
  unasked d y {ws} e f g h = either (eqb (length (a ∷ ws)) 3) _ _ (rw (f, g) at h) ∙ line-words number s e

  pub first-none : {ws : List (List ℕ)} → words_from [] s ≡ a ∷ ws → other ≡ number_of a → malformed number ≡ line_of number s
  first-none e x = unasked _ _ e refl refl (rw (← x) refl)

  module _ {d : List ℕ} where
    pub second-none : {ws : List (List ℕ)} {m : ℕ} → words_from [] s ≡ a ∷ d ∷ ws → numeral m ≡ number_of a → other ≡ number_of d →
        malformed number ≡ line_of number s
    second-none e x y = unasked other _ e y refl (rw (← x) refl)

    pub third-none : {y : List ℕ} {ws : List (List ℕ)} {m n : ℕ} → words_from [] s ≡ a ∷ d ∷ y ∷ ws → numeral m ≡ number_of a → numeral n ≡ number_of d →
        other ≡ number_of y → malformed number ≡ line_of number s
    third-none {n = n} e x y z = unasked (numeral n) other e y z (rw (← x) refl)

    pub fourth : {y z : List ℕ} {ws : List (List ℕ)} → words_from [] s ≡ a ∷ d ∷ y ∷ z ∷ ws → malformed number ≡ line_of number s
    fourth {y} {z} {ws} e = sym (simp (ne_eqb (length (a ∷ d ∷ y ∷ z ∷ ws)) 3 (λ z. omega arith))) ∙ line-words number s e

    -- three numbers, and no more
    pub all-three : {y : List ℕ} {m n k : ℕ} → words_from [] s ≡ a ∷ d ∷ y ∷ [] → numeral m ≡ number_of a → numeral n ≡ number_of d → numeral k ≡ number_of y →
        value (record { age = m; deferment = n; year = k }) ≡ line_of number s
    all-three e x y z = rw (← x, ← y, ← z) at (line-words number s e)
