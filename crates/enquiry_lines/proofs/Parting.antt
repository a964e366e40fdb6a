-- The laws of a text's lines: a text that comes in two parts, and a line of which only the first 16 bytes are kept. Assumes nothing.
use Prim.Native.Nat.{ℕ, zero, suc, ◌+◌, ◌≤◌}
use mathlib.Core.Path.{◌≡◌, refl, ap, sym, ◌∙◌}
use mathlib.Core.Bool.{Bool, true, false, cond}
use mathlib.Core.List.{List, [], ◌∷◌, ◌++◌, append_assoc, append-nil}
use native.Mathlib.Omega.{arith}
use lib.Dec.{ltb, eqb}
use lib.ListN.{length, take, length-append}
use lib.Seq.{take_all, take-take, length-take-le}
use borrow.Author.Tests.{eq-eqb, ne_eqb, ltb-true, ltb-false}
use Rattle.basis.specs.Basis.{Basis}
use Rattle.enquiry_text.specs.Line.{line_of}
use Rattle.enquiry_text.proofs.Printed.{long-malformed}
use Rattle.enquiry_lines.specs.Lines.{ended, unfinished, last_line, reply_to, replies}

-- ---- one byte: 10, or another
module _ (line : List ℕ) (b : ℕ) where
  pub ended-one : b ≡ 10 → ended line (b ∷ []) ≡ line ∷ []
  unfolding ended
  ended-one e = simp (eq-eqb _ _ e)

  pub ended-none : (b ≡ 10 → ⊥) → ended line (b ∷ []) ≡ []
  unfolding ended
  ended-none e = simp (ne_eqb _ _ e)

  pub unfinished-none : b ≡ 10 → unfinished line (b ∷ []) ≡ []
  unfolding unfinished
  unfinished-none e = simp (eq-eqb _ _ e)

  pub unfinished-more : (b ≡ 10 → ⊥) → unfinished line (b ∷ []) ≡ line ++ b ∷ []
  unfolding unfinished
  unfinished-more e = simp (ne_eqb _ _ e)

-- ---- two parts
pub ended-parts : (line s t : List ℕ) → ended line (s ++ t) ≡ ended line s ++ ended (unfinished line s) t
unfolding ended unfinished
ended-parts line [] t = refl
ended-parts line (b ∷ s) t = by (eqb b 10) (line ++ b ∷ []) (ended-parts [] s t) (ended-parts (line ++ b ∷ []) s t)
  where
    by : (u : Bool) (more : List ℕ) → ended [] (s ++ t) ≡ ended [] s ++ ended (unfinished [] s) t →
        ended more (s ++ t) ≡ ended more s ++ ended (unfinished more s) t →
        cond u (line ∷ ended [] (s ++ t)) (ended more (s ++ t))
        ≡ cond u (line ∷ ended [] s) (ended more s) ++ ended (cond u (unfinished [] s) (unfinished more s)) t
    by true more h k = ap (λ ls. line ∷ ls) h
    by false more h k = k

pub unfinished-parts : (line s t : List ℕ) → unfinished line (s ++ t) ≡ unfinished (unfinished line s) t
unfolding unfinished
unfinished-parts line [] t = refl
unfinished-parts line (b ∷ s) t = by (eqb b 10) (line ++ b ∷ []) (unfinished-parts [] s t) (unfinished-parts (line ++ b ∷ []) s t)
  where
    by : (u : Bool) (more : List ℕ) → unfinished [] (s ++ t) ≡ unfinished (unfinished [] s) t → unfinished more (s ++ t) ≡ unfinished (unfinished more s) t →
        cond u (unfinished [] (s ++ t)) (unfinished more (s ++ t)) ≡ unfinished (cond u (unfinished [] s) (unfinished more s)) t
    by true more h k = h
    by false more h k = k

-- no more lines end than there are bytes
pub ended-few : (line s : List ℕ) → length (ended line s) ≤ length s
unfolding ended
ended-few line [] = omega arith
ended-few line (b ∷ s) = by (eqb b 10) (ended-few [] s) (ended-few (line ++ b ∷ []) s)
  where
    by : (u : Bool) → length (ended [] s) ≤ length s → length (ended (line ++ b ∷ []) s) ≤ length s →
        length (cond u (line ∷ ended [] s) (ended (line ++ b ∷ []) s)) ≤ suc (length s)
    by true h k = omega arith
    by false h k = omega arith

-- how many end does not depend on the first line's beginning
pub ended-count : (line other s : List ℕ) → length (ended line s) ≡ length (ended other s)
unfolding ended
ended-count line other [] = refl
ended-count line other (b ∷ s) = by (eqb b 10) (ended-count (line ++ b ∷ []) (other ++ b ∷ []) s)
  where
    by : (u : Bool) → length (ended (line ++ b ∷ []) s) ≡ length (ended (other ++ b ∷ []) s) →
        length (cond u (line ∷ ended [] s) (ended (line ++ b ∷ []) s)) ≡ length (cond u (other ∷ ended [] s) (ended (other ++ b ∷ []) s))
    by true h = refl
    by false h = h

-- ---- a line of which only the first 16 bytes are kept
abbrev pub Alike : List ℕ → List ℕ → Type 0
Alike line other = take 16 line ≡ take 16 other

cut : (n : ℕ) (line s : List ℕ) → take n (take n line ++ s) ≡ take n (line ++ s)
cut zero line s = refl
cut (suc n) [] s = refl
cut (suc n) (x ∷ line) s = ap (λ r. x ∷ r) (cut n line s)

alike-more : (line other s : List ℕ) → Alike line other → Alike (line ++ s) (other ++ s)
alike-more line other s h = sym (cut 16 line s) ∙ ap (λ l. take 16 (l ++ s)) h ∙ cut 16 other s

-- they read the same: more than 14 bytes are malformed
kept-enough : (n : ℕ) (line : List ℕ) → line_of n line ≡ line_of n (take 16 line)
kept-enough n line = by (ltb 16 (length line)) refl
  where
    by : (u : Bool) → ltb 16 (length line) ≡ u → line_of n line ≡ line_of n (take 16 line)
    by true e =
        let l = ltb-true 16 (length line) e in
        let m = length-take-le 16 line (omega arith) in
        long-malformed n line (omega arith) ∙ sym (long-malformed n (take 16 line) (omega arith))
    by false e = ap (line_of n) (sym (take_all 16 line (ltb-false 16 (length line) e)))

alike_read : (n : ℕ) (line other : List ℕ) → Alike line other → line_of n line ≡ line_of n other
alike_read n line other h = kept-enough n line ∙ ap (line_of n) h ∙ sym (kept-enough n other)

pub alike-unfinished : (line other s : List ℕ) → Alike line other → Alike (unfinished line s) (unfinished other s)
unfolding unfinished
alike-unfinished line other [] h = h
alike-unfinished line other (b ∷ s) h = by (eqb b 10) (alike-unfinished (line ++ b ∷ []) (other ++ b ∷ []) s (alike-more line other (b ∷ []) h))
  where
    by : (u : Bool) → Alike (unfinished (line ++ b ∷ []) s) (unfinished (other ++ b ∷ []) s) →
        Alike (cond u (unfinished [] s) (unfinished (line ++ b ∷ []) s)) (cond u (unfinished [] s) (unfinished (other ++ b ∷ []) s))
    by true k = refl
    by false k = k

-- ---- replies
module _ (basis : Basis) where
  pub reply-alone : (n : ℕ) (line : List ℕ) → replies basis n (line ∷ []) ≡ reply_to basis (line_of n line)
  unfolding replies
  reply-alone n line = append-nil (reply_to basis (line_of n line))

  pub no-replies : (n : ℕ) → replies basis n [] ≡ []
  unfolding replies
  no-replies n = refl

  pub replies-parts : (n : ℕ) (ls ms : List (List ℕ)) → replies basis n (ls ++ ms) ≡ replies basis n ls ++ replies basis (n + length ls) ms
  unfolding replies
  replies-parts n [] ms = let e : n ≡ n + 0 = omega arith in ap (λ k. replies basis k ms) e
  replies-parts n (l ∷ ls) ms =
      let e : suc n + length ls ≡ n + suc (length ls) = omega arith in
      let reply = reply_to basis (line_of n l) in
      let rest = replies-parts (suc n) ls ms ∙ ap (λ k. replies basis (suc n) ls ++ replies basis k ms) e in
      ap (λ r. reply ++ r) rest ∙ sym (append_assoc reply (replies basis (suc n) ls) (replies basis (n + suc (length ls)) ms))

  pub alike-replies : (n : ℕ) (line other s : List ℕ) → Alike line other → replies basis n (ended line s) ≡ replies basis n (ended other s)
  unfolding ended replies
  alike-replies n line other [] h = refl
  alike-replies n line other (b ∷ s) h = by (eqb b 10) (alike-replies n (line ++ b ∷ []) (other ++ b ∷ []) s (alike-more line other (b ∷ []) h))
    where
      by : (u : Bool) → replies basis n (ended (line ++ b ∷ []) s) ≡ replies basis n (ended (other ++ b ∷ []) s) →
          replies basis n (cond u (line ∷ ended [] s) (ended (line ++ b ∷ []) s)) ≡ replies basis n (cond u (other ∷ ended [] s) (ended (other ++ b ∷ []) s))
      by true k = ap (λ x. reply_to basis x ++ replies basis (suc n) (ended [] s)) (alike_read n line other h)
      by false k = k

  pub alike-last : (n : ℕ) (line other : List ℕ) → Alike line other → replies basis n (last_line line) ≡ replies basis n (last_line other)
  alike-last n [] [] h = refl
  alike-last n [] (y ∷ other) h = let e = ap length h in absurd (omega arith)
  alike-last n (x ∷ line) [] h = let e = ap length h in absurd (omega arith)
  alike-last n (x ∷ line) (y ∷ other) h =
      let r : replies basis n ((x ∷ line) ∷ []) ≡ replies basis n ((y ∷ other) ∷ []) =
      reply-alone n (x ∷ line) ∙ ap (reply_to basis) (alike_read n (x ∷ line) (y ∷ other) h) ∙ sym (reply-alone n (y ∷ other)) in
      rw (ne_eqb (length (x ∷ line)) 0 (λ z. omega arith), ne_eqb (length (y ∷ other)) 0 (λ z. omega arith)) r

-- ---- what a part leaves: the first 16 bytes of its last line, and how many lines are complete
pub record Left (line : List ℕ) (n : ℕ) (part line' : List ℕ) (n' : ℕ) : Type 0 where
  pub begun : line' ≡ take 16 (unfinished line part)
  pub complete : n' ≡ n + length (ended line part)

-- ---- Two parts, one after the other, are the whole.
module _ {line : List ℕ} {n : ℕ} {s line' : List ℕ} {n' : ℕ} (h : Left line n s line' n') (t : List ℕ) where
  alike : Alike line' (unfinished line s)
  alike = ap (take 16) h.begun ∙ take-take 16 16 (unfinished line s) (omega arith)

  pub left-next : {line'' : List ℕ} {n'' : ℕ} → Left line' n' t line'' n'' → Left line n (s ++ t) line'' n''
  left-next {line''} {n''} k =
      let e = ap length (ended-parts line s t) ∙ length-append (ended line s) (ended (unfinished line s) t) in
      record {
        begun = k.begun ∙ alike-unfinished line' (unfinished line s) t alike ∙ ap (take 16) (sym (unfinished-parts line s t));
        complete = omega (arith, h.complete, k.complete, e, ended-count line' (unfinished line s) t);
      }

  pub said-next : (basis : Basis) → replies basis (n + 1) (ended line s) ++ replies basis (n' + 1) (ended line' t) ≡ replies basis (n + 1) (ended line (s ++ t))
  said-next basis =
      let m : n' + 1 ≡ n + 1 + length (ended line s) = omega (arith, h.complete) in
      let second = ap (λ k. replies basis k (ended line' t)) m ∙ alike-replies basis (n + 1 + length (ended line s)) line' (unfinished line s) t alike in
      let both = replies-parts basis (n + 1) (ended line s) (ended (unfinished line s) t) in
      ap (λ r. replies basis (n + 1) (ended line s) ++ r) second ∙ sym both ∙ ap (replies basis (n + 1)) (sym (ended-parts line s t))
