-- After i numbers the line starts with the text of the first i. Each takes at most 21 bytes, so all of them fit.
use mathlib.Core.Path.{◌≡◌, refl, ap, ◌∙◌}
use mathlib.Core.Bool.{Bool, true, false, cond}
use mathlib.Core.List.{List, [], ◌∷◌, ◌++◌, append_assoc}
use Prim.Native.Nat.{ℕ, suc, ◌+◌, ◌≤◌}
use native.Mathlib.Omega.{arith}
use lib.Dec.{eqb}
use lib.ListN.{length, get_or}
use borrow.Author.Rules.{rules}
use Rattle.reply_text.specs.Ascii.{ascii}
use Rattle.reply_text.specs.declared.Output.{Output}
use Rattle.reply_text.specs.Decimal.{digits_of}
use Rattle.reply_text.specs.Put.{Puts}
use Rattle.reply_text.proofs.Puts.{nothing, more, written, lent-back, in-zeros}
use Rattle.reply_text.specs.Reply.{by_value}
use Rattle.case_io.specs.Lines.{first_numbers, numbers_line}
use Rattle.case_io.proofs.print_numbers.Goals as goal

-- ---- one number more
one_byte : (last : Bool) → cond last 10 32 ∷ [] ≡ cond last (ascii "\n") (ascii " ")
one_byte true = refl
one_byte false = refl

none : (v : List ℕ) (o : Output) → o.at ≤ length o.out.now → Puts o (first_numbers v 0) o
unfolding first_numbers
none v o h = record { put = nothing o.out.now o.at h; same = refl }

turn : (v : List ℕ) (i s : ℕ) {line next last : Output} → s ≡ cond (eqb (i + 1) (length v)) 10 32
    → Puts line (first_numbers v i) next → Puts next (digits_of (get_or v i 0) ++ s ∷ []) last → Puts line (first_numbers v (i + 1)) last
unfolding first_numbers
turn v i s e p q =
    let next : i + 1 ≡ suc i = omega arith in
    let number = digits_of (get_or v i 0) in
    let joined : first_numbers v i ++ (number ++ s ∷ []) ≡ first_numbers v i ++ number ++ s ∷ [] = simp append_assoc in
    let ended = ap (λ x. x ∷ []) (rw next at e) ∙ one_byte (eqb (suc i) (length v)) in
    rw next (written (joined ∙ ap (λ x. first_numbers v i ++ number ++ x) ended) (more p q))

-- ---- the function
pub loop-i-init : goal.loop-i-init
loop-i-init g c = (omega arith, none _ _ (omega arith))

pub loop-i-preserved : goal.loop-i-preserved
loop-i-preserved g c = (omega arith, turn _ _ _ c.separator.ensures c.loop-i.invariant.1 c.number.ensures.put)

pub returns : goal.returns
unfolding by_value numbers_line
returns g c =
    let all = written (ap (first_numbers _) (omega arith)) c.loop-i.invariant.1 in
    c.print.ensures ∙ in-zeros 192 (lent-back all (search rules))
