-- What is read and written, text after text. Assumes nothing.
use Prim.Native.Nat.{ℕ, ◌+◌, ◌<◌}
use mathlib.Core.Path.{◌≡◌, refl, ap, sym, ◌∙◌, subst}
use mathlib.Core.Bool.{Bool, true, false}
use mathlib.Core.List.{List, [], ◌++◌, append-nil}
use native.Mathlib.Omega.{arith}
use lib.ListN.{length, take, drop, length-append}
use lib.Seq.{take_at, take-take}
use Rattle.std.proofs.Common.{Option, None, Some, IfSome}
use Rattle.std.specs.Bool.{OnTrue, OnFalse}
use Rattle.std.specs.Io.KnownBytes.{Appends, Consumes, IsAtEnd}
use Rattle.std.proofs.KnownBytes.{Appends-nil, Appends-trans, Consumes-nil, Consumes-trans}
use Rattle.basis.specs.Basis.{Basis}
use Rattle.reply_text.specs.Put.{Put}
use Rattle.enquiry_lines.specs.Lines.{ended, unfinished, last_line, lines_of, replies}
use Rattle.enquiry_lines.specs.State.{pending_of, empty_after, kept, Sound}
use Rattle.enquiry_lines.specs.declared.Pending.{Pending}
use Rattle.enquiry_lines.proofs.State.{pending-is}
use Rattle.enquiry_lines.proofs.Parting.{Left, left-next, said-next, replies-parts, alike-last}
use Rattle.points.specs.Blocks.{TextAnswered, BlockAnswered, BlocksAnswered}
use Rattle.points.specs.declared.Turn.{Turn}
use Rattle.outcome.specs.declared.Refusal.{Refusal}
use Rattle.outcome.specs.Outcome.{passed, refused_by, finding}
use Rattle.layout.specs.Layout.{run_length, form_of_file}
use Rattle.history.specs.History.{basis_with}
use Rattle.enquiry_lines.specs.Output.{output_of, Opened}
use Rattle.enquiry_lines.specs.declared.Opening.{Opening}
use Rattle.enquiry_lines.proofs.Printed.{accepted-output, refused-output}

-- ---- facts on a flag, and on bytes that may be known
pub on-true : {P Q : Type 0} (b : Bool) → (P → Q) → OnTrue b P → OnTrue b Q
on-true true f p = f p
on-true false f p = tt

pub at-true : {P : Type 0} (b : Bool) → b ≡ true → OnTrue b P → P
at-true {P} b e p = subst (λ x. OnTrue x P) e p

pub at-false : {P : Type 0} (b : Bool) → b ≡ false → OnFalse b P → P
at-false {P} b e p = subst (λ x. OnFalse x P) e p

each : {P Q : List ℕ → Type 0} (known : Option (List ℕ)) → ((text : List ℕ) → P text → Q text) → IfSome known P → IfSome known Q
each None f p = tt
each (Some text) f p = f text p

every : {Q : List ℕ → Type 0} (known : Option (List ℕ)) → ((text : List ℕ) → Q text) → IfSome known Q
every None f = tt
every (Some text) f = f text

-- what is put in front of a buffer is its front
pub front : {out text after : List ℕ} {r : ℕ} → Put out 0 text after r → take r after ≡ text
front {out} {text} {after} {r} p = ap (take r) p.all ∙ take_at text (drop (0 + length text) out) r (omega (arith, p.next))

module _ (basis : Basis) where
  -- no text at all
  pub nothing : (given held : Option (List ℕ)) → TextAnswered basis (empty_after 0) given given held held (empty_after 0) []
  unfolding ended unfinished replies pending_of
  nothing given held = record { read = Consumes-nil given; written = Appends-nil held; begun = refl }

  module _ {s next : Pending} {given left held holds : Option (List ℕ)} {text : List ℕ} (t : TextAnswered basis s given left held holds next text) where
    leaves : Left (kept s) s.complete text (kept next) next.complete
    unfolding pending_of
    leaves = rw t.begun (record { begun = take_at (take 16 (unfinished (kept s) text)) _ _ refl; complete = refl })

  -- one text, then another
  pub then : {s next last : Pending} {given left rest held holds more : Option (List ℕ)} {text further : List ℕ} →
      TextAnswered basis s given left held holds next text → TextAnswered basis next left rest holds more last further → Sound last →
      TextAnswered basis s given rest held more last (text ++ further)
  then {s} {last = last} {given} {left} {rest} {held} {holds} {more} {text} {further} t u sound =
      let both = left-next (leaves t) further (leaves u) in
      record {
        read = Consumes-trans given left rest text further t.read u.read;
        written = subst (Appends held more) (said-next (leaves t) further basis) (Appends-trans held holds more _ _ t.written u.written);
        begun = pending-is _ _ last sound both.begun both.complete;
      }

  -- the whole text: of a last line its first 16 bytes are enough
  module _ {next : Pending} {given left held holds : Option (List ℕ)} {text : List ℕ} (t : TextAnswered basis (empty_after 0) given left held holds next text) where
    last-reply : replies basis 1 (ended [] text) ++ replies basis (next.complete + 1) (last_line (kept next)) ≡ replies basis 1 (lines_of text)
    unfolding lines_of
    last-reply =
        let u = unfinished [] text in
        let n : next.complete + 1 ≡ 1 + length (ended [] text) = omega (arith, (leaves t).complete) in
        let alike = ap (take 16) (leaves t).begun ∙ take-take 16 16 u (omega arith) in
        let last = alike-last basis _ (kept next) u alike ∙ ap (λ k. replies basis k (last_line u)) n in
        ap (λ l. replies basis 1 (ended [] text) ++ l) last ∙ sym (replies-parts basis 1 (ended [] text) (last_line u))

    with-last : (more : Option (List ℕ)) → Appends holds more (replies basis (next.complete + 1) (last_line (kept next))) →
        Appends held more (replies basis 1 (lines_of text))
    with-last more a = subst (Appends held more) last-reply (Appends-trans held holds more _ _ t.written a)

-- a reader of fewer bytes than so many is at its end, and has given them all
whole : (given left : Option (List ℕ)) (text : List ℕ) (most : ℕ) → Consumes given left text → (length text < most → IsAtEnd left)
    → IfSome given (λ all. length all < most → text ≡ all)
whole None left text most c e = tt
whole (Some xs) None text most c e = absurd c
whole (Some xs) (Some ys) text most c e = λ few.
    let long = ap length c ∙ length-append text ys in
    sym (c ∙ ap (λ l. text ++ l) (e (omega (arith, long))) ∙ append-nil text)

-- what is so of a text is so of the bytes that are known
known : (given : Option (List ℕ)) (text : List ℕ) (most : ℕ) (P : List ℕ → Type 0) → IfSome given (λ all. length all < most → text ≡ all) → P text
    → IfSome given (λ all. length all < most → P all)
known None text most P e p = tt
known (Some xs) text most P e p = λ few. subst P (e few) p

-- ---- what the functions promise
-- the reader is at its end behind the last block
pub last-block : {basis : Basis} {given left rest held holds more : Option (List ℕ)} {s : Pending} {text part room : List ℕ} {turn : Turn} →
    TextAnswered basis (empty_after 0) given left held holds s text → Sound turn.pending → turn.is_last ≡ true → length part ≡ length room →
    BlockAnswered basis s room left rest holds more turn → BlocksAnswered basis part given rest held more turn.pending
last-block {basis} {text = text} t sound is same block = record {
  text = text ++ block.text;
  answered = then basis t block.answered sound;
  all = λ some few. at-true _ is block.last (omega (arith, some));
}

-- the replies to all lines, the last one too, where that is written
pub all-answered : {basis : Basis} (given left held holds more : Option (List ℕ)) {part : List ℕ} {next : Pending} {text : List ℕ} (flag : Bool) →
    BlocksAnswered basis part given left held holds next → OnTrue flag (Appends holds more text) → text ≡ replies basis (next.complete + 1) (last_line (kept next)) →
    OnTrue flag (0 < length part → IfSome given (λ text. length text < 1000000000000000 → Appends held more (replies basis 1 (lines_of text))))
all-answered {basis} given left held holds more {part} flag b a e =
    on-true {Q = 0 < length part → IfSome given (λ text. length text < 1000000000000000 → Appends held more (replies basis 1 (lines_of text)))} flag
    (λ w some. known given b.text 1000000000000000 (λ text. Appends held more (replies basis 1 (lines_of text)))
    (whole given left b.text 1000000000000000 b.answered.read (b.all some)) (with-last basis b.answered more (subst (Appends holds more) e w)))
    a

module _ {file history room out run after : List ℕ} {r : Opening} (o : Opened file history room out run after r) (given held holds : Option (List ℕ)) (flag : Bool) where
  pub refused-answered : (x : Refusal) → finding r.check ≡ refused_by x → OnTrue flag (Appends held holds (take r.at after)) →
      OnTrue flag (IfSome given (λ text. length text < 1000000000000000 → Appends held holds (output_of file history text)))
  refused-answered x told a =
      on-true {Q = IfSome given (λ text. length text < 1000000000000000 → Appends held holds (output_of file history text))} flag
      (λ w. every {Q = λ text. length text < 1000000000000000 → Appends held holds (output_of file history text)} given
      (λ text few. subst (Appends held holds) (front o.put ∙ refused-output o text x told) w))
      a

  pub accepted-answered : (more : Option (List ℕ)) → finding r.check ≡ passed → (n : ℕ) → n ≡ run_length (form_of_file (length file)) → Appends held holds (take r.at after) →
      (long : ℕ) → 0 < long →
      OnTrue flag (0 < long → IfSome given (λ text. length text < 1000000000000000 → Appends holds more (replies (basis_with (take n run) history) 1 (lines_of text)))) →
      OnTrue flag (IfSome given (λ text. length text < 1000000000000000 → Appends held more (output_of file history text)))
  accepted-answered more told n k a long some answered =
      on-true {Q = IfSome given (λ text. length text < 1000000000000000 → Appends held more (output_of file history text))} flag
      (λ known. each {P = λ text. length text < 1000000000000000 → Appends holds more (replies (basis_with (take n run) history) 1 (lines_of text))}
      {Q = λ text. length text < 1000000000000000 → Appends held more (output_of file history text)} given
      (λ text rest few. subst (Appends held more) (accepted-output o text told n k) (Appends-trans held holds more _ _ (subst (Appends held holds) (front o.put) a) (rest few)))
      (known some))
      answered
