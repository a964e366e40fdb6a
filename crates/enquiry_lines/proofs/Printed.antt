-- The opening line, the replies to the lines that have ended, and the reply to a last line make the whole output. Assumes nothing.
use Prim.Native.Nat.{ℕ, ◌+◌}
use mathlib.Core.Path.{◌≡◌, refl, ap, sym, ◌∙◌}
use mathlib.Core.List.{List, [], ◌++◌, append-nil}
use native.Mathlib.Omega.{arith}
use lib.ListN.{length, take}
use lib.Seq.{take-take}
use Rattle.outcome.specs.declared.Refusal.{Refusal}
use Rattle.basis.specs.Basis.{Basis}
use Rattle.basis_file.specs.File.{run_in}
use Rattle.outcome.specs.Outcome.{passed, refused_by, finding}
use Rattle.layout.specs.Layout.{run_length, form_of_file}
use Rattle.history.specs.History.{basis_with}
use Rattle.reply_text.specs.Reply.{header_line}
use Rattle.enquiry_lines.specs.Lines.{ended, unfinished, last_line, lines_of, replies}
use Rattle.enquiry_lines.specs.Output.{files_check, printed, output_of, Opened}
use Rattle.enquiry_lines.specs.State.{empty_after, kept, Answered}
use Rattle.enquiry_lines.specs.declared.Fed.{Fed}
use Rattle.enquiry_lines.specs.declared.Opening.{Opening}
use Rattle.enquiry_lines.proofs.Parting.{replies-parts, alike-last}
use Rattle.enquiry_lines.proofs.Opened.{files-passed, opened-run}
use Rattle.enquiry_lines.proofs.State.{left-part}

-- of a last line its first 16 bytes are enough
pub last-reply : {basis : Basis} {text out : List ℕ} {from : ℕ} {after : List ℕ} {r : Fed} → Answered basis (empty_after 0) text out from after r →
    replies basis 1 (ended [] text) ++ replies basis (r.pending.complete + 1) (last_line (kept r.pending)) ≡ replies basis 1 (lines_of text)
unfolding lines_of
last-reply {basis} {text} {r = r} a =
    let u = unfinished [] text in
    let n : r.pending.complete + 1 ≡ 1 + length (ended [] text) = omega (arith, (left-part a).complete) in
    let alike = ap (take 16) (left-part a).begun ∙ take-take 16 16 u (omega arith) in
    let last = alike-last basis _ (kept r.pending) u alike ∙ ap (λ k. replies basis k (last_line u)) n in
    ap (λ l. replies basis 1 (ended [] text) ++ l) last ∙ sym (replies-parts basis 1 (ended [] text) (last_line u))

module _ {file history room out run after : List ℕ} {r : Opening} (o : Opened file history room out run after r) (text : List ℕ) where
  pub accepted-output : finding r.check ≡ passed → (n : ℕ) → n ≡ run_length (form_of_file (length file)) →
      printed (files_check file history) [] ++ replies (basis_with (take n run) history) 1 (lines_of text) ≡ output_of file history text
  unfolding output_of
  accepted-output h n k =
      rw (opened-run o h n k, files-passed o h) (ap (λ line. line ++ replies (basis_with (run_in file) history) 1 (lines_of text)) (append-nil header_line))

  pub refused-output : (x : Refusal) → finding r.check ≡ refused_by x → printed (files_check file history) [] ≡ output_of file history text
  unfolding output_of
  refused-output x h = rw (sym o.checked ∙ h) refl
