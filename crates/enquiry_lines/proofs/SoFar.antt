-- What one byte leaves, and what holds after the first i bytes of a text. Assumes nothing.
use Prim.Native.Nat.{ℕ, ◌+◌, ◌*◌, ◌-◌, ◌≤◌, ◌<◌}
use mathlib.Core.Path.{◌≡◌, refl, ap, sym, ◌∙◌}
use mathlib.Core.List.{List, [], ◌∷◌, ◌++◌}
use native.Mathlib.Omega.{arith}
use native.Mathlib.Numerals.{add-one}
use lib.ListN.{length, get_or, take, drop, set, length-append, length-drop}
use lib.Seq.{take-suc, take-suc-set, take_all, take-append-le, length-take-le, take-add}
use Rattle.enquiry_text.specs.Line.{line_of}
use Rattle.history.specs.History.{basis_with}
use Rattle.reply_text.specs.Put.{Put}
use Rattle.reply_text.proofs.Puts.{nothing, then, being}
use Rattle.enquiry_lines.specs.Lines.{ended, unfinished, reply_to, replies}
use Rattle.enquiry_lines.specs.State.{kept, empty_after, reply_room, Sound, Ready, Answered}
use Rattle.enquiry_lines.specs.declared.Fed.{Fed}
use Rattle.enquiry_lines.specs.declared.Pending.{Pending}
use Rattle.enquiry_lines.proofs.State.{kept-length, sound_empty, sound-grows, pending-is, left-sound, left-part}
use Rattle.enquiry_lines.proofs.Parting.{Left, left-next, said-next, ended-one, ended-none, ended-few, unfinished-none, unfinished-more}
use Rattle.enquiry_lines.proofs.Parting.{no-replies, reply-alone}

-- ---- one byte
module _ (s : Pending) (b : ℕ) where
  -- it ends the line
  line-ends : b ≡ 10 → Left (kept s) s.complete (b ∷ []) [] (s.complete + 1)
  line-ends e = record { begun = ap (take 16) (sym (unfinished-none (kept s) b e)); complete = rw (ended-one (kept s) b e) refl }

  module _ (h : Sound s) (e : b ≡ 10 → ⊥) where
    -- it is kept
    line-grows : s.len < 16 → Left (kept s) s.complete (b ∷ []) (take (s.len + 1) (set s.bytes s.len b)) s.complete
    line-grows l =
        let m : length (kept s ++ b ∷ []) ≤ 16 = rw (length-append, kept-length s h) (omega arith) in
        let grown = ap (λ n. take n (set s.bytes s.len b)) (add-one s.len) ∙ take-suc-set s.bytes s.len b (omega arith) in
        let all = take_all 16 (kept s ++ b ∷ []) m in
        record {
          begun = grown ∙ sym all ∙ ap (take 16) (sym (unfinished-more (kept s) b e));
          complete = rw (ended-none (kept s) b e) (omega arith);
        }

    -- the line is too long already, and stays as it is
    line-full : 16 ≤ s.len → Left (kept s) s.complete (b ∷ []) (kept s) s.complete
    line-full l =
        let held = kept-length s h in
        let whole = take-append-le 16 (kept s) (b ∷ []) (omega arith) ∙ take_all 16 (kept s) (omega arith) in
        record {
          begun = sym whole ∙ ap (take 16) (sym (unfinished-more (kept s) b e));
          complete = rw (ended-none (kept s) b e) (omega arith);
        }

-- ---- i bytes
pub record SoFar (run history numbers part first : List ℕ) (from : ℕ) (s : Pending) (out : List ℕ) (r : Fed) (i : ℕ) : Type 0 where
  pub within : i ≤ length part
  pub left : Left (kept s) s.complete (take i part) (kept r.pending) r.pending.complete
  pub put : Put first from (replies (basis_with run history) (s.complete + 1) (ended (kept s) (take i part))) out r.at
  pub most : r.at ≤ from + reply_room * i
  pub ready : Ready run history numbers r.pending (length part - i) out r.at

module _ {run history numbers part first : List ℕ} {from : ℕ} {s : Pending} where
  pub begins : Ready run history numbers s (length part) first from → SoFar run history numbers part first from s first (record { pending = s; at = from }) 0
  unfolding ended unfinished replies
  begins h =
      let k = kept-length s h.sound in
      let all : length part - 0 ≡ length part = omega arith in
      record {
        within = omega arith;
        left = record { begun = sym (take_all 16 (kept s) (omega arith)); complete = omega arith };
        put = nothing first from (omega arith);
        most = omega arith;
        ready = rw all h;
      }

  module _ {out : List ℕ} {r : Fed} {i : ℕ} (h : SoFar run history numbers part first from s out r i) where
    -- what stands next of the text is taken, however much it is
    turns : (t : List ℕ) → take i part ++ t ≡ take (i + length t) part → i + length t ≤ length part → {after : List ℕ} (next : Fed) →
        Left (kept r.pending) r.pending.complete t (kept next.pending) next.pending.complete →
        Put out r.at (replies (basis_with run history) (r.pending.complete + 1) (ended (kept r.pending) t)) after next.at →
        next.at ≤ r.at + reply_room * length t → Sound next.pending → SoFar run history numbers part first from s after next (i + length t)
    turns t grown l next k p m d =
        let says = said-next h.left t (basis_with run history) in
        let few = ended-few (kept r.pending) t in
        record {
          within = l;
          left = rw grown at (left-next h.left t k);
          put = rw grown at (being says refl (then h.put p));
          most = omega arith;
          ready = record { tabled = h.ready.tabled; room = omega arith; sound = d; countable = omega arith };
        }

    -- a part of n bytes, as `feed` takes it
    pub part-turns : (n : ℕ) {after : List ℕ} {next : Fed} → Answered (basis_with run history) r.pending (take n (drop i part)) out r.at after next →
        i + n ≤ length part → SoFar run history numbers part first from s after next (i + n)
    part-turns n {next = next} a l =
        let t = take n (drop i part) in
        let size = length-take-le n (drop i part) (rw (length-drop i part) (omega arith)) in
        let grown = sym (take-add i n part) ∙ ap (λ k. take (i + k) part) (sym size) in
        rw size at (turns t grown (omega arith) next (left-part a) a.put a.most (left-sound a))

    -- the first n of the bytes that are left, and those behind them
    module _ {rest : List ℕ} (e : rest ≡ drop i part) where
      left-long : length rest ≡ length part - i
      left-long = ap length e ∙ length-drop i part

      pub ready-for : (n : ℕ) → n ≤ length rest → Ready run history numbers r.pending n out r.at
      ready-for n l = let m = left-long in record { tabled = h.ready.tabled; room = omega arith; sound = h.ready.sound; countable = omega arith }

      pub front-turns : (n : ℕ) → n ≤ length rest → {front after : List ℕ} {next : Fed} → front ≡ take n rest →
          Answered (basis_with run history) r.pending front out r.at after next → SoFar run history numbers part first from s after next (i + n)
      front-turns n l f a = let m = left-long in part-turns n (rw (f, e) at a) (omega arith)

    -- all of it
    pub ends : length part ≤ i → Answered (basis_with run history) s part first from out r
    ends l =
        let left = rw (take_all i part l) at h.left in
        record {
          left = pending-is _ _ r.pending h.ready.sound left.begun left.complete;
          put = rw (take_all i part l) at h.put;
          most = omega arith;
        }

    -- a byte
    module _ (l : i < length part) where
      byte-turns : {after : List ℕ} (next : Fed) →
          Left (kept r.pending) r.pending.complete (get_or part i 0 ∷ []) (kept next.pending) next.pending.complete →
          Put out r.at (replies (basis_with run history) (r.pending.complete + 1) (ended (kept r.pending) (get_or part i 0 ∷ []))) after next.at →
          next.at ≤ r.at + reply_room → Sound next.pending → SoFar run history numbers part first from s after next (i + 1)
      byte-turns next k p m d =
          let grown = sym (ap (λ n. take n part) (add-one i) ∙ take-suc part i 0 l) in
          turns (get_or part i 0 ∷ []) grown (omega arith) next k p (omega arith) d

      -- byte 10: the line is answered
      pub line-answered : get_or part i 0 ≡ 10 → {after : List ℕ} {at : ℕ} →
          Put out r.at (reply_to (basis_with run history) (line_of (r.pending.complete + 1) (kept r.pending))) after at → at ≤ r.at + reply_room →
          SoFar run history numbers part first from s after (record { pending = empty_after (r.pending.complete + 1); at = at }) (i + 1)
      line-answered e {after} {at} p m =
          let n = r.pending.complete + 1 in
          let says = ap (replies (basis_with run history) n) (ended-one (kept r.pending) _ e) ∙ reply-alone (basis_with run history) n (kept r.pending) in
          byte-turns (record { pending = empty_after n; at = at }) (line-ends r.pending _ e) (being (sym says) refl p) m (sound_empty n)

      -- any other byte: nothing is answered
      module _ (e : get_or part i 0 ≡ 10 → ⊥) where
        no-reply : Put out r.at (replies (basis_with run history) (r.pending.complete + 1) (ended (kept r.pending) (get_or part i 0 ∷ []))) out r.at
        no-reply =
            let n = r.pending.complete + 1 in
            let says = ap (replies (basis_with run history) n) (ended-none (kept r.pending) _ e) ∙ no-replies (basis_with run history) n in
            being (sym says) refl (nothing out r.at (omega arith))

        pub byte-kept : r.pending.len < 16 → let p = r.pending in
            SoFar run history numbers part first from s out
            (record { pending = record { bytes = set p.bytes p.len (get_or part i 0); len = p.len + 1; complete = p.complete }; at = r.at }) (i + 1)
        byte-kept k =
            let next = sound-grows r.pending (get_or part i 0) h.ready.sound k in
            byte-turns _ (line-grows r.pending _ h.ready.sound e k) no-reply (omega arith) next

        pub byte-dropped : 16 ≤ r.pending.len → SoFar run history numbers part first from s out r (i + 1)
        byte-dropped k = byte-turns r (line-full r.pending _ h.ready.sound e k) no-reply (omega arith) h.ready.sound

  -- all that are left
  pub rest-turns : {out after : List ℕ} {r next : Fed} {i : ℕ} (h : SoFar run history numbers part first from s out r i) {rest : List ℕ} → rest ≡ drop i part →
      Answered (basis_with run history) r.pending rest out r.at after next → Answered (basis_with run history) s part first from after next
  rest-turns h {rest} e a =
      let m = left-long h e in
      ends (front-turns h e (length rest) (omega arith) (sym (take_all (length rest) rest (omega arith))) a) (omega arith)
