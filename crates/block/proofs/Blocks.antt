-- A block that is built is accepted and holds its data; one that is accepted is the block of its data. Assumes nothing.
use Rattle.std.proofs.Common.{◌≡◌, ℕ, suc, ◌+◌, ◌<◌, ◌≤◌, List, [], ◌∷◌, ◌++◌, length, get_or, take, drop, sym, refl, ap, ◌∙◌, append_assoc, arith, length-append, length-drop, take-append-drop, length-take, get_or-drop, take_at, get_or-append-add, take-add, eqb-true}
use Rattle.little_endian.specs.Bytes.{u16_at, u32_at, u16_bytes, u32_bytes}
use Rattle.outcome.proofs.Outcome.{unless-passed, both-passed}
use Rattle.outcome.specs.Outcome.{passed}
use Rattle.little_endian.proofs.Bytes.{u16-back, u32-back, bytes-of-u16, bytes-of-u32}
use Rattle.block.specs.Block.{check_of, block_check, block_of}
use Rattle.block.proofs.WordSums.{check-local, check-fits}
use Rattle.block.proofs.Turns.{sound}

-- ---- from data to their block
check-stands : (s : List ℕ) (n : ℕ) → length s ≡ 508 → n < 4_294_967_296 → u32_at (s ++ u32_bytes n) 508 ≡ n
check-stands s n l h =
    let at : (k : ℕ) → get_or (s ++ u32_bytes n) (508 + k) 0 ≡ get_or (u32_bytes n) k 0 =
    λ k. ap (λ m. get_or (s ++ u32_bytes n) (m + k) 0) (sym l) ∙ get_or-append-add s (u32_bytes n) k 0 in
    simp (at 0, at 1, at 2, at 3) (u32-back n h)

module _ (place : ℕ) (part : List ℕ) (l : length part ≡ 506) where
  pub block-length : length (block_of place part) ≡ 512
  unfolding block_of
  block-length = simp (length-append, l)

  pub data-stand : (rest : List ℕ) → take 506 (drop 2 (block_of place part ++ rest)) ≡ part
  unfolding block_of
  data-stand rest =
      let t = u32_bytes (check_of (u16_bytes place ++ part)) in
      ap (take 506) (append_assoc part t rest) ∙ take_at part (t ++ rest) 506 l

  right-check : u32_at (block_of place part) 508 ≡ check_of (block_of place part)
  unfolding block_of
  right-check =
      let s = u16_bytes place ++ part in
      check-stands s (check_of s) (ap (λ n. suc (suc n)) l) (check-fits s) ∙ sym (check-local s (u32_bytes (check_of s)) (omega arith))

  right-number : place < 65536 → u16_at (block_of place part) 0 ≡ place
  unfolding block_of
  right-number h = u16-back place h

  pub block-accepted : place < 65536 → block_check place (block_of place part) ≡ passed
  block-accepted h = sound place (block_of place part) right-check (right-number h)

-- ---- from a block to its data and back
two : (l : List ℕ) → 2 ≤ length l → take 2 l ≡ get_or l 0 0 ∷ get_or l 1 0 ∷ []
two [] h = absurd (omega arith)
two (a ∷ []) h = absurd (omega arith)
two (a ∷ b ∷ l) h = refl

four : (l : List ℕ) → length l ≡ 4 → l ≡ get_or l 0 0 ∷ get_or l 1 0 ∷ get_or l 2 0 ∷ get_or l 3 0 ∷ []
four [] h = absurd (omega arith)
four (a ∷ []) h = absurd (omega arith)
four (a ∷ b ∷ []) h = absurd (omega arith)
four (a ∷ b ∷ c ∷ []) h = absurd (omega arith)
four (a ∷ b ∷ c ∷ d ∷ []) h = refl
four (a ∷ b ∷ c ∷ d ∷ e ∷ l) h = absurd (omega arith)

module _ (place : ℕ) (block : List ℕ) (l : length block ≡ 512) (bytes : (i : ℕ) → i < 512 → get_or block i 0 < 256)
    (h : block_check place block ≡ passed) where
  has : (u32_at block 508 ≡ check_of block) × (u16_at block 0 ≡ place)
  unfolding block_check
  has = let e = both-passed _ _ h in (eqb-true _ _ (unless-passed _ _ e.0), eqb-true _ _ (unless-passed _ _ e.1))

  head-is : take 2 block ≡ u16_bytes place
  head-is = two block (omega arith) ∙ bytes-of-u16 _ _ (bytes 0 (omega arith)) (bytes 1 (omega arith)) ∙ ap u16_bytes has.1

  body_is : take 508 block ≡ u16_bytes place ++ take 506 (drop 2 block)
  body_is = take-add 2 506 block ∙ ap (λ x. x ++ take 506 (drop 2 block)) head-is

  tail-is : drop 508 block ≡ u32_bytes (u32_at block 508)
  tail-is =
      let n : length (drop 508 block) ≡ 4 = simp length-drop (omega arith) in
      let at : (i : ℕ) → i < 4 → get_or block (508 + i) 0 < 256 = λ i k. bytes (508 + i) (omega arith) in
      four (drop 508 block) n
      ∙ simp get_or-drop (bytes-of-u32 _ _ _ _ (at 0 (omega arith)) (at 1 (omega arith)) (at 2 (omega arith)) (at 3 (omega arith)))

  check-is : check_of block ≡ check_of (take 508 block)
  check-is =
      ap check_of (sym (take-append-drop 508 block))
      ∙ check-local (take 508 block) (drop 508 block) (simp length-take (omega arith))

  pub block_back : block_of place (take 506 (drop 2 block)) ≡ block
  unfolding block_of
  block_back =
      ap (λ x. x ++ u32_bytes (check_of x)) (sym body_is)
      ∙ ap (λ n. take 508 block ++ u32_bytes n) (sym (has.0 ∙ check-is))
      ∙ ap (λ x. take 508 block ++ x) (sym tail-is)
      ∙ take-append-drop 508 block
