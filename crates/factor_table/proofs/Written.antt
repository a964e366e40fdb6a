-- A part of a list written in place: what stands in it, and what stands before it. Assumes nothing.
use Rattle.std.proofs.Common.{◌≡◌, ℕ, ◌+◌, ◌<◌, ◌≤◌, List, length, get_or, rules}
use Rattle.std.proofs.lemmas.List.{places}
use borrow.Rule.Slice.PartMut.{put_mid}

module _ (at count : ℕ) (numbers written : List ℕ) (h : at ≤ length numbers) where
  pub written-in : (i : ℕ) → i < length written → get_or (put_mid at count numbers written) (at + i) 0 ≡ get_or written i 0
  written-in i l = search (rules, places)

  pub written-before : (i : ℕ) → i < at → get_or (put_mid at count numbers written) i 0 ≡ get_or numbers i 0
  written-before i l = search (rules, places)
