-- A basis read and written back is the same file; written and read back, the same basis: block by block, each is the other's way back.
-- Assumes nothing.
use mathlib.Core.Path.{◌≡◌, refl, sym, ap, ◌∙◌}
use mathlib.Core.List.{List, [], ◌∷◌, ◌++◌}
use Prim.Native.Nat.{ℕ, zero, suc, ◌+◌, ◌*◌, ◌<◌, ◌≤◌}
use native.Mathlib.Omega.{arith}
use lib.ListN.{length, take, drop, get_or, length-take, length-drop, take-append-drop}
use lib.Seq.{take_at, drop_at, take-take, get_or-take, get_or-drop}
use Rattle.layout.specs.Layout.{blocks_in, run_length, form_of_run, form_of_file}
use Rattle.layout.proofs.EachForm.{run-high}
use Rattle.run_check.specs.Run.{run_check}
use Rattle.outcome.proofs.Outcome.{both-passed}
use Rattle.block.specs.Block.{block_check, block_of}
use Rattle.block.proofs.Blocks.{block-length, data-stand, block-accepted, block_back}
use Rattle.block.specs.Blocks.{parts_of, blocks_of, blocks_check}
use Rattle.basis_file.specs.File.{run_in, file_of, file_blocks_check, file_check}
use Rattle.basis_file.specs.RoundTrips.{RoundTrips}
use Rattle.basis_file.proofs.Files.{file-form, file-size, run-length, run-form, right-size, outer-passed, file-passed, accepted-run}
use Rattle.outcome.specs.Outcome.{passed}

-- ---- from a run to its file and back
parts-back : (n place : ℕ) (run : List ℕ) → length run ≡ 506 * n → parts_of n (blocks_of place n run) ≡ run
unfolding parts_of blocks_of
parts-back zero place [] h = refl
parts-back zero place (x ∷ xs) h = absurd (omega arith)
parts-back (suc n) place run h =
    let part = take 506 run in
    let rest = blocks_of (place + 1) n (drop 506 run) in
    let p : length part ≡ 506 = simp length-take (omega arith) in
    let r = parts-back n (place + 1) (drop 506 run) (simp length-drop (omega arith)) in
    simp (data-stand place part p rest, drop_at (block_of place part) rest 512 (block-length place part p), r) (take-append-drop 506 run)

-- written and read back, the same basis
pub run-back : (run : List ℕ) → length run ≡ run_length (form_of_run (length run)) → run_in (file_of run) ≡ run
unfolding run_in file_of
run-back run h = ap (λ form. parts_of (blocks_in form) (file_of run)) (file-form run h) ∙ parts-back (blocks_in (form_of_run (length run))) 0 run h

blocks-accepted : (n place : ℕ) (run : List ℕ) → place + n ≤ 65536 → length run ≡ 506 * n → blocks_check place n (blocks_of place n run) ≡ passed
unfolding blocks_check blocks_of
blocks-accepted zero place run h l = refl
blocks-accepted (suc n) place run h l =
    let part = take 506 run in
    let p : length part ≡ 506 = simp length-take (omega arith) in
    let b = block_of place part in
    let rest = blocks_of (place + 1) n (drop 506 run) in
    simp (
      take_at b rest 512 (block-length place part p),
      drop_at b rest 512 (block-length place part p),
      block-accepted place part p (omega arith),
      blocks-accepted n (place + 1) (drop 506 run) (omega arith) (simp length-drop (omega arith)),
    )

file-accepted : (run : List ℕ) → length run ≡ run_length (form_of_run (length run)) → file_blocks_check (file_of run) ≡ passed
unfolding file_of
file-accepted run l =
    let form = form_of_run (length run) in
    ap (λ other. blocks_check 0 (blocks_in other) (file_of run)) (file-form run l) ∙ blocks-accepted (blocks_in form) 0 run (omega (arith, run-high form)) l

-- ---- from a file to its run and back
part_of : (file : List ℕ) → take 506 (drop 2 (take 512 file)) ≡ take 506 (drop 2 file)
part_of [] = refl
part_of (a ∷ []) = refl
part_of (a ∷ b ∷ file) = take-take 506 510 file (omega arith)

blocks-back : (n place : ℕ) (file : List ℕ) → length file ≡ 512 * n → ((i : ℕ) → get_or file i 0 < 256) → blocks_check place n file ≡ passed
    → blocks_of place n (parts_of n file) ≡ file
unfolding blocks_check blocks_of parts_of
blocks-back zero place [] l b h = refl
blocks-back zero place (x ∷ xs) l b h = absurd (omega arith)
blocks-back (suc n) place file l b h =
    let block = take 512 file in
    let part = take 506 (drop 2 file) in
    let behind = drop 512 file in
    let ok = both-passed (block_check place block) (blocks_check (place + 1) n behind) h in
    let p : length part ≡ 506 = simp (length-take, length-drop) (omega arith) in
    let m : length block ≡ 512 = simp length-take (omega arith) in
    let back = block_back place block m (λ i q. rw (get_or-take 512 file i 0 q) (b i)) ok.0 in
    let later = blocks-back n (place + 1) behind (simp length-drop (omega arith)) (λ i. rw (get_or-drop 512 file i 0) (b (512 + i))) ok.1 in
    simp (take_at part (parts_of n behind) 506 p, drop_at part (parts_of n behind) 506 p, later)
    (ap (λ x. block_of place x ++ behind) (sym (part_of file)) ∙ ap (λ x. x ++ behind) back ∙ take-append-drop 512 file)

-- the run in an accepted file is accepted
pub run-accepted : (file : List ℕ) → file_check file ≡ passed → run_check (run_in file) ≡ passed
run-accepted file h = (file-passed file h).1

-- and has the length of the file's form
pub run-size : (file : List ℕ) → file_check file ≡ passed → length (run_in file) ≡ run_length (form_of_file (length file))
run-size file h = run-length file (outer-passed file (file-passed file h).0).0

-- ---- both ways round
pub round-trips : RoundTrips
unfolding run_in file_of file_check
round-trips =
    record {
      same_file = λ file b h.
          let o = outer-passed file (file-passed file h).0 in
          ap (λ form. blocks_of 0 (blocks_in form) (run_in file)) (run-form file o.0) ∙ blocks-back (blocks_in (form_of_file (length file))) 0 file o.0 b o.1;
      same_basis = λ run h.
          let l = accepted-run run h in
          (simp (right-size (file_of run) (file-size run l), file-accepted run l, run-back run l) h, run-back run l);
    }
