-- A number put in the next place of each area, and a gap closed in each. Assumes nothing.
use Rattle.std.proofs.Common.{◌≡◌, ℕ, zero, suc, ◌+◌, ◌<◌, ◌≤◌, List, [], ◌∷◌, ◌++◌, length, get_or, drop, set, sym, refl, ap, ◌∙◌, add-zero, arith, length-drop, length-set, take_all, drop-set-lt}
use native.Mathlib.Decide.{dec_lt}
use Rattle.roll.specs.Kept.{area_from, without, put_in_areas, closed_areas}
use Rattle.roll.proofs.Places.{length-closed}
use Rattle.roll.proofs.Areas.{area, area-behind, area-before, area-next, closed-here, closed-before, closed-behind}

-- ---- numbers put in place n of the areas from the k-th on
pub put-length : (k n : ℕ) (xs roll : List ℕ) → length (put_in_areas k n xs roll) ≡ length roll
put-length k n [] roll = refl
put-length k n (x ∷ xs) roll = put-length (suc k) n xs (set roll (area_from k + n) x) ∙ length-set roll (area_from k + n) x

-- what lies before them
pub put-before : (k n : ℕ) (xs roll : List ℕ) (c m : ℕ) → c + m ≤ area_from k + n → area c m (put_in_areas k n xs roll) ≡ area c m roll
put-before k n [] roll c m h = refl
put-before k n (x ∷ xs) roll c m h =
    put-before (suc k) n xs (set roll (area_from k + n) x) c m (omega arith) ∙ area-before c m (area_from k + n) x roll h

-- the k + j-th area has the j-th of them
pub put_in : (k n : ℕ) (xs roll : List ℕ) (j : ℕ) → j < length xs → n < 500 → area_from (k + length xs) ≤ length roll
    → area (area_from (k + j)) (suc n) (put_in_areas k n xs roll) ≡ area (area_from (k + j)) n roll ++ get_or xs j 0 ∷ []
put_in k n [] roll j h small room = absurd (omega arith)
put_in k n (x ∷ xs) roll zero h small room =
    rw (add-zero k)
    (put-before (suc k) n xs (set roll (area_from k + n) x) (area_from k) (suc n) (omega arith) ∙ area-next (area_from k) n x roll (omega arith))
put_in k n (x ∷ xs) roll (suc j) h small room =
    let e : suc k + j ≡ k + suc j = omega arith in
    let r : area_from (suc k + length xs) ≤ length (set roll (area_from k + n) x) = rw length-set (omega arith) in
    let before = put_in (suc k) n xs (set roll (area_from k + n) x) j (omega arith) small r in
    rw e at before
    ∙ ap (λ a. a ++ get_or xs j 0 ∷ []) (area-behind (area_from (k + suc j)) n (area_from k + n) x roll (omega arith))

-- what lies behind them
pub put-behind : (k n : ℕ) (xs roll : List ℕ) (c : ℕ) → n < 500 → area_from (k + length xs) ≤ c → drop c (put_in_areas k n xs roll) ≡ drop c roll
put-behind k n [] roll c small h = refl
put-behind k n (x ∷ xs) roll c small h =
    put-behind (suc k) n xs (set roll (area_from k + n) x) c small (omega arith) ∙ drop-set-lt c roll (area_from k + n) x (omega arith)

-- ---- place i closed up among the suc m of each of the first k areas
module _ (i m : ℕ) (on : i < suc m) (small : suc m ≤ 500) where
  pub closed-length : (k : ℕ) (roll : List ℕ) → area_from k ≤ length roll → length (closed_areas k i (suc m) roll) ≡ length roll
  closed-length zero roll room = refl
  closed-length (suc k) roll room =
      let l = closed-length k roll (omega arith) in
      length-closed (area_from k + i) (area_from k + suc m) (closed_areas k i (suc m) roll) (omega arith) (omega arith) ∙ l

  -- what lies before all areas
  pub closed-front : (k : ℕ) (roll : List ℕ) → area_from k ≤ length roll → (c w : ℕ) → c + w ≤ 2
      → area c w (closed_areas k i (suc m) roll) ≡ area c w roll
  closed-front zero roll room c w h = refl
  closed-front (suc k) roll room c w h =
      let l = closed-length k roll (omega arith) in
      closed-before (area_from k) i m (closed_areas k i (suc m) roll) on (omega arith) c w (omega arith)
      ∙ closed-front k roll (omega arith) c w h

  -- what lies behind the first k
  pub closed-rest : (k : ℕ) (roll : List ℕ) → area_from k ≤ length roll → (c w : ℕ) → area_from k ≤ c
      → area c w (closed_areas k i (suc m) roll) ≡ area c w roll
  closed-rest zero roll room c w h = refl
  closed-rest (suc k) roll room c w h =
      let l = closed-length k roll (omega arith) in
      closed-behind (area_from k) i m (closed_areas k i (suc m) roll) on (omega arith) c w (omega arith)
      ∙ closed-rest k roll (omega arith) c w (omega arith)

  pub closed-further : (k : ℕ) (roll : List ℕ) → area_from k ≤ length roll → (c : ℕ) → area_from k ≤ c
      → drop c (closed_areas k i (suc m) roll) ≡ drop c roll
  closed-further k roll room c h =
      let l = closed-length k roll room in
      let all = closed_areas k i (suc m) roll in
      sym (take_all (length roll) (drop c all) (rw length-drop (omega arith)))
      ∙ closed-rest k roll room c (length roll) h
      ∙ take_all (length roll) (drop c roll) (rw length-drop (omega arith))

  -- each of the first k
  pub closed_in : (k : ℕ) (roll : List ℕ) → area_from k ≤ length roll → (j : ℕ) → j < k
      → area (area_from j) m (closed_areas k i (suc m) roll) ≡ without i (area (area_from j) (suc m) roll)
  closed_in zero roll room j h = absurd (omega arith)
  closed_in (suc k) roll room j h =
      by (dec_lt j k) (closed-length k roll (omega arith)) (closed_in k roll (omega arith) j)
    where
      by : Dec (j < k) → length (closed_areas k i (suc m) roll) ≡ length roll
          → (j < k → area (area_from j) m (closed_areas k i (suc m) roll) ≡ without i (area (area_from j) (suc m) roll))
          → area (area_from j) m (closed_areas (suc k) i (suc m) roll) ≡ without i (area (area_from j) (suc m) roll)
      by (yes p) l before = closed-before (area_from k) i m (closed_areas k i (suc m) roll) on (omega arith) (area_from j) m (omega arith) ∙ before p
      by (no p) l before =
          let e : j ≡ k = omega arith in
          rw e
          (closed-here (area_from k) i m (closed_areas k i (suc m) roll) on (omega arith)
          ∙ ap (without i) (closed-rest k roll (omega arith) (area_from k) (suc m) (omega arith)))
