-- A roll with one member more, and with one less: its length, its year, how many it holds, each area, and what lies behind. Assumes nothing.
use Rattle.std.proofs.Common.{◌≡◌, ℕ, suc, ◌+◌, ◌-◌, ◌%◌, ◌^◌, ◌<◌, ◌≤◌, List, [], ◌∷◌, ◌++◌, length, get_or, take, drop, set, sym, refl, ap, ◌∙◌, zero-add, arith, length-set, get_or-set_other, get_or-take, get_or-set_same, drop-set-lt}
use Rattle.roll.specs.Kept.{year_in, count_in, area_from, area_in, put_in_areas, with_member, without, closed_areas, without_member}
use Rattle.roll.proofs.Areas.{area, area-behind}
use Rattle.roll.proofs.EachArea.{put-length, put-before, put_in, put-behind, closed-length, closed-front, closed-further, closed_in}

-- the two numbers before the areas
same-front : (l k : List ℕ) (i : ℕ) → i < 2 → area 0 2 l ≡ area 0 2 k → get_or l i 0 ≡ get_or k i 0
same-front l k i h e = sym (get_or-take 2 l i 0 h) ∙ ap (λ a. get_or a i 0) e ∙ get_or-take 2 k i 0 h

module _ (roll : List ℕ) (room : 2002 ≤ length roll) where
  -- ---- one more
  module _ (number age pension liability : ℕ) (more : count_in roll < 500) where
    fields : List ℕ
    fields = number ∷ age ∷ pension ∷ liability ∷ []

    counted : List ℕ
    counted = set roll 1 (count_in roll + 1)

    with-is : with_member number age pension liability roll ≡ put_in_areas 0 (count_in roll) fields counted
    unfolding with_member fields counted
    with-is = refl

    counted-length : length counted ≡ length roll
    unfolding counted
    counted-length = length-set roll 1 (count_in roll + 1)

    with-front : (i : ℕ) → i < 2 → get_or (with_member number age pension liability roll) i 0 ≡ get_or counted i 0
    with-front i h = rw with-is (same-front (put_in_areas 0 (count_in roll) fields counted) counted i h (put-before 0 (count_in roll) fields counted 0 2 (omega arith)))

    pub with-length : length (with_member number age pension liability roll) ≡ length roll
    with-length = rw with-is (put-length 0 (count_in roll) fields counted ∙ counted-length)

    pub with-year : year_in (with_member number age pension liability roll) ≡ year_in roll
    unfolding counted
    with-year = ap (λ y. y % 2 ^ 32) (with-front 0 (omega arith) ∙ get_or-set_other roll 1 0 (count_in roll + 1) 0 (λ e. omega arith))

    pub with-count : count_in (with_member number age pension liability roll) ≡ suc (count_in roll)
    unfolding counted
    with-count =
        let l : 1 < length roll = omega arith in
        let e = with-front 1 (omega arith) ∙ get_or-set_same roll 1 (count_in roll + 1) 0 l in
        rw e (omega arith)

    pub with-area : (j : ℕ) → j < 4
        → area_in j (with_member number age pension liability roll) ≡ area_in j roll ++ get_or (number ∷ age ∷ pension ∷ liability ∷ []) j 0 ∷ []
    unfolding fields counted
    with-area j h =
        ap (λ m. take m (drop (area_from j) (with_member number age pension liability roll))) with-count
        ∙ rw with-is (rw (zero-add j) at (put_in 0 (count_in roll) fields counted j h more (rw counted-length room)))
        ∙ ap (λ a. a ++ get_or fields j 0 ∷ []) (area-behind (area_from j) (count_in roll) 1 (count_in roll + 1) roll (omega arith))

    pub with-further : drop 2002 (with_member number age pension liability roll) ≡ drop 2002 roll
    unfolding fields counted
    with-further = rw with-is (put-behind 0 (count_in roll) fields counted 2002 more (omega arith) ∙ drop-set-lt 2002 roll 1 (count_in roll + 1) (omega arith))

  -- ---- one less
  module _ (i m : ℕ) (count : count_in roll ≡ suc m) (on : i < suc m) where
    small : suc m ≤ 500
    small = omega arith

    closed : List ℕ
    closed = closed_areas 4 i (suc m) roll

    out-is : without_member i roll ≡ set closed 1 m
    unfolding without_member closed
    out-is = let e : suc m - 1 ≡ m = omega arith in rw (count, e) refl

    all-length : length closed ≡ length roll
    unfolding closed
    all-length = closed-length i m on small 4 roll room

    pub out-length : length (without_member i roll) ≡ length roll
    out-length = rw (out-is, length-set) all-length

    pub out-year : year_in (without_member i roll) ≡ year_in roll
    unfolding closed
    out-year =
        rw (out-is, get_or-set_other closed 1 0 m 0 (λ e. omega arith))
        (ap (λ y. y % 2 ^ 32) (same-front closed roll 0 (omega arith) (closed-front i m on small 4 roll room 0 2 (omega arith))))

    pub out-count : count_in (without_member i roll) ≡ m
    out-count =
        let l : 1 < length closed = rw all-length (omega arith) in
        let s = small in
        rw (out-is, get_or-set_same closed 1 m 0 l) (omega arith)

    pub out-area : (j : ℕ) → j < 4 → area_in j (without_member i roll) ≡ without i (area_in j roll)
    unfolding closed
    out-area j h =
        ap (λ n. take n (drop (area_from j) (without_member i roll))) out-count
        ∙ rw (out-is, count) (area-behind (area_from j) m 1 m closed (omega arith) ∙ closed_in i m on small 4 roll room j h)

    pub out-further : drop 2002 (without_member i roll) ≡ drop 2002 roll
    unfolding closed
    out-further = rw out-is (drop-set-lt 2002 closed 1 m (omega arith) ∙ closed-further i m on small 4 roll room 2002 (omega arith))
