-- The n numbers from place b on, after a number is set or a gap is closed. Assumes nothing.
use Rattle.std.proofs.Common.{◌≡◌, ℕ, suc, ◌+◌, ◌-◌, ◌<◌, ◌≤◌, List, [], ◌∷◌, ◌++◌, length, take, drop, set, sym, refl, ap, ◌∙◌, append_assoc, arith, length-drop, length-take-le, drop-drop, take-suc-set, take_at, drop-set-lt, take-add, drop_at}
use lib.Seq.{take-append-le, drop-append-le, drop-append-add, drop-set-add, take-set-le}
use Rattle.roll.specs.Kept.{without, closed_up}
use Rattle.roll.proofs.Places.{length_without, without-behind}

abbrev pub area : ℕ → ℕ → List ℕ → List ℕ
area b n l = take n (drop b l)

-- ---- a number set
pub area-behind : (b n i v : ℕ) (l : List ℕ) → i < b → area b n (set l i v) ≡ area b n l
area-behind b n i v l h = rw (drop-set-lt b l i v h) refl

pub area-before : (b n i v : ℕ) (l : List ℕ) → b + n ≤ i → area b n (set l i v) ≡ area b n l
area-before b n i v l h =
    let e : i ≡ b + (i - b) = omega arith in
    let k : n ≤ i - b = omega arith in
    rw e (rw (drop-set-add b l (i - b) v) (take-set-le n (drop b l) (i - b) v k))

pub area-next : (b n v : ℕ) (l : List ℕ) → b + n < length l → area b (suc n) (set l (b + n) v) ≡ area b n l ++ v ∷ []
area-next b n v l h =
    let k : n < length (drop b l) = rw length-drop (omega arith) in
    rw (drop-set-add b l n v) (take-suc-set (drop b l) n v k)

-- ---- a gap closed among the suc n numbers from place b on
module _ (b i n : ℕ) (l : List ℕ) (h : i < suc n) (k : b + suc n ≤ length l) where
  closed-split : closed_up (b + i) (b + suc n) l ≡ take b l ++ closed_up i (suc n) (drop b l)
  closed-split =
      let e : length (take b l) ≡ b = length-take-le b l (omega arith) in
      let d : b + suc n - 1 ≡ b + n = omega arith in
      let c : suc n - 1 ≡ n = omega arith in
      rw (take-add b (suc n) l, d, c, drop-drop n b l)
      (ap (λ j. without (j + i) (take b l ++ take (suc n) (drop b l)) ++ drop (b + n) l) (sym e)
      ∙ ap (λ m. m ++ drop (b + n) l) (without-behind (take b l) (take (suc n) (drop b l)) i)
      ∙ append_assoc (take b l) (without i (take (suc n) (drop b l))) (drop (b + n) l))

  pub closed-here : area b n (closed_up (b + i) (b + suc n) l) ≡ without i (area b (suc n) l)
  closed-here =
      let e : length (take b l) ≡ b = length-take-le b l (omega arith) in
      let a : length (area b (suc n) l) ≡ suc n = length-take-le (suc n) (drop b l) (rw length-drop (omega arith)) in
      let w : length (without i (area b (suc n) l)) ≡ n = omega (arith, length_without i (area b (suc n) l) (rw a h)) in
      rw (closed-split, drop_at (take b l) (closed_up i (suc n) (drop b l)) b e)
      (take_at (without i (area b (suc n) l)) (drop (suc n - 1) (drop b l)) n w)

  -- what lies before, and what lies behind
  pub closed-before : (c m : ℕ) → c + m ≤ b → area c m (closed_up (b + i) (b + suc n) l) ≡ area c m l
  closed-before c m g =
      let p : c ≤ length (take b l) = rw (length-take-le b l (omega arith)) (omega arith) in
      let q : m ≤ length (drop c (take b l)) = rw (length-drop, length-take-le b l (omega arith)) (omega arith) in
      let whole : (r : List ℕ) → area c m (take b l ++ r) ≡ take m (drop c (take b l)) =
      λ r. rw (drop-append-le c (take b l) r p) (take-append-le m (drop c (take b l)) r q) in
      rw closed-split (whole (closed_up i (suc n) (drop b l))) ∙ sym (whole (drop b l)) ∙ ap (area c m) (lib.ListN.take-append-drop b l)

  pub closed-behind : (c m : ℕ) → b + n ≤ c → area c m (closed_up (b + i) (b + suc n) l) ≡ area c m l
  closed-behind c m g =
      let t = take (b + suc n) l in
      let e : length t ≡ b + suc n = length-take-le (b + suc n) l k in
      let j : b + i < length t = omega arith in
      let w : length (without (b + i) t) ≡ b + n = omega (arith, length_without (b + i) t j) in
      let d : b + suc n - 1 ≡ b + n = omega arith in
      let s : c ≡ length (without (b + i) t) + (c - (b + n)) = omega arith in
      let u : b + n + (c - (b + n)) ≡ c = omega arith in
      ap (λ o. take m (drop o (closed_up (b + i) (b + suc n) l))) s
      ∙ rw (drop-append-add (without (b + i) t) (drop (b + suc n - 1) l) (c - (b + n)), d, drop-drop (c - (b + n)) (b + n) l, u) refl
