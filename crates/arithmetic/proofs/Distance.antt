-- How a distance passes through the operations: `Within v q m` says that v is at most m halves of a unit from q. Assumes nothing.
use mathlib.Core.Path.{◌≡◌, ◌∙◌, ap, sym}
use mathlib.Core.Bool.{Bool, true, false, not, cond}
use lib.Dec.{T, nleb→lt}
use Prim.Native.Nat.{ℕ, ◌+◌, ◌*◌, ◌≤◌, ◌<◌}
use native.Mathlib.Omega.{arith}
use native.Mathlib.Nat.{mul-le-mul, mul-le-mul_left, mul-le-mul_right, mul-pos, le_of_mul-le-mul_left}
use lib.IntN.{ℤ, pos, negsuc, nat_abs, neg_ℤ, ◌+ℤ◌, ◌-ℤ◌, ◌*ℤ◌}
use lib.Signed.{◌≤ℤ◌, le_z}
use Rattle.arithmetic.specs.Round.{round_div}
use Rattle.arithmetic.specs.Fraction.{Fraction, Within, whole, ◌over◌, round, ◌+ᶠ◌, ◌*ᶠ◌, ◌-ᶠ◌, ◌/ᶠ◌, lesser, lesser_ℤ}
use Rattle.arithmetic.specs.Rounding.{HalvesAreHalves}
use Rattle.arithmetic.proofs.Difference.{parts, ring, up, dn, ⊖-eq, eq-⊖, ⊖-abs*, abs*-⊖, ⊖-≤, ≤-⊖, parts-≤, nat_abs-add, nat_abs_mul, nat_abs-neg}
use Rattle.arithmetic.proofs.Rounding.{round-near}

-- ---- whole numbers, wider distances, roundings
-- a whole number is 0 from itself
pub within-whole : (v : ℤ) → Within v (whole v) 0
within-whole v = record { proper = omega arith; near = rw (zero v) (omega arith) }
  where
    zero : (v : ℤ) → v *ℤ pos 1 -ℤ v ≡ pos 0
    zero v = rw (parts v) (simp ring (⊖-eq _ _ _ _ (omega arith)))

pub within_more : {v : ℤ} {q : Fraction} {m n : ℕ} → Within v q m → m ≤ n → Within v q n
within_more {q = q} h k = record { proper = h.proper; near = omega (arith, h.near, mul-le-mul_right q.den k) }

-- and 1 is two halves from 0, and not one
pub halves-are-halves : HalvesAreHalves
halves-are-halves =
    record {
      two = record { proper = omega arith; near = omega arith };
      not_one = λ w. let h : 2 ≤ 1 = w.near in omega arith;
    }

-- a rounded fraction is at most one half from the fraction
pub within-round : (q : Fraction) → 0 < q.den → Within (round q) q 1
within-round q h = record { proper = h; near = rw (turn (round q) q.num q.den) (omega (arith, round-near q.num q.den h)) }
  where
    turn : (r N : ℤ) (d : ℕ) → r *ℤ pos d -ℤ N ≡ pos d *ℤ r -ℤ N
    turn r N d = rw (parts r, parts N) (simp ring (⊖-eq _ _ _ _ (omega arith)))

-- ---- sums and differences: the distances add up
pub within-sum : {v w : ℤ} {p q : Fraction} {a b : ℕ} → Within v p a → Within w q b → Within (v +ℤ w) (p +ᶠ q) (a + b)
within-sum {v} {w} {p} {q} {a} {b} h k =
    let d = p.den in let e = q.den in
    let x = v *ℤ pos d -ℤ p.num in
    let y = w *ℤ pos e -ℤ q.num in
    let i = mul-le-mul_right e h.near in
    let j = mul-le-mul_right d k.near in
    record {
      proper = mul-pos h.proper k.proper;
      near = rw (two v w p.num q.num d e) (omega (arith, nat_abs-add (x *ℤ pos e) (y *ℤ pos d), nat_abs_mul x (pos e), nat_abs_mul y (pos d)));
    }
  where
    two : (v w N M : ℤ) (d e : ℕ)
        → (v +ℤ w) *ℤ pos (d * e) -ℤ (N *ℤ pos e +ℤ M *ℤ pos d) ≡ (v *ℤ pos d -ℤ N) *ℤ pos e +ℤ (w *ℤ pos e -ℤ M) *ℤ pos d
    two v w N M d e = rw (parts v, parts w, parts N, parts M) (simp ring (⊖-eq _ _ _ _ (omega arith)))

within-negated : {v : ℤ} {q : Fraction} {m : ℕ} → Within v q m → Within (neg_ℤ v) (neg_ℤ q.num over q.den) m
within-negated {v} {q} h =
    record { proper = h.proper; near = rw (turn v q.num q.den, nat_abs-neg (v *ℤ pos q.den -ℤ q.num)) h.near }
  where
    turn : (v N : ℤ) (d : ℕ) → neg_ℤ v *ℤ pos d -ℤ neg_ℤ N ≡ neg_ℤ (v *ℤ pos d -ℤ N)
    turn v N d = rw (parts v, parts N) (simp ring (⊖-eq _ _ _ _ (omega arith)))

pub within-difference : {v w : ℤ} {p q : Fraction} {a b : ℕ} → Within v p a → Within w q b → Within (v -ℤ w) (p -ᶠ q) (a + b)
within-difference {p = p} {q = q} h k = rw (negated q.num p.den) (within-sum h (within-negated k))
  where
    negated : (N : ℤ) (d : ℕ) → neg_ℤ (N *ℤ pos d) ≡ neg_ℤ N *ℤ pos d
    negated N d = rw (parts N) (simp ring (⊖-eq _ _ _ _ (omega arith)))

-- ---- rounded products over u
-- the identity behind a rounded product, in parts that `omega` can multiply out (it takes at most 64 monomials)
through : (X N M h : ℤ) → X -ℤ N *ℤ M ≡ (X -ℤ h *ℤ M) +ℤ (h -ℤ N) *ℤ M
through X N M h = rw (parts X, parts N, parts M, parts h) (simp ring (⊖-eq _ _ _ _ (omega arith)))

rounded : (r f g : ℤ) (u d e : ℕ) → r *ℤ pos (d * e * u) ≡ (pos u *ℤ r -ℤ f *ℤ g) *ℤ pos (d * e) +ℤ f *ℤ pos d *ℤ (g *ℤ pos e)
rounded r f g u d e = rw (parts r, parts f, parts g) (simp ring (⊖-eq _ _ _ _ (omega arith)))

gathered : (Y h K M Z : ℤ) → (Y +ℤ h *ℤ K -ℤ h *ℤ M) +ℤ Z ≡ Y +ℤ (h *ℤ (K -ℤ M) +ℤ Z)
gathered Y h K M Z = rw (parts Y, parts h, parts K, parts M, parts Z) (simp ring (⊖-eq _ _ _ _ (omega arith)))

three : (r f g N M : ℤ) (u d e : ℕ) → r *ℤ pos (d * e * u) -ℤ N *ℤ M
    ≡ (pos u *ℤ r -ℤ f *ℤ g) *ℤ pos (d * e) +ℤ (f *ℤ pos d *ℤ (g *ℤ pos e -ℤ M) +ℤ (f *ℤ pos d -ℤ N) *ℤ M)
three r f g N M u d e =
    through (r *ℤ pos (d * e * u)) N M (f *ℤ pos d)
    ∙ rw (rounded r f g u d e) (gathered ((pos u *ℤ r -ℤ f *ℤ g) *ℤ pos (d * e)) (f *ℤ pos d) (g *ℤ pos e) M ((f *ℤ pos d -ℤ N) *ℤ M))

-- f g / u rounded, where f is at most w u in size and the fraction for g at most u: the distance of f, w times that of g, and one half
pub within-product-times : {f g : ℤ} {F G : Fraction} {a b : ℕ} (w u : ℕ) → 0 < u → Within f F a → Within g G b → nat_abs f ≤ w * u
    → nat_abs G.num ≤ u * G.den →
    Within (round_div (f *ℤ g) u) (F *ᶠ G /ᶠ u) (a + w * b + 1)
within-product-times {f} {g} {F} {G} {a} {b} w u hu hF hG f≤ G≤ =
    let r = round_div (f *ℤ g) u in
    let d = F.den in let e = G.den in let N = F.num in let M = G.num in
    let x = pos u *ℤ r -ℤ f *ℤ g in
    let y = g *ℤ pos e -ℤ M in
    let z = f *ℤ pos d -ℤ N in
    let sx = nat_abs_mul x (pos (d * e)) in
    let sy : nat_abs (f *ℤ pos d *ℤ y) ≡ nat_abs f * d * nat_abs y = nat_abs_mul (f *ℤ pos d) y ∙ ap (λ (n : ℕ). n * nat_abs y) (nat_abs_mul f (pos d)) in
    let sz = nat_abs_mul z M in
    let p : 2 * nat_abs x * (d * e) ≤ u * (d * e) = mul-le-mul_right (d * e) (round-near (f *ℤ g) u hu) in
    let q : nat_abs f * d * (2 * nat_abs y) ≤ w * u * d * (b * e) = mul-le-mul (mul-le-mul_right d f≤) hG.near in
    let t : 2 * nat_abs z * nat_abs M ≤ a * d * (u * e) = mul-le-mul hF.near G≤ in
    let s₁ = nat_abs-add (x *ℤ pos (d * e)) (f *ℤ pos d *ℤ y +ℤ z *ℤ M) in
    let s₂ = nat_abs-add (f *ℤ pos d *ℤ y) (z *ℤ M) in
    record { proper = mul-pos (mul-pos hF.proper hG.proper) hu; near = rw (three r f g N M u d e) (omega arith) }

-- where both are at most u in size: the two distances, and one half
pub within-product : {f g : ℤ} {F G : Fraction} {a b : ℕ} (u : ℕ) → 0 < u → Within f F a → Within g G b → nat_abs f ≤ u → nat_abs G.num ≤ u * G.den →
    Within (round_div (f *ℤ g) u) (F *ᶠ G /ᶠ u) (a + b + 1)
within-product u hu hF hG f≤ G≤ = within_more (within-product-times 1 u hu hF hG (omega arith) G≤) (omega arith)

-- a rounded share m / n of f beside that of N / d: the share of what was between them, and one half
pub share-near : (f N : ℤ) (d m n : ℕ) → 0 < n → 2 * nat_abs (round_div (f *ℤ pos m) n *ℤ pos (d * n) -ℤ N *ℤ pos m) ≤ n * d + 2 * nat_abs (f *ℤ pos d -ℤ N) * m
share-near f N d m n hn =
    let r = round_div (f *ℤ pos m) n in
    let x = pos n *ℤ r -ℤ f *ℤ pos m in
    let z = f *ℤ pos d -ℤ N in
    let p : 2 * nat_abs x * d ≤ n * d = mul-le-mul_right d (round-near (f *ℤ pos m) n hn) in
    rw (two r f N m n d) (omega (arith, nat_abs-add (x *ℤ pos d) (z *ℤ pos m), nat_abs_mul x (pos d), nat_abs_mul z (pos m)))
  where
    two : (r f N : ℤ) (m n d : ℕ) → r *ℤ pos (d * n) -ℤ N *ℤ pos m ≡ (pos n *ℤ r -ℤ f *ℤ pos m) *ℤ pos d +ℤ (f *ℤ pos d -ℤ N) *ℤ pos m
    two r f N m n d = rw (parts r, parts f, parts N) (simp ring (⊖-eq _ _ _ _ (omega arith)))

-- where m is at most n: one half more
pub within-share : {f : ℤ} {F : Fraction} {a : ℕ} (m n : ℕ) → 0 < n → m ≤ n → Within f F a → Within (round_div (f *ℤ pos m) n) (F *ᶠ (pos m over n)) (a + 1)
within-share {f} {F} {a} m n hn m≤ hF =
    let t : 2 * nat_abs (f *ℤ pos F.den -ℤ F.num) * m ≤ a * F.den * n = mul-le-mul hF.near m≤ in
    record { proper = mul-pos hF.proper hn; near = omega (arith, share-near f F.num F.den m n hn) }

-- ---- the lesser of two
-- a distance as two bounds: 2 v d ≤ 2 N + m d and 2 N ≤ 2 v d + m d
record Bounds (v N : ℤ) (d m : ℕ) : Type 0 where
  high : (pos (2 * d) *ℤ v) ≤ℤ (pos 2 *ℤ N +ℤ pos (m * d))
  low : (pos 2 *ℤ N) ≤ℤ (pos (2 * d) *ℤ v +ℤ pos (m * d))

to-bounds : (v N : ℤ) (d m : ℕ) → 2 * nat_abs (v *ℤ pos d -ℤ N) ≤ m * d → Bounds v N d m
to-bounds v N d m h =
    let h' = abs*-⊖ _ _ 2 (m * d) (simp ring at (rw (parts v, parts N) at h)) in
    record {
      high = rw (parts v, parts N) (simp ring (⊖-≤ _ _ _ _ (omega arith)));
      low = rw (parts v, parts N) (simp ring (⊖-≤ _ _ _ _ (omega arith)));
    }

of-bounds : (v N : ℤ) (d m : ℕ) → Bounds v N d m → 2 * nat_abs (v *ℤ pos d -ℤ N) ≤ m * d
of-bounds v N d m b =
    let h = ≤-⊖ _ _ _ _ (simp ring at (rw (parts v, parts N) at b.high)) in
    let l = ≤-⊖ _ _ _ _ (simp ring at (rw (parts v, parts N) at b.low)) in
    rw (parts v, parts N) (simp ring (⊖-abs* _ _ 2 (m * d) (omega arith) (omega arith)))

-- where the whole numbers lie one way round and the fractions the other, the lesser whole number is near the lesser fraction too
crossed : {v w : ℤ} {p q : Fraction} {m : ℕ} → v ≤ℤ w → (q.num *ℤ pos p.den) ≤ℤ (p.num *ℤ pos q.den) → Within v p m → Within w q m → Within v q m
crossed {v} {w} {p} {q} {m} v≤ q≤ h k =
    let first = to-bounds v p.num p.den m h.near in
    let second = to-bounds w q.num q.den m k.near in
    record { proper = k.proper; near = of-bounds v q.num q.den m (at p.num q.num p.den q.den h.proper q≤ first second) }
  where
    at : (N M : ℤ) (d e : ℕ) → 0 < d → (M *ℤ pos d) ≤ℤ (N *ℤ pos e) → Bounds v N d m → Bounds w M e m → Bounds v M e m
    at N M d e hd M≤ h k =
        let a = ≤-⊖ _ _ _ _ (rw (parts v, parts w) at v≤) in
        let b = ≤-⊖ _ _ _ _ (simp ring at (rw (parts M, parts N) at M≤)) in
        let l = ≤-⊖ _ _ _ _ (simp ring at (rw (parts v, parts N) at h.low)) in
        let g = ≤-⊖ _ _ _ _ (simp ring at (rw (parts w, parts M) at k.high)) in
        let a' = mul-le-mul_left (2 * e) a in
        let l' = mul-le-mul_left e l in
        let c : d * (2 * up M + 2 * e * dn v) ≤ d * (2 * dn M + 2 * e * up v + m * e) = omega arith in
        let c' = le_of_mul-le-mul_left c hd in
        record {
          high = rw (parts v, parts M) (simp ring (⊖-≤ _ _ _ _ (omega arith)));
          low = rw (parts v, parts M) (simp ring (⊖-≤ _ _ _ _ (omega arith)));
        }

not-le : (x y : ℤ) → T (not (le_z x y)) → y ≤ℤ x
not-le (pos a) (pos b) t = parts-≤ (pos b) (pos a) (omega (arith, nleb→lt a b t))
not-le (pos a) (negsuc b) t = record { le = tt }
not-le (negsuc a) (pos b) t = absurd t
not-le (negsuc a) (negsuc b) t = parts-≤ (negsuc b) (negsuc a) (omega (arith, nleb→lt b a t))

pub within-lesser : {v w : ℤ} {p q : Fraction} {m : ℕ} → Within v p m → Within w q m → Within (lesser_ℤ v w) (lesser p q) m
within-lesser {v} {w} {p} {q} {m} h k =
    let x = p.num *ℤ pos q.den in let y = q.num *ℤ pos p.den in
    by (le_z v w) (le_z x y) (λ t. record { le = t }) (not-le v w) (λ t. record { le = t }) (not-le x y)
  where
    by : (s t : Bool) → (T s → v ≤ℤ w) → (T (not s) → w ≤ℤ v) → (T t → (p.num *ℤ pos q.den) ≤ℤ (q.num *ℤ pos p.den))
        → (T (not t) → (q.num *ℤ pos p.den) ≤ℤ (p.num *ℤ pos q.den)) → Within (cond s v w) (cond t p q) m
    by true true f g f' g' = h
    by false false f g f' g' = k
    by true false f g f' g' = crossed (f tt) (g' tt) h k
    by false true f g f' g' = crossed (g tt) (f' tt) k h

-- ---- equal fractions: the distance does not depend on how the fraction is written
pub within-equal : {v : ℤ} {p q : Fraction} {m : ℕ} → Within v p m → 0 < q.den → p.num *ℤ pos q.den ≡ q.num *ℤ pos p.den → Within v q m
within-equal {v} {p} {q} {m} h k e =
    let d = p.den in let c = q.den in
    let x = v *ℤ pos d -ℤ p.num in
    let y = v *ℤ pos c -ℤ q.num in
    let s : nat_abs y * d ≡ nat_abs x * c = sym (nat_abs_mul y (pos d)) ∙ ap nat_abs (over-both v p.num q.num d c e) ∙ nat_abs_mul x (pos c) in
    let t : d * (2 * nat_abs y) ≤ d * (m * c) = omega (arith, mul-le-mul_right c h.near) in
    record { proper = k; near = le_of_mul-le-mul_left t h.proper }
  where
    over-both : (v N M : ℤ) (d c : ℕ) → N *ℤ pos c ≡ M *ℤ pos d → (v *ℤ pos c -ℤ M) *ℤ pos d ≡ (v *ℤ pos d -ℤ N) *ℤ pos c
    over-both v N M d c e =
        let e' = eq-⊖ _ _ _ _ (simp ring at (rw (parts N, parts M) at e)) in
        rw (parts v, parts N, parts M) (simp ring (⊖-eq _ _ _ _ (omega arith)))
