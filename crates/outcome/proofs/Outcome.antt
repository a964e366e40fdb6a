-- The laws of checks, and of work that goes step by step and stops at the first refusal, for any step. Assumes nothing.
use mathlib.Core.Path.{◌≡◌, refl, ap, sym, ◌∙◌}
use mathlib.Core.Bool.{Bool, true, false, ◌&&◌}
use Prim.Native.Nat.{ℕ, zero, suc, ◌+◌, ◌-◌, ◌≤◌, ◌<◌}
use native.Mathlib.Nat.{suc-add, zero-add}
use native.Mathlib.Omega.{arith}
use lib.IntN.{ℤ, pos, ◌+ℤ◌}
use Rattle.outcome.specs.declared.Refusal.{Refusal}
use Rattle.std.specs.Prelude.{Result, Err}
use Rattle.outcome.specs.Outcome.{finding, Finding, passed, refused_by, Outcome, value, refused, unless, passes, first_of, checked, and_then, steps, add_to, sum_of}

-- ---- checks
-- what a definition says of a check that turns out to be one of its two cases
pub found : {c case : Result (Unit {0}) Refusal} {f : Finding} → finding c ≡ f → c ≡ case → f ≡ finding case
found e told = sym e ∙ ap finding told

-- a check that refuses has not passed
pub refused-stands : (r : Refusal) → finding (Err r) ≡ passed → ⊥
refused-stands r h = let z : ◌≡◌ {A = ℕ} 0 1 = cc in absurd (omega arith)

-- what passed held
pub unless-passed : (ok : Bool) (r : Refusal) → unless ok r ≡ passed → ok ≡ true
unless-passed true r h = refl
unless-passed false r h = let z : ◌≡◌ {A = ℕ} 0 1 = cc in absurd (omega arith)

-- the first of two decides
pub first-passed : (first next : Finding) → first ≡ passed → first_of first next ≡ next
first-passed first next h = rw h refl

pub first-stands : (first next : Finding) {r : Refusal} → first ≡ refused_by r → first_of first next ≡ first
first-stands first next h = rw h

pub first-refused : (first next : Finding) (r : Refusal) → first ≡ refused_by r → first_of first next ≡ refused_by r
first-refused first next r h = rw h refl

pub both-passed : (first next : Finding) → first_of first next ≡ passed → (first ≡ passed) × (next ≡ passed)
both-passed passed next h = (refl, h)
both-passed (refused_by r) next h = let z : ◌≡◌ {A = ℕ} 0 1 = cc in absurd (omega arith)

-- the same of what a check says of itself
pub says-passed : (c : Finding) {ok : Bool} → ok ≡ passes c → ok ≡ true → c ≡ passed
says-passed passed p q = refl
says-passed (refused_by r) p q = let z : ◌≡◌ {A = ℕ} 0 1 = cc in absurd (omega arith)

pub both-pass : (first next : Finding) {a b : Bool} → a ≡ passes first → b ≡ passes next → (a && b) ≡ passes (first_of first next)
both-pass passed next p q = rw (p, q) refl
both-pass (refused_by r) next p q = rw p refl

-- three in a row, however they are put together
pub first-together : (a b c : Finding) → first_of (first_of a b) c ≡ first_of a (first_of b c)
first-together passed b c = refl
first-together (refused_by r) b c = refl

-- of two checks that are those of a definition, the first decides there too
pub first-same : {c d e f : Finding} → c ≡ e → d ≡ f → first_of c d ≡ first_of e f
first-same p q = rw (p, q) refl

-- work that follows a check
pub checked-passed : {A : Type 0} (check : Finding) (work : Outcome A) → check ≡ passed → checked check work ≡ work
checked-passed check work h = rw h refl

pub checked_refused : {A : Type 0} (check : Finding) (work : Outcome A) (r : Refusal) → check ≡ refused_by r → checked check work ≡ refused r
checked_refused check work r h = rw h refl

-- an answer says that the check passed
pub checked_value : {A : Type 0} (check : Finding) (work : Outcome A) (a : A) → checked check work ≡ value a → (check ≡ passed) × (work ≡ value a)
checked_value passed work a h = (refl, h)
checked_value (refused_by r) work a h = let z : ◌≡◌ {A = ℕ} 0 1 = cc in absurd (omega arith)

-- ---- steps
module _ {A : Type 0} (step : ℕ → A → Outcome A) (start : A) where
  -- no step: the start
  pub none : steps step start 0 ≡ value start
  unfolding steps
  none = refl

  -- one step more, from the value so far
  pub next : (k : ℕ) (a : A) → steps step start k ≡ value a → steps step start (suc k) ≡ step k a
  unfolding steps
  next k a h = ap (λ (o : Outcome A). and_then o (step k)) h

  later : (k d : ℕ) (r : Refusal) → steps step start k ≡ refused r → steps step start (d + k) ≡ refused r
  unfolding steps
  later k zero r h = rw zero-add h
  later k (suc d) r h = rw suc-add (ap (λ (o : Outcome A). and_then o (step (d + k))) (later k d r h))

  -- a refusal stands after every further step
  pub persists : (k n : ℕ) (r : Refusal) → k ≤ n → steps step start k ≡ refused r → steps step start n ≡ refused r
  persists k n r le h = let e : n ≡ (n - k) + k = omega arith in rw e (later k (n - k) r h)

-- a value of the whole came from a value of the part
pub came : {A B : Type 0} (o : Outcome A) (f : A → Outcome B) (b : B) → and_then o f ≡ value b → (a : A) × (o ≡ value a) × (f a ≡ value b)
came (value a) f b h = (a, refl, h)
came (refused r) f b h = let z : ◌≡◌ {A = ℕ} 0 1 = cc in absurd (omega arith)

-- What holds of the start, and passes along each step that gives a value, holds of the value after n steps
pub along : {A : Type 0} (step : ℕ → A → Outcome A) (start : A) (P : ℕ → A → Type 0) (n : ℕ) → P 0 start
    → ((k : ℕ) (a b : A) → k < n → P k a → step k a ≡ value b → P (suc k) b)
    → (b : A) → steps step start n ≡ value b → P n b
unfolding steps
along step start P zero p0 ps b h = let e : start ≡ b = cc in rw (← e) p0
along step start P (suc n) p0 ps b h =
    let w = came (steps step start n) (step n) b h in
    ps n w.0 b (omega arith) (along step start P n p0 (λ k a b l. ps k a b (omega arith)) w.0 w.1) w.2

-- ---- sums
module _ (term : ℕ → Outcome ℤ) where
  pub sum-none : sum_of term 0 ≡ value (pos 0)
  unfolding sum_of
  sum-none = none (add_to term) (pos 0)

  pub sum-next : (k : ℕ) (a t : ℤ) → sum_of term k ≡ value a → term k ≡ value t → sum_of term (suc k) ≡ value (a +ℤ t)
  unfolding sum_of
  sum-next k a t h e = next (add_to term) (pos 0) k a h ∙ ap (λ (o : Outcome ℤ). and_then o (λ t. value (a +ℤ t))) e

  pub sum-refused : (k n : ℕ) (a : ℤ) (r : Refusal) → k < n → sum_of term k ≡ value a → term k ≡ refused r → sum_of term n ≡ refused r
  unfolding sum_of
  sum-refused k n a r l h e =
      let after = next (add_to term) (pos 0) k a h in
      persists (add_to term) (pos 0) (suc k) n r l (after ∙ ap (λ (o : Outcome ℤ). and_then o (λ t. value (a +ℤ t))) e)
