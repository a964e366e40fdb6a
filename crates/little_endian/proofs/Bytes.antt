-- The bytes of a number give the number back, bytes below 256 are those of their number, and the same bytes are the same number. Assumes
-- nothing.
use mathlib.Core.Path.{◌≡◌, refl, sym, ap, ◌∙◌}
use mathlib.Core.List.{List, [], ◌∷◌}
use Prim.Native.Nat.{ℕ, ◌+◌, ◌*◌, ◌/◌, ◌%◌, ◌^◌, ◌<◌, ◌≤◌}
use native.Mathlib.Omega.{arith}
use native.Mathlib.Nat.{add-zero, mod-eq_of_lt, div-add-mod', div-div-eq-div-mul}
use lib.Arith.{digits_div, digits_mod}
use lib.IntN.{ℤ, pos, negsuc, nat_abs}
use borrow.Author.Tests.{lt-ltb, le-ltb}
use Rattle.little_endian.specs.Bytes.{byte_at, u16_at, u32_at, signed32, i32_at, u16_bytes, u32_bytes, unsigned32, i32_bytes}

-- ---- from a number to its bytes and back
joined : (n q r t a b c d : ℕ) → q * 256 + a ≡ n → r * 256 + b ≡ q → t * 256 + c ≡ r → d ≡ t → a + 256 * b + 65536 * c + 16777216 * d ≡ n
joined n q r t a b c d e f g h = omega arith

pub u32-back : (n : ℕ) → n < 4_294_967_296 → u32_at (u32_bytes n) 0 ≡ n
u32-back n h =
    joined n (n / 256) (n / 65536) (n / 16777216) _ _ _ _ (div-add-mod' n 256)
    (rw (← div-div-eq-div-mul n 256 256) (div-add-mod' (n / 256) 256))
    (rw (← div-div-eq-div-mul n 65536 256) (div-add-mod' (n / 65536) 256)) (mod-eq_of_lt (omega arith))

pub u16-back : (n : ℕ) → n < 65536 → u16_at (u16_bytes n) 0 ≡ n
u16-back n h = omega arith

-- ---- from bytes to their number and back
quotient : (n q r : ℕ) → n ≡ q * 256 + r → r < 256 → n / 256 ≡ q
quotient n q r e h = ap (λ (x : ℕ). x / 256) e ∙ digits_div q h

remainder : (n q r : ℕ) → n ≡ q * 256 + r → r < 256 → n % 256 ≡ r
remainder n q r e h = ap (λ (x : ℕ). x % 256) e ∙ digits_mod q h

pub bytes-of-u16 : (a b : ℕ) → a < 256 → b < 256 → a ∷ b ∷ [] ≡ u16_bytes (a + 256 * b)
bytes-of-u16 a b h k =
    simp (remainder (a + 256 * b) b a (omega arith) h, quotient (a + 256 * b) b a (omega arith) h, mod-eq_of_lt k)

pub bytes-of-u32 : (a b c d : ℕ) → a < 256 → b < 256 → c < 256 → d < 256
    → a ∷ b ∷ c ∷ d ∷ [] ≡ u32_bytes (a + 256 * b + 65536 * c + 16777216 * d)
bytes-of-u32 a b c d h k l m =
    let n = a + 256 * b + 65536 * c + 16777216 * d in
    let q = b + 256 * c + 65536 * d in
    let r = c + 256 * d in
    let e : n / 256 ≡ q = quotient n q a (omega arith) h in
    let f : n / 65536 ≡ r = sym (div-div-eq-div-mul n 256 256) ∙ ap (λ (x : ℕ). x / 256) e ∙ quotient q r b (omega arith) k in
    let g : n / 16777216 ≡ d = sym (div-div-eq-div-mul n 65536 256) ∙ ap (λ (x : ℕ). x / 256) f ∙ quotient r d c (omega arith) l in
    simp (e, f, g, remainder n q a (omega arith) h, remainder q r b (omega arith) k, remainder r d c (omega arith) l, mod-eq_of_lt m)

-- ---- signed numbers
unsigned-fits : (z : ℤ) → nat_abs z < 2 ^ 31 → unsigned32 z < 4_294_967_296
unsigned-fits (pos n) h = omega arith
unsigned-fits (negsuc n) h = omega arith

signed_back : (z : ℤ) → nat_abs z < 2 ^ 31 → signed32 (unsigned32 z) ≡ z
unfolding signed32
signed_back (pos n) h = simp (lt-ltb n (2 ^ 31) (omega arith))
signed_back (negsuc n) h =
    let m = unsigned32 (negsuc n) in
    let l : 2 ^ 31 ≤ m = omega arith in
    rw (le-ltb m (2 ^ 31) l) (ap negsuc (omega arith))

pub i32-back : (z : ℤ) → nat_abs z < 2 ^ 31 → i32_at (i32_bytes z) 0 ≡ z
i32-back z h = ap signed32 (u32-back (unsigned32 z) (unsigned-fits z h)) ∙ signed_back z h

-- ---- numbers whose bytes are the same
pub same_word : (s t : List ℕ) (at from : ℕ) → ((j : ℕ) → j < 4 → byte_at s (at + j) ≡ byte_at t (from + j)) → u32_at s at ≡ u32_at t from
same_word s t at from h =
    let e : byte_at s at ≡ byte_at t from = simp add-zero at (h 0 (omega arith)) in
    rw (e, h 1 (omega arith), h 2 (omega arith), h 3 (omega arith)) refl
