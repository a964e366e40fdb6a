-- Numbers in a list of bytes (01, "The basis file": numbers are little-endian).
use Rattle.std.specs.Prelude.{ℕ, suc, ◌+◌, ◌*◌, ◌-◌, ◌/◌, ◌%◌, ◌^◌, cond, List, [], ◌∷◌, get_or, ltb, ℤ, pos, negsuc}

abbrev pub byte_at : List ℕ → ℕ → ℕ
byte_at s at = get_or s at 0

abbrev pub u16_at : List ℕ → ℕ → ℕ
u16_at s at = byte_at s at + 256 * byte_at s (at + 1)

abbrev pub u32_at : List ℕ → ℕ → ℕ
u32_at s at = byte_at s at + 256 * byte_at s (at + 1) + 65536 * byte_at s (at + 2) + 16777216 * byte_at s (at + 3)

-- the number that 32 bits stand for: n itself below 2 ^ 31, and n - 2 ^ 32 from there on (negsuc m is - m - 1)
unfoldable pub signed32 : ℕ → ℤ
signed32 n = cond (ltb n (2 ^ 31)) (pos n) (negsuc (2 ^ 32 - suc n))

abbrev pub i32_at : List ℕ → ℕ → ℤ
i32_at s at = signed32 (u32_at s at)

-- ---- the bytes of a number, the lowest first
abbrev pub u16_bytes : ℕ → List ℕ
u16_bytes n = n % 256 ∷ n / 256 % 256 ∷ []

abbrev pub u32_bytes : ℕ → List ℕ
u32_bytes n = n % 256 ∷ n / 256 % 256 ∷ n / 65536 % 256 ∷ n / 16777216 % 256 ∷ []

-- the 32 bits that stand for a signed number
abbrev pub unsigned32 : ℤ → ℕ
unsigned32 (pos n) = n
unsigned32 (negsuc n) = 2 ^ 32 - suc n

abbrev pub i32_bytes : ℤ → List ℕ
i32_bytes z = u32_bytes (unsigned32 z)
