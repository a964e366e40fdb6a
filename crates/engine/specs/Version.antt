-- The version of the surface, 0.8.0, as one number: a later version has a greater one.
use Rattle.std.specs.Prelude.{ℕ, ◌+◌, ◌*◌}

-- major, minor and patch, where minor and patch are below 100
abbrev pub version_number : ℕ → ℕ → ℕ → ℕ
version_number major minor patch = 10000 * major + 100 * minor + patch

abbrev pub version : ℕ
version = version_number 0 8 0
