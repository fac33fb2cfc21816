-- A whole number beside a fraction.
use Rattle.std.specs.Prelude.{ℕ, ◌*◌, ◌≤◌, ℤ, pos, ◌-ℤ◌, ◌*ℤ◌, nat_abs}

-- d times the distance of r from n / d
abbrev pub apart : (r n : ℤ) (d : ℕ) → ℕ
apart r n d = nat_abs (r *ℤ pos d -ℤ n)

-- r is a nearest integer to n / d: within 1/2 of it
abbrev pub Nearest : (r n : ℤ) (d : ℕ) → Type 0
Nearest r n d = 2 * apart r n d ≤ d
