-- The exact fractions of 002, and "the result lies within 6/10 of the exact fraction, stated over whole numbers".
use Rattle.std.specs.Prelude.{ℕ, ◌*◌, ◌≤◌, min, ℤ, pos, negsuc, ◌+ℤ◌, ◌-ℤ◌, ◌*ℤ◌}
use Rattle.colour_tables.specs.Near.{apart}

-- v less its offset
abbrev pub less : ℕ → ℕ → ℤ
less offset v = pos v -ℤ pos offset

-- 255 R', which is red_exact over red_over: 255 ((Y - 16) / 219 + 2 (1 - Kr) (Cr - 128) / 224)
abbrev pub red_over : ℕ
red_over = 219 * (224 * 1000)

abbrev pub red_exact : (y cr : ℕ) → ℤ
red_exact y cr = less 16 y *ℤ pos (255 * (224 * 1000)) +ℤ less 128 cr *ℤ pos (255 * 219 * (2 * 701))

-- 255 B'
abbrev pub blue_over : ℕ
blue_over = 219 * (224 * 1000)

abbrev pub blue_exact : (y cb : ℕ) → ℤ
blue_exact y cb = less 16 y *ℤ pos (255 * (224 * 1000)) +ℤ less 128 cb *ℤ pos (255 * 219 * (2 * 886))

-- 255 G'
abbrev pub green_over : ℕ
green_over = 219 * (224 * 587000)

abbrev pub green_exact : (y cb cr : ℕ) → ℤ
green_exact y cb cr = less 16 y *ℤ pos (255 * (224 * 587000)) -ℤ less 128 cb *ℤ pos (255 * 219 * (2 * 886 * 114)) -ℤ less 128 cr *ℤ pos (255 * 219 * (2 * 701 * 299))

-- r lies within 6/10 of n / d
abbrev pub WithinSixTenths : (r n : ℤ) (d : ℕ) → Type 0
WithinSixTenths r n d = 10 * apart r n d ≤ 6 * d

-- n / d brought into 0 to 255: this over d
abbrev pub between : ℕ → ℤ → ℤ
between most (pos n) = pos (min n most)
between most (negsuc n) = pos 0

abbrev pub clamped : (n : ℤ) (d : ℕ) → ℤ
clamped n d = between (255 * d) n
