-- DC prediction from the neighbours L (left), DL, D (below), DR: the means.
use Rattle.std.specs.Prelude.{Bool, cond, ltb, ℤ, pos, nat_abs, ◌+ℤ◌, ◌-ℤ◌, ◌*ℤ◌}
use Rattle.numeric.specs.Divide.{toward_zero}

-- "(29L−26DL+29D)//32"
unfoldable pub mean_ldl_d : ℤ → ℤ → ℤ → ℤ
mean_ldl_d l dl d = toward_zero (l *ℤ pos 29 -ℤ dl *ℤ pos 26 +ℤ d *ℤ pos 29) 32

-- "(75L+53DR)//128"
unfoldable pub mean_ldr : ℤ → ℤ → ℤ
mean_ldr l dr = toward_zero (l *ℤ pos 75 +ℤ dr *ℤ pos 53) 128

-- "(3DL+10D+3DR)//16"
unfoldable pub mean_dl_ddr : ℤ → ℤ → ℤ → ℤ
mean_dl_ddr dl d dr = toward_zero (dl *ℤ pos 3 +ℤ d *ℤ pos 10 +ℤ dr *ℤ pos 3) 16

-- "(L+D)//2", "(DL+DR)//2"
unfoldable pub mean_of_two : ℤ → ℤ → ℤ
mean_of_two x y = toward_zero (x +ℤ y) 2

-- "more than 128 away"
unfoldable pub far : ℤ → ℤ → Bool
far a b = ltb 128 (nat_abs (a -ℤ b))

-- "but the first of D, L, DL from which it is more than 128 away replaces it"
unfoldable pub kept : ℤ → ℤ → ℤ → ℤ → ℤ
kept p l dl d = cond (far p d) d (cond (far p l) l (cond (far p dl) dl p))

unfoldable pub replaced : ℤ → ℤ → ℤ → ℤ
replaced l dl d = kept (mean_ldl_d l dl d) l dl d
