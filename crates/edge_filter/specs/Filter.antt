-- "Loop filter": what it makes of p1 and p2, by the limit L.
use Rattle.std.specs.Prelude.{cond, ℕ, suc, ◌-◌, ◌*◌, ltb, ℤ, pos, negsuc, neg_ℤ, ◌+ℤ◌, ◌-ℤ◌, ◌*ℤ◌}
use Rattle.numeric.specs.Divide.{floor_shift}
use Rattle.numeric.specs.Clamp.{clamp255}

-- "R = (p0−3p1+3p2−p3+4)>>3"
unfoldable pub response_of : ℕ → ℕ → ℕ → ℕ → ℤ
response_of p0 p1 p2 p3 = floor_shift (pos p0 -ℤ pos 3 *ℤ pos p1 +ℤ pos 3 *ℤ pos p2 -ℤ pos p3 +ℤ pos 4) 3

-- "f: R if |R|<L; sign·(2L−|R|) if L≤|R|<2L; else 0": of the magnitude n of R
unfoldable pub tent_of : ℕ → ℕ → ℕ
tent_of L n = cond (ltb n L) n (cond (ltb n (2 * L)) (2 * L - n) 0)

-- and with the sign of R
unfoldable pub limited_of : ℕ → ℤ → ℤ
limited_of L (pos n) = pos (tent_of L n)
limited_of L (negsuc n) = neg_ℤ (pos (tent_of L (suc n)))

-- "p1 gains f(R), p2 loses it, clamped"
unfoldable pub filtered : ℕ → ℕ → ℕ → ℕ → ℕ → ℕ × ℕ
filtered L p0 p1 p2 p3 = let v = limited_of L (response_of p0 p1 p2 p3) in (clamp255 (pos p1 +ℤ v), clamp255 (pos p2 -ℤ v))
