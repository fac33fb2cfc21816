-- A number brought into a sample's range.
use Rattle.std.specs.Prelude.{ℕ, min, ℤ, pos, negsuc}

-- "clamp to 0..255"
unfoldable pub clamp255 : ℤ → ℕ
clamp255 (pos n) = min n 255
clamp255 (negsuc n) = 0
