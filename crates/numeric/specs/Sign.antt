-- A number by its sign and its magnitude.
use Rattle.std.specs.Prelude.{ℕ, cond, eqb, ℤ, pos, neg_ℤ}

-- "Sign 1 is minus"
unfoldable pub with_sign : ℕ → ℕ → ℤ
with_sign sign n = cond (eqb sign 1) (neg_ℤ (pos n)) (pos n)
